-- Loops and recursion of `arg`, `args`, `brackets`, `by_table`, `chain`, `climb`, `more_args`, `name`, `one`, `signed`: what holds, and what becomes less.
use Rattle.std.proofs.Common.{◌+◌, ◌*◌, length}
use Rattle.bodies.proofs.Expressions.{Far, FarArgs}
use Rattle.bodies.proofs.expr.+expressions.Given as goal

abbrev pub decreases-arg : goal.decreases-arg
decreases-arg l = 4 * length l.text.now + 2

abbrev pub decreases-args : goal.decreases-args
decreases-args l = 4 * length l.text.now + 3

abbrev pub decreases-brackets : goal.decreases-brackets
decreases-brackets l = 4 * length l.text.now + 2

abbrev pub decreases-by_table : goal.decreases-by_table
decreases-by_table l = 4 * length l.text.now + 3

abbrev pub decreases-chain : goal.decreases-chain
decreases-chain l = 4 * length l.text.now

abbrev pub decreases-climb : goal.decreases-climb
decreases-climb l = 4 * length l.text.now + 1

abbrev pub decreases-more_args : goal.decreases-more_args
decreases-more_args l = 4 * length l.text.now

abbrev pub decreases-name : goal.decreases-name
decreases-name l = 4 * length l.text.now

abbrev pub decreases-one : goal.decreases-one
decreases-one l = 4 * length l.text.now

abbrev pub decreases-signed : goal.decreases-signed
decreases-signed l = 4 * length l.text.now + 2

abbrev pub invariant-chain-loop-op : goal.invariant-chain-loop-op
invariant-chain-loop-op l = Far l.level l.initial.rest l.rest l.initial.out l.out

abbrev pub decreases-chain-loop-op : goal.decreases-chain-loop-op
decreases-chain-loop-op l = length l.rest

abbrev pub decreases-more_args-loop-behind : goal.decreases-more_args-loop-behind
decreases-more_args-loop-behind l = length l.rest

abbrev pub invariant-more_args-loop-behind : goal.invariant-more_args-loop-behind
invariant-more_args-loop-behind l = FarArgs l.initial.rest l.rest l.count l.initial.out l.out
