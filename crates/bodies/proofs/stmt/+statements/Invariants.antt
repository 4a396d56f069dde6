-- Loops and recursion of `body`, `else_of`, `if_of`, `statement`, `while_of`: what holds, and what becomes less.
use Rattle.std.proofs.Common.{◌+◌, ◌*◌, length}
use Rattle.bodies.proofs.Statements.{FarBody}
use Rattle.bodies.proofs.stmt.+statements.Given as goal

abbrev pub decreases-body : goal.decreases-body
decreases-body l = 4 * length l.text.now + 1

abbrev pub decreases-else_of : goal.decreases-else_of
decreases-else_of l = 4 * length l.text.now

abbrev pub decreases-if_of : goal.decreases-if_of
decreases-if_of l = 4 * length l.text.now + 2

abbrev pub decreases-while_of : goal.decreases-while_of
decreases-while_of l = 4 * length l.text.now + 2

abbrev pub decreases-statement : goal.decreases-statement
decreases-statement l = 4 * length l.text.now

abbrev pub decreases-body-loop-behind : goal.decreases-body-loop-behind
decreases-body-loop-behind l = length l.rest

abbrev pub invariant-body-loop-behind : goal.invariant-body-loop-behind
invariant-body-loop-behind l = FarBody l.initial.rest l.rest l.initial.out l.out
