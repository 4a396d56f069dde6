-- Loops and recursion of `all_of`: what holds, and what becomes less.
use Rattle.std.proofs.Common.{length}
use Rattle.parser.proofs.Counting.{FarList}
use Rattle.parser.proofs.element.all_of.Given as goal

abbrev pub invariant-loop-behind : goal.invariant-loop-behind
invariant-loop-behind g l = FarList g.P.Part.list g.P.Part.words l.initial.rest l.rest l.count l.initial.out l.out

abbrev pub decreases-loop-behind : goal.decreases-loop-behind
decreases-loop-behind g l = length l.rest
