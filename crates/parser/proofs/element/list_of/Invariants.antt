-- Loops and recursion of `list_of`: what holds, and what becomes less.
use Rattle.std.proofs.Common.{length}
use Rattle.parser.proofs.Counting.{FarList}
use Rattle.parser.proofs.element.list_of.Given as goal

abbrev pub invariant-loop-value : goal.invariant-loop-value
invariant-loop-value g l = FarList (g.E.Element.list l.element) (g.E.Element.words l.element) l.initial.rest l.rest l.count l.initial.out l.out

abbrev pub decreases-loop-value : goal.decreases-loop-value
decreases-loop-value g l = length l.rest
