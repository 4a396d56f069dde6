use Rattle.places.specs.Tails.{Tail}
use Rattle.places.proofs.places.from_piece.Given as goal

abbrev pub invariant-loop-cutting : goal.invariant-loop-cutting
invariant-loop-cutting g l =
    (goal.iterator-loop-cutting g).can_next l.cutting-iterator ×
    (goal.iterator-loop-cutting g).is_finite l.cutting-iterator ×
    Tail l.text l.cutting-iterator.text.now
