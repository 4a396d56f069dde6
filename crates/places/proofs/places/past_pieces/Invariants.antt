use Rattle.places.specs.Tails.{Tail}
use Rattle.places.proofs.places.past_pieces.Given as goal

abbrev pub invariant-loop-cutting : goal.invariant-loop-cutting
invariant-loop-cutting l = Tail l.text l.cutting-iterator.iter.text.now × Tail l.text l.rest
