use Rattle.places.specs.Tails.{Tail}
use Rattle.places.proofs.places.from_item.Given as goal

abbrev pub invariant-loop-cutting : goal.invariant-loop-cutting
invariant-loop-cutting l = Tail l.text l.cutting-iterator.text.now × Tail l.text l.behind
