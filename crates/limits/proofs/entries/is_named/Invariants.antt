use Rattle.language.specs.Syntax.{Name}
use Rattle.rows.specs.Has.{Has, named}
use Rattle.limits.proofs.Letters.{Compared}
use Rattle.limits.proofs.entries.is_named.Given as goal

abbrev pub invariant-loop-letter : goal.invariant-loop-letter
invariant-loop-letter l = (x : Name) → Has l.row l.place (named x) → Compared x l.name l.letter-iterator.a.rest.now l.letter-iterator.b.rest.now
