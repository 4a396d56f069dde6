-- `find_items`: the loop's invariant, by what is left.
use Rattle.std.proofs.Common.{◌≡◌}
use Rattle.language.specs.Syntax.{Name, Prog}
use Rattle.language.specs.Meaning.{items_of}
use Rattle.rows.specs.Has.{Has, named}
use Rattle.rows.specs.Trees.{file_row, prog_row}
use Rattle.limits.proofs.EntryLaws.{Onward}
use Rattle.names.proofs.find.find_items.Given as goal

abbrev pub invariant-loop : goal.invariant-loop
invariant-loop l = (p : Prog) (f : Name) → l.row ≡ prog_row p → Has l.row l.file (named f) → Onward file_row l.row l.end l.other l.counter (λ gs. items_of p f ≡ items_of gs f)
