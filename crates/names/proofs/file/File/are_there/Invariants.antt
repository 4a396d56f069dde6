-- `are_there`: the loop's invariant, by what is left.
use Rattle.std.proofs.Common.{◌≡◌, List, ◌∷◌, length}
use Rattle.language.specs.Syntax.{Name, Prog}
use Rattle.language.specs.Meaning.{all_tops}
use Rattle.language.specs.Checks.{all_there}
use Rattle.rows.specs.Has.{Has, named}
use Rattle.rows.specs.Trees.{list_row}
use Rattle.limits.specs.Entries.{Left}
use Rattle.limits.proofs.EntryLaws.{Rest}
use Rattle.names.specs.File.{IsFile}
use Rattle.names.proofs.file.File.are_there.Given as goal

abbrev pub invariant-loop-name : goal.invariant-loop-name
invariant-loop-name l =
    (p : Prog) (y : Name) (xs : List Name) → IsFile p y l.self → Has l.self.row.now l.place (length xs ∷ list_row named xs)
    → Rest (Left named) l.self.row.now (λ ys. all_there (all_tops p 0 0) y xs ≡ all_there (all_tops p 0 0) y ys) l.name-iterator
