-- `are_alike`: the loop's invariant, by what is left.
use Rattle.std.proofs.Common.{◌≡◌, List, ◌∷◌, length}
use Rattle.language.specs.Syntax.{Name, Param, Prog}
use Rattle.language.specs.Checks.{alike}
use Rattle.rows.specs.Has.{Has, named}
use Rattle.rows.specs.Trees.{list_row, map_list, of_param, local_row}
use Rattle.limits.specs.Entries.{Left}
use Rattle.limits.proofs.EntryLaws.{Rest}
use Rattle.names.specs.File.{IsFile}
use Rattle.names.proofs.file.File.are_alike.Given as goal

abbrev pub invariant-loop-name : goal.invariant-loop-name
invariant-loop-name l =
    (p : Prog) (f : Name) (qs : List Param) (xs : List Name) → IsFile p f l.self → Left local_row l.self.row.now l.params (map_list of_param qs) → Has l.self.row.now l.place (length xs ∷ list_row named xs)
    → Rest (Left named) l.self.row.now (λ ys. alike p f qs xs ≡ alike p f qs ys) l.name-iterator
