-- `names_once`: the loop's invariant, by what is left.
use Rattle.std.proofs.Common.{◌≡◌}
use Rattle.language.specs.Syntax.{File}
use Rattle.language.specs.Checks.{once, names_in}
use Rattle.rows.specs.Has.{Has}
use Rattle.rows.specs.Trees.{item_row, file_row}
use Rattle.limits.specs.Entries.{Left}
use Rattle.limits.proofs.EntryLaws.{Rest}
use Rattle.limits.proofs.differ.names_once.Given as goal

abbrev pub invariant-loop-item : goal.invariant-loop-item
invariant-loop-item l =
    goal.iterator-loop-item.can_next l.items × goal.iterator-loop-item.is_finite l.items
    × ((f : File) → Has l.row l.file (file_row f) → Rest (Left item_row) l.row (λ is. once (names_in f.items) ≡ once (names_in is)) l.items)
