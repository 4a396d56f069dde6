-- `names_apart`: the loop's invariant, by what is left.
use Rattle.std.proofs.Common.{◌≡◌, List}
use Rattle.language.specs.Syntax.{Name, Item}
use Rattle.language.specs.Checks.{names_in}
use Rattle.rows.specs.Has.{named}
use Rattle.rows.specs.Trees.{item_row}
use Rattle.limits.specs.Apart.{apart}
use Rattle.limits.specs.Entries.{Left}
use Rattle.limits.proofs.EntryLaws.{Rest}
use Rattle.limits.proofs.differ.names_apart.Given as goal

abbrev pub invariant-loop-here : goal.invariant-loop-here
invariant-loop-here l =
    goal.iterator-loop-here.can_next l.names × goal.iterator-loop-here.is_finite l.names
    × ((xs : List Name) (is : List Item) → Left named l.row l.fn.names xs → Left item_row l.row l.items is → Rest (Left named) l.row (λ ms. apart xs (names_in is) ≡ apart ms (names_in is)) l.names)
