-- `Entries::differ`: the loop's invariant, by what is left.
use Rattle.std.proofs.Common.{◌≡◌, ℕ, List}
use Rattle.language.specs.Syntax.{Name}
use Rattle.language.specs.Checks.{once}
use Rattle.rows.specs.Trees.{map_list}
use Rattle.limits.specs.Entries.{Left, NamesAt}
use Rattle.limits.proofs.EntryLaws.{Rest}
use Rattle.limits.proofs.entries.Entries.differ.Given as goal

abbrev pub invariant-loop-here : goal.invariant-loop-here
invariant-loop-here g l =
    (goal.iterator-loop-here g).can_next l.self × (goal.iterator-loop-here g).is_finite l.self
    × ((w : List ℕ) (ts : List g.E.Entry.Tree) (name_of : g.E.Entry.Tree → Name) → Left g.E.Entry.row_of w l.fn.self ts → NamesAt g.E.Entry.row_of name_of w l.offset → Rest (Left g.E.Entry.row_of) w (λ us. once (map_list name_of ts) ≡ once (map_list name_of us)) l.self)
