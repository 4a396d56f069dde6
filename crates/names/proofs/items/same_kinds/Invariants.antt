-- `same_kinds`: the loop's invariant, by what is left of both.
use Rattle.std.proofs.Common.{◌≡◌, List}
use Rattle.rows.specs.Trees.{Local, local_row}
use Rattle.limits.specs.Entries.{Left}
use Rattle.limits.proofs.EntryLaws.{Rest}
use Rattle.names.specs.Fold.{fit}
use Rattle.names.specs.Effects.{local_kinds}
use Rattle.names.proofs.items.same_kinds.Given as goal

abbrev pub invariant-loop-name : goal.invariant-loop-name
invariant-loop-name l =
    (ls ms : List Local) → Left local_row l.row l.fn.names ls → Left local_row l.row l.others ms
    → Rest (Left local_row) l.row (λ us. Rest (Left local_row) l.row (λ vs. fit (local_kinds ls) (local_kinds ms) ≡ fit (local_kinds us) (local_kinds vs)) l.rest) l.name-iterator
