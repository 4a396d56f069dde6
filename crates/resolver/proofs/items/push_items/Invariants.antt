-- `push_items`: the loop's invariant, by what is left.
use Rattle.std.proofs.Common.{◌≡◌, true}
use Rattle.language.specs.Syntax.{File, Prog}
use Rattle.language.specs.Checks.{ok_is}
use Rattle.rows.specs.Has.{Has}
use Rattle.rows.specs.Kinds.{item_kind_no}
use Rattle.rows.specs.Trees.{item_row, file_row}
use Rattle.limits.specs.Entries.{Left}
use Rattle.limits.proofs.EntryLaws.{Rest}
use Rattle.resolver.specs.Sound.{Sound, Lent}
use Rattle.resolver.specs.Items.{item_words}
use Rattle.resolver.proofs.ItemLoops.{RightItem}
use Rattle.resolver.proofs.Walking.{Pushing}
use Rattle.resolver.proofs.items.push_items.Given as goal

abbrev pub invariant-loop-item : goal.invariant-loop-item
invariant-loop-item l =
    Lent l.initial.out l.out × ((p : Prog) (f : File) → Sound l.file.row.now p → ok_is p f.name f.items ≡ true → Has l.file.row.now l.file.name (file_row f) → Rest (Left item_row) l.file.row.now (Pushing (item_words p f.name (item_kind_no l.kind)) (RightItem p f.name) f.items l.initial.out l.out) l.item-iterator)
