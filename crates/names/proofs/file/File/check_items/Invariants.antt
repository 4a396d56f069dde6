-- `check_items`: the loop's invariant, by what is left.
use Rattle.std.proofs.Common.{◌≡◌, ◌≤◌, length}
use Rattle.language.specs.Syntax.{File, Prog}
use Rattle.rows.specs.Has.{Has}
use Rattle.rows.specs.Trees.{item_row, file_row, prog_row}
use Rattle.limits.specs.Entries.{Left}
use Rattle.limits.proofs.EntryLaws.{Rest}
use Rattle.names.specs.Resolved.{items_resolved}
use Rattle.names.proofs.file.File.check_items.Given as goal

abbrev pub invariant-loop-item : goal.invariant-loop-item
invariant-loop-item l = (length l.self.row.now ≤ length l.pile) × ((p : Prog) (f : File) → l.self.row.now ≡ prog_row p → Has l.self.row.now l.self.name (file_row f) → Rest (Left item_row) l.self.row.now (λ is. items_resolved p f.name f.items ≡ items_resolved p f.name is) l.item-iterator)
