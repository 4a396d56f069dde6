-- `check_files`: the loop's invariant, by what is left.
use Rattle.std.proofs.Common.{◌≡◌, ◌≤◌, length}
use Rattle.language.specs.Syntax.{Prog}
use Rattle.rows.specs.Trees.{file_row, prog_row}
use Rattle.limits.specs.Entries.{Left}
use Rattle.limits.proofs.EntryLaws.{Rest}
use Rattle.names.specs.Resolved.{files_resolved}
use Rattle.names.proofs.items.check_files.Given as goal

abbrev pub invariant-loop-file : goal.invariant-loop-file
invariant-loop-file l = (length l.row ≤ length l.pile) × ((p : Prog) → l.row ≡ prog_row p → Rest (Left file_row) l.row (λ fs. files_resolved p p ≡ files_resolved p fs) l.file-iterator)
