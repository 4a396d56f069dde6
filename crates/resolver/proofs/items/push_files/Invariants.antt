-- `push_files`: the loop's invariant, by what is left.
use Rattle.language.specs.Syntax.{Prog}
use Rattle.rows.specs.Kinds.{item_kind_no}
use Rattle.rows.specs.Trees.{file_row}
use Rattle.limits.specs.Entries.{Left}
use Rattle.limits.proofs.EntryLaws.{Rest}
use Rattle.resolver.specs.Sound.{Sound, Lent}
use Rattle.resolver.specs.Items.{file_words}
use Rattle.resolver.proofs.ItemLoops.{RightFile}
use Rattle.resolver.proofs.Walking.{Pushing}
use Rattle.resolver.proofs.items.push_files.Given as goal

abbrev pub invariant-loop-file : goal.invariant-loop-file
invariant-loop-file l = Lent l.initial.out l.out × ((p : Prog) → Sound l.row p → Rest (Left file_row) l.row (Pushing (file_words p (item_kind_no l.kind)) (RightFile p) p l.initial.out l.out) l.file-iterator)
