-- `find_top`: the loops' invariants, by what is ahead.
use Rattle.std.proofs.Common.{◌≡◌, ◌+◌, length}
use Rattle.language.specs.Syntax.{Name, File, Prog}
use Rattle.rows.specs.Has.{Has}
use Rattle.rows.specs.Trees.{list_row, item_row, file_row}
use Rattle.limits.proofs.EntryLaws.{Onward}
use Rattle.names.proofs.Searching.{Files, Items}
use Rattle.names.specs.File.{IsFile}
use Rattle.names.specs.Finds.{behind}
use Rattle.names.proofs.file.File.find_top.Given as goal

abbrev pub invariant-loop : goal.invariant-loop
invariant-loop l = (p : Prog) (F : Name) → IsFile p F l.self → Onward file_row l.self.row.now l.end l.file l.counter (Files l.self.row.now p F l.name (behind l.passed 0 0))

-- the items end where the files behind them begin
abbrev pub invariant-loop-2 : goal.invariant-loop-2
invariant-loop-2 l =
    (p : Prog) (F : Name) → IsFile p F l.self → (f : File) × (fs : Prog) × Has l.self.row.now l.file (file_row f) × Has l.self.row.now (l.file + length (file_row f)) (list_row file_row fs) × ((l.counter-2 + 1) + length fs ≡ l.end-2)
    × Onward item_row l.self.row.now l.end l.item l.counter (λ is. (l.item + length (list_row item_row is) ≡ l.file + length (file_row f)) × Items l.self.row.now p F l.name (behind l.passed 0 0) f.name fs is)
