-- `Entries::end`: the loop's invariant, by what is ahead.
use Rattle.std.proofs.Common.{◌+◌, List, length}
use Rattle.rows.specs.Trees.{list_row}
use Rattle.limits.specs.Entries.{Left}
use Rattle.limits.proofs.EntryLaws.{Ahead}
use Rattle.limits.proofs.entries.Entries.end.Given as goal

abbrev pub invariant-loop : goal.invariant-loop
invariant-loop g l = (ts : List g.E.Entry.Tree) → Left g.E.Entry.row_of l.fn.self.row.now l.fn.self ts → Ahead g.E.Entry.row_of l.fn.self.row.now l.end (l.fn.self.here + length (list_row g.E.Entry.row_of ts)) l.here l.counter
