-- `find_own`: the loop's invariant, by what is left.
use Rattle.std.proofs.Common.{List}
use Rattle.rows.specs.Trees.{Local, local_row}
use Rattle.limits.specs.Entries.{Left}
use Rattle.limits.proofs.EntryLaws.{Rest}
use Rattle.names.proofs.OwnNames.{Sought}
use Rattle.names.proofs.own.find_own.Given as goal

abbrev pub invariant-loop-local : goal.invariant-loop-local
invariant-loop-local l = (ls : List Local) → Left local_row l.row l.fn.locals ls → Rest (Left local_row) l.row (Sought ls l.name l.words l.arrays) l.local-iterator
