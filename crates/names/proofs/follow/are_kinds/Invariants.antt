-- `are_kinds`: the loop's invariant, by what is left of both.
use Rattle.std.proofs.Common.{◌≡◌, List}
use Rattle.language.specs.Syntax.{Kind}
use Rattle.rows.specs.Trees.{Local, local_row, map_list, kind_no}
use Rattle.limits.specs.Entries.{Left}
use Rattle.limits.proofs.EntryLaws.{Rest}
use Rattle.names.proofs.Piles.{Compared}
use Rattle.names.proofs.follow.are_kinds.Given as goal

abbrev pub invariant-loop-name : goal.invariant-loop-name
invariant-loop-name l = (ls : List Local) (ks : List Kind) → Left local_row l.row l.fn.names ls → l.fn.kinds ≡ map_list kind_no ks → Rest (Left local_row) l.row (Compared ks ls l.rest) l.name-iterator
