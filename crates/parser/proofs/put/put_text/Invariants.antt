-- Loops and recursion of `put_text`: what holds, and what becomes less.
use Rattle.std.proofs.Common.{take}
use Rattle.rows.specs.Row.{Wrote}
use Rattle.rows.specs.Nodes.{num_row}
use Rattle.rows.specs.Trees.{list_row}
use Rattle.parser.proofs.put.put_text.Given as goal

abbrev pub invariant-loop-byte : goal.invariant-loop-byte
invariant-loop-byte l = Wrote l.initial.out l.out (list_row num_row (take l.byte-index l.w))
