use Rattle.std.proofs.Common.{take}
use Rattle.rows.specs.Row.{Wrote}
use Rattle.rows.proofs.row.Row.put_name.Given as goal

abbrev pub invariant-loop-byte : goal.invariant-loop-byte
invariant-loop-byte l = Wrote l.initial.self l.self (take l.byte-index l.w)
