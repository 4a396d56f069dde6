use Rattle.std.proofs.Common.{take}
use Rattle.rows.specs.Row.{Wrote}
use Rattle.rows.proofs.row.Row.put_all.Given as goal

abbrev pub invariant-loop-word : goal.invariant-loop-word
invariant-loop-word l = Wrote l.initial.self l.self (take l.word-index l.words)
