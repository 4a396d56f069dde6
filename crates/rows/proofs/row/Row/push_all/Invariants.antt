use Rattle.std.proofs.Common.{take}
use Rattle.rows.specs.Row.{Pushed}
use Rattle.rows.proofs.row.Row.push_all.Given as goal

abbrev pub invariant-loop-word : goal.invariant-loop-word
invariant-loop-word l = Pushed l.initial.self l.self (take l.word-index l.words)
