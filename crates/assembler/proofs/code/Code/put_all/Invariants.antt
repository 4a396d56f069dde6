use Rattle.std.proofs.Common.{take}
use Rattle.assembler.specs.Emission.{Put}
use Rattle.assembler.proofs.code.Code.put_all.Given as goal

abbrev pub invariant-loop-i : goal.invariant-loop-i
invariant-loop-i l = Put l.initial.self l.self (take l.i-index l.row)
