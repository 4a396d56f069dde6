use Rattle.lower.specs.Lower.{loads}
use Rattle.assembler.specs.Emission.{reals, Put}
use Rattle.assembler.proofs.code.Code.load_arguments.Given as goal

abbrev pub invariant-loop-j : goal.invariant-loop-j
invariant-loop-j l = Put l.initial.self l.self (reals 0 (loads 10 l.from.0 l.j))
