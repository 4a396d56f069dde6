use Rattle.lower.specs.Lower.{stores}
use Rattle.assembler.specs.Emission.{reals, Put}
use Rattle.assembler.proofs.code.Code.clear.Given as goal

abbrev pub invariant-loop-j : goal.invariant-loop-j
invariant-loop-j l = Put l.initial.self l.self (reals 0 (stores (λ j. 5) l.from l.j))
