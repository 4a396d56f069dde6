use Rattle.std.proofs.Common.{[]}
use Rattle.processor.specs.Promise.{machine}
use Rattle.processor.proofs.Turns.{Kept}
use Rattle.processor.proofs.cpu.Cpu.run.Given as goal

-- as many steps as turns, with what is left to read and what was put out
abbrev pub invariant-loop-k : goal.invariant-loop-k
invariant-loop-k l = Kept (machine l.input [] l.initial.self l.initial.mem) l.k l.input l.initial.output l.left l.shown l.output l.self l.mem
