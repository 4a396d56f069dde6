use Rattle.std.proofs.Common.{ℕ, List}
use Rattle.steps.specs.Steps.{Step, MFn, MProg}
use Rattle.steps.specs.Fits.{Each, StepFits}
use Rattle.assembler.specs.Tables.{StepsAre, Framed}
use Rattle.assembler.proofs.Emitting.{Emitting}
use Rattle.assembler.proofs.code.Code.steps_of.Given as goal

abbrev pub invariant-loop-words : goal.invariant-loop-words
invariant-loop-words l = (m : MProg) (g : MFn) (begin : ℕ → ℕ) (ss : List Step) → Framed l.f m g begin → StepsAre l.f.function.steps.now ss → Each (StepFits m g) ss → Emitting m g begin ss l.f.function.steps.now l.initial.self l.self l.words-index
