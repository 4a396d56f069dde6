use Rattle.std.proofs.Common.{◌<◌, List, length}
use Rattle.language.specs.Words.{all}
use Rattle.steps.specs.Steps.{Step, MFn, MProg}
use Rattle.lower.specs.Lower.{at_of}
use Rattle.assembler.specs.Tables.{StepsAre}
use Rattle.assembler.proofs.Measuring.{Measuring}
use Rattle.assembler.proofs.measure.measure_steps.Given as goal

abbrev pub invariant-loop-words : goal.invariant-loop-words
invariant-loop-words l = (m : MProg) (f : MFn) (ss : List Step) → StepsAre l.steps ss → at_of m f ss l.start (length ss) < all → Measuring m f ss l.steps l.start l.initial.places l.places l.words-index l.place
