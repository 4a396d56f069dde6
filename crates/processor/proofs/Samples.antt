-- The small program, followed by the definition.
use Rattle.std.proofs.Common.{refl}
use Rattle.processor.specs.Samples.{loop_words, loop_start, LoopRuns}

pub loop_runs : LoopRuns
unfolding loop_words loop_start
loop_runs = (refl, refl, refl)
