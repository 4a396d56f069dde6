use Rattle.processor.proofs.Samples.{loop_runs}
use Rattle.processor.proofs.sample_loop_runs.Goals as goal

pub returns : goal.returns
returns c = loop_runs
