use Rattle.stepper.proofs.Jumping.{repeated}
use Rattle.stepper.proofs.writer.Writer.again.Goals as goal

pub returns : goal.returns
returns c = repeated c.saturating_sub.result c.saturating_add.result c.saturating_sub.ensures c.saturating_add.ensures c.swap_target-around.ensures c.write.ensures
