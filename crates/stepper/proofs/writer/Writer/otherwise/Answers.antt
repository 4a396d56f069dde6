use Rattle.stepper.proofs.Jumping.{parted}
use Rattle.stepper.proofs.writer.Writer.otherwise.Goals as goal

pub returns : goal.returns
returns c = parted c.saturating_add.result c.saturating_add.ensures c.swap_target-before.ensures c.write.ensures
