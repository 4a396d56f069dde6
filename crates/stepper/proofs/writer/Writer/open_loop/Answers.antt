use Rattle.stepper.proofs.Jumping.{looped}
use Rattle.stepper.proofs.writer.Writer.open_loop.Goals as goal

pub returns : goal.returns
returns c = looped c.saturating_add-head.result c.saturating_add-head.ensures c.write.ensures c.write-2.ensures
