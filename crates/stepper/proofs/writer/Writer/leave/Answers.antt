use Rattle.stepper.proofs.Jumping.{left}
use Rattle.stepper.proofs.writer.Writer.leave.Goals as goal

pub returns : goal.returns
returns c = left c.saturating_sub.result c.saturating_sub.ensures c.write.ensures
