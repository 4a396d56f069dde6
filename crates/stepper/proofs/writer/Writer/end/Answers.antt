use Rattle.stepper.proofs.Jumping.{ended}
use Rattle.stepper.proofs.writer.Writer.end.Goals as goal

pub returns : goal.returns
returns c = ended c.place-value.result c.place-value.ensures c.write.ensures c.write-2.ensures
