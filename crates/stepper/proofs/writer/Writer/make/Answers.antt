use Rattle.stepper.proofs.Turning.{made}
use Rattle.stepper.proofs.writer.Writer.make.Goals as goal

pub returns : goal.returns
returns c = made c.place-place.ensures c.write.ensures c.put.ensures
