use Rattle.stepper.proofs.Jumping.{continued}
use Rattle.stepper.proofs.writer.Writer.go_on.Goals as goal

pub returns : goal.returns
returns c = continued c.write.ensures
