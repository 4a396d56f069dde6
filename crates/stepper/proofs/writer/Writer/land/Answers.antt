use Rattle.stepper.proofs.Jumping.{landed}
use Rattle.stepper.proofs.writer.Writer.land.Goals as goal

pub returns : goal.returns
returns c = landed c.swap_target-self.ensures
