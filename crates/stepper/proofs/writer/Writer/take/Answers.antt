use Rattle.stepper.proofs.Turning.{took}
use Rattle.stepper.proofs.writer.Writer.take.Goals as goal

pub returns : goal.returns
returns c = took c.pop-own.ensures c.place.ensures c.unwrap_or.ensures
