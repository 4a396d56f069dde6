use Rattle.stepper.proofs.Turning.{binary_turns}
use Rattle.stepper.proofs.writer.Writer.binary.Goals as goal

pub returns : goal.returns
returns c = binary_turns c.args.operator c.place-result.result c.unwrap_or-left.result c.saturating_add.result c.unwrap_or-right.result c.pop-right.ensures c.pop-left.ensures c.place-result.ensures c.unwrap_or-left.ensures c.saturating_add.ensures c.unwrap_or-right.ensures c.make.ensures
