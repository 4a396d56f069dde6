use Rattle.stepper.proofs.Turning.{unary_turns}
use Rattle.stepper.proofs.writer.Writer.unary.Goals as goal

pub returns : goal.returns
returns c = unary_turns c.args.operator c.place-result.result c.take-value.result c.take-value.ensures c.place-result.ensures c.make.ensures
