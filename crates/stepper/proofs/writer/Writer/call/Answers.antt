use Rattle.stepper.proofs.Turning.{call_turns}
use Rattle.stepper.proofs.writer.Writer.call.Goals as goal

pub returns : goal.returns
returns c = call_turns c.args.function c.args.arguments c.place-result.result c.lower.ensures c.place-result.ensures c.make.ensures
