-- `checks_split`: the checks in two parts.
use Rattle.limits.proofs.SplitLaws.{splits}
use Rattle.limits.proofs.whole.checks_split.Goals as goal

pub returns : goal.returns
returns c = splits
