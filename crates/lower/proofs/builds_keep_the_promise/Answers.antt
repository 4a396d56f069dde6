use Rattle.lower.proofs.Builds.{builds_right}
use Rattle.lower.proofs.builds_keep_the_promise.Goals as goal

pub returns : goal.returns
returns c = builds_right
