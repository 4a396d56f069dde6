use Rattle.steps.proofs.Checked.{mid-holds}
use Rattle.steps.proofs.steps_do_what_is_meant.Goals as goal

pub returns : goal.returns
returns c = mid-holds
