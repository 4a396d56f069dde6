use Rattle.steps.proofs.FitsHold.{small-holds}
use Rattle.steps.proofs.steps_keep_words.Goals as goal

pub returns : goal.returns
returns c = small-holds
