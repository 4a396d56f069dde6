use Rattle.lower.proofs.Correct.{bare-right}
use Rattle.lower.proofs.bare_images_do_what_is_meant.Goals as goal

pub returns : goal.returns
returns c = bare-right
