use Rattle.lower.proofs.Correct.{compiled_right}
use Rattle.lower.proofs.images_do_what_is_meant.Goals as goal

pub returns : goal.returns
returns c = compiled_right
