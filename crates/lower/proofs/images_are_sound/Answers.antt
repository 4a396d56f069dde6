use Rattle.lower.proofs.Correct.{compiled_sound}
use Rattle.lower.proofs.images_are_sound.Goals as goal

pub returns : goal.returns
returns c = compiled_sound
