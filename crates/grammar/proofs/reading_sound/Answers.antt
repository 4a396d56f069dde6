-- The theorem that stands on the contract of `reading_sound`, from Reading.
use Rattle.grammar.proofs.Reading.{reading-sound}
use Rattle.grammar.proofs.reading_sound.Goals as goal

pub returns : goal.returns
returns c = reading-sound
