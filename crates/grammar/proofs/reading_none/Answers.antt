-- The theorem that stands on the contract of `reading_none`, from Reading.
use Rattle.grammar.proofs.Reading.{reading-none}
use Rattle.grammar.proofs.reading_none.Goals as goal

pub returns : goal.returns
returns c = reading-none
