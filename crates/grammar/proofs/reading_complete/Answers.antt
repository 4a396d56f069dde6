-- The theorem that stands on the contract of `reading_complete`, from Reading.
use Rattle.grammar.proofs.Reading.{reading-complete}
use Rattle.grammar.proofs.reading_complete.Goals as goal

pub returns : goal.returns
returns c = reading-complete
