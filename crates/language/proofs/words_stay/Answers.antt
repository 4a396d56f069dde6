-- The contract of words_stay: WordsStay.
use Rattle.language.proofs.WordsStay.{words_stay_holds}
use Rattle.language.proofs.words_stay.Goals as goal

pub returns : goal.returns
returns c = words_stay_holds
