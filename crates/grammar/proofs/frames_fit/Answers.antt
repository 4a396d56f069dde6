-- The theorem that stands on the contract of `frames_fit`, from Budget.
use Rattle.grammar.proofs.Budget.{frames_do_fit}
use Rattle.grammar.proofs.frames_fit.Goals as goal

pub returns : goal.returns
returns c = frames_do_fit
