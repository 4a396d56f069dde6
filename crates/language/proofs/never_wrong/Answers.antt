-- The contract of never_wrong: NeverWrong.
use Rattle.language.proofs.Safe.{never-wrong}
use Rattle.language.proofs.never_wrong.Goals as goal

pub returns : goal.returns
returns c = never-wrong
