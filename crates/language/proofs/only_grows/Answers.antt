-- The contract of only_grows: OnlyGrows.
use Rattle.language.proofs.Growth.{only_grows_holds}
use Rattle.language.proofs.only_grows.Goals as goal

pub returns : goal.returns
returns c = only_grows_holds
