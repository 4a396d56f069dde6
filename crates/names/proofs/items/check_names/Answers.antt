use Rattle.std.proofs.Common.{Bool, ◌&&◌, ap₂}
use Rattle.names.proofs.items.check_names.Goals as goal

pub returns : goal.returns
returns c = λ p e. ap₂ (λ (a b : Bool). a && b) (c.check_main.ensures p e) (c.check_files.ensures p e)
