-- Proof of `eat_name`.
use Rattle.pieces.proofs.Looking.{no_name, seen-any}
use Rattle.pieces.proofs.eating.eat_name.Goals as goal

pub returns-in_default : goal.returns-in_default
returns-in_default c = no_name c.see.result.0 (seen-any c.see.result.0 c.see.ensures) c.in_default.not-Named
