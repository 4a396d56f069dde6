-- Proof of `refuse`.
use Rattle.pieces.proofs.Refusing.{left_body}
use Rattle.pieces.proofs.refused.refuse.Goals as goal

pub returns-in_default : goal.returns-in_default
returns-in_default c = left_body c.args.text.now c.skip_gap-body.result.now c.skip_gap-body.ensures
