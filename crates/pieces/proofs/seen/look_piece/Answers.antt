-- Proof of `look_piece`.
use Rattle.pieces.proofs.Looking.{sign_looks, pair_looks, other_looks}
use Rattle.pieces.proofs.seen.look_piece.Goals as goal

pub returns-in-Sign : goal.returns-in-Sign
returns-in-Sign c = sign_looks c.look_sign.result c.in-Sign.a c.in-Sign.is c.requires c.look_sign.ensures.is c.look_sign.ensures.fine

pub returns-in-Pair : goal.returns-in-Pair
returns-in-Pair c = pair_looks c.look_pair.result c.in-Pair.a c.in-Pair.b c.in-Pair.is c.requires c.look_pair.ensures.is c.look_pair.ensures.fine

pub returns-in_default : goal.returns-in_default
returns-in_default c = other_looks c.args.piece c.in_default.not-Word c.in_default.not-Sign c.in_default.not-Pair c.in_default.not-End
