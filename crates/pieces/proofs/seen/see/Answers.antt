-- Proof of `see`.
use Rattle.pieces.proofs.Looking.{seen_by}
use Rattle.pieces.proofs.seen.see.Goals as goal

pub returns : goal.returns
returns c = seen_by c.look_piece.result c.next_piece.result.0 c.look_piece.ensures c.next_piece.ensures
