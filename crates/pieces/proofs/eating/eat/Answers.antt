-- Proof of `eat`.
use Rattle.pieces.proofs.Looking.{ate-none, other_sign}
use Rattle.pieces.proofs.eating.eat.Goals as goal
use Rattle.pieces.proofs.eating.eat.Goals.{in_default-via-in-Sign+else-a-c, in_default-via-in_default}

pub returns-in_default : goal.returns-in_default
returns-in_default c = elim c.in_default.branch [
  | in_default-via-in-Sign+else-a-c w ↦ ate-none c.args.c c.next_piece.result.0 c.next_piece.ensures c.requires (other_sign c.next_piece.result.0 w.in-Sign.a c.args.c w.in-Sign.is w.if-a-c.false)
  | in_default-via-in_default w ↦ ate-none c.args.c c.next_piece.result.0 c.next_piece.ensures c.requires (w.in_default.not-Sign c.args.c)
]
