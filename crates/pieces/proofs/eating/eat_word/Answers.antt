-- Proof of `eat_word`.
use Rattle.pieces.proofs.Looking.{ate-no-other}
use Rattle.pieces.proofs.eating.eat_word.Goals as goal

pub returns-in_default : goal.returns-in_default
returns-in_default c = ate-no-other c.args.w.now c.next_piece.result.0 c.requires c.next_piece.ensures c.in_default.not-Word
