-- Proof of `see_lead`.
use Rattle.pieces.proofs.Leading.{lead-none}
use Rattle.pieces.proofs.lead.see_lead.Goals as goal

pub returns-in_default : goal.returns-in_default
returns-in_default c = lead-none c.next_piece.result.0 c.next_piece.ensures c.in_default.not-Word
