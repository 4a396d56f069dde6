-- Proof of `see_op`.
use Rattle.std.proofs.Common.{refl}
use Rattle.pieces.specs.declared.seen.Look.TheVariants.{Tie, Minus}
use Rattle.pieces.specs.declared.seen.Op.TheVariants.{Two}
use Rattle.pieces.specs.declared.seen.Binary.TheVariants.{Subtract}
use Rattle.pieces.proofs.Looking.{seen-any, seen_at}
use Rattle.pieces.proofs.Tying.{tied, untied, no_op}
use Rattle.pieces.proofs.seen.see_op.Goals as goal

pub returns-in-Tie : goal.returns-in-Tie
returns-in-Tie c =
    let k = Tie c.in-Tie.op in
    tied c.in-Tie.op k (seen_at _ _ k c.in-Tie.is c.see.ensures) refl

pub returns-in-Minus : goal.returns-in-Minus
returns-in-Minus c = tied (Two Subtract) Minus (seen_at _ _ Minus c.in-Minus.is c.see.ensures) refl

pub returns-in_default : goal.returns-in_default
returns-in_default c = untied c.see.result.0 (seen-any c.see.result.0 c.see.ensures) (no_op c.see.result.0 c.in_default.not-Tie c.in_default.not-Minus)
