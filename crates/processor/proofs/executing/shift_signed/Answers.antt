use Rattle.std.proofs.Common.{ℕ, ◌%◌, ℤ, ap, ◌∙◌, arith}
use Rattle.std.specs.Int.{cast_unsigned, cast_signed, int_shr, w32}
use Rattle.std.proofs.lemmas.Int.{of_z-to_z, to_z-of_z}
use Rattle.processor.proofs.WordBits.{sar_is}
use Rattle.processor.proofs.executing.shift_signed.Goals as goal

pub returns : goal.returns
returns c =
    let x = c.args.x in
    let k = c.args.n % 32 in
    c.cast_unsigned.ensures
    ∙ ap (cast_unsigned w32) (to_z-of_z w32 c.wrapping_shr.result (record { sfits = c.wrapping_shr.type_inv })
    ∙ c.wrapping_shr.ensures
    ∙ ap (λ (z : ℤ). int_shr (cast_signed w32 (cast_unsigned w32 z)) k) c.cast_signed.ensures
    ∙ ap (λ (n : ℕ). int_shr (cast_signed w32 n) k) (of_z-to_z w32 x (omega arith)))
    ∙ sar_is x k (omega arith) (omega arith)
