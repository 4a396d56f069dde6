use Rattle.std.proofs.Common.{sym, ◌∙◌, arith}
use Rattle.processor.proofs.Undo.{none_read, some_read, nothing, branch_none, imm_none, prod_none, reg_none, prod_some, shift_some, reg_some}
use Rattle.processor.proofs.decoding.decode.Goals as goal

pub returns-in_err-ok-in-99 : goal.returns-in_err-ok-in-99
returns-in_err-ok-in-99 c =
    nothing _ _ c.from_residual.ensures
    (branch_none c.args.w _ _ c.part.ensures c.part-f3.ensures c.in-99.is (none_read _ _ _ c.try_from.ensures c.in_err-ok-in-99.ensures.value))

pub returns-in_err-ok-in-Err : goal.returns-in_err-ok-in-Err
returns-in_err-ok-in-Err c =
    nothing _ _ c.from_residual-in_err-ok-in-Err.ensures
    (imm_none c.args.w _ _ c.part.ensures c.part-f3.ensures c.in-19.is c.in-Err.ensures (λ f z. none_read _ _ _ c.try_from-in-Err.ensures c.in_err-ok-in-Err.ensures.value f (z ∙ sym c.above-bits.ensures)))

pub returns-in_err-ok-in-51 : goal.returns-in_err-ok-in-51
returns-in_err-ok-in-51 c =
    nothing _ _ c.from_residual-in_err-ok-in-51.ensures
    (prod_none c.args.w _ _ c.part.ensures c.part-f3.ensures c.in-51.is c.if-f7-eq1.true (λ f z. none_read _ _ _ c.try_from-then-f7-eq1.ensures c.in_err-ok-in-51.ensures.value f (z ∙ sym c.above-bits.ensures)))

pub returns-in_err-ok-in-51-2 : goal.returns-in_err-ok-in-51-2
returns-in_err-ok-in-51-2 c =
    nothing _ _ c.from_residual-in_err-ok-in-51-2.ensures
    (reg_none c.args.w _ _ c.part.ensures c.part-f3.ensures c.in-51.is c.if-f7-eq1.false (λ f z. none_read _ _ _ c.try_from-else-f7-eq1.ensures c.in_err-ok-in-51-2.ensures.value f (z ∙ sym c.above-bits.ensures)))

pub returns-in_ok-ok-in-51-2 : goal.returns-in_ok-ok-in-51-2
returns-in_ok-ok-in-51-2 c = (
  reg_some c.args.w _ _ c.part.ensures c.part-f3.ensures _ _ _ c.in_ok-ok-in-51-2.field-0 c.in-51.is
      (some_read _ _ _ c.in_ok-ok-in-51-2.field-0 c.try_from-else-f7-eq1.ensures c.in_ok-ok-in-51-2.ensures.value ∙ c.above-bits.ensures)
      c.part-rd.ensures c.part-r1.ensures c.part-r2.ensures,
  omega arith,
)

pub returns-in_ok-ok-in-51 : goal.returns-in_ok-ok-in-51
returns-in_ok-ok-in-51 c = (
  prod_some c.args.w _ _ c.part.ensures c.part-f3.ensures _ _ _ c.in_ok-ok-in-51.field-0 c.in-51.is c.if-f7-eq1.true
      (some_read _ _ _ c.in_ok-ok-in-51.field-0 c.try_from-then-f7-eq1.ensures c.in_ok-ok-in-51.ensures.value ∙ c.above-bits.ensures)
      c.part-rd.ensures c.part-r1.ensures c.part-r2.ensures,
  omega arith,
)

pub returns-in_ok-ok-in-Err : goal.returns-in_ok-ok-in-Err
returns-in_ok-ok-in-Err c = (
  shift_some c.args.w _ _ c.part.ensures c.part-f3.ensures _ _ _ c.in_ok-ok-in-Err.field-0 c.in-19.is
      (some_read _ _ _ c.in_ok-ok-in-Err.field-0 c.try_from-in-Err.ensures c.in_ok-ok-in-Err.ensures.value ∙ c.above-bits.ensures)
      c.part-rd.ensures c.part-r1.ensures c.part-r2.ensures,
  omega arith,
)
