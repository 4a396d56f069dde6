use Rattle.std.proofs.Common.{◌≡◌, suc, ◌+◌, sym, ap, ◌∙◌, add-one, arith}
use Rattle.lower.specs.Code.{off}
use Rattle.processor.specs.declared.instr.Instr.TheVariants.{Sw}
use Rattle.assembler.proofs.Putting.{put-more, put_as, put_as1}
use Rattle.assembler.proofs.Rows.{stores-next}
use Rattle.assembler.proofs.code.Code.store_arguments.Goals as goal

pub loop-j-preserved : goal.loop-j-preserved
loop-j-preserved c =
    let j = c.loop-j.j in
    let z : j ≡ 0 + j = omega arith in
    rw (add-one j)
    (put_as (sym (stores-next 0 (λ i. 10 + i) 0 j)) (put-more c.loop-j.invariant (put_as1 (c.store.ensures.is ∙ ap (λ n. Sw 2 (10 + n) (off (suc n))) z) c.put.ensures)))
