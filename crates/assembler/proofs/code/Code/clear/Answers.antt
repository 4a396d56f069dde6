use Rattle.std.proofs.Common.{◌+◌, sym, ap, ◌∙◌, add-one}
use Rattle.processor.specs.declared.instr.Instr.TheVariants.{Sw}
use Rattle.assembler.proofs.Putting.{put-more, put_as, put_as1}
use Rattle.assembler.proofs.Rows.{off_wraps, stores-next}
use Rattle.assembler.proofs.code.Code.clear.Goals as goal

pub loop-j-preserved : goal.loop-j-preserved
loop-j-preserved c =
    let j = c.loop-j.j in
    rw (add-one j)
    (put_as (sym (stores-next 0 (λ i. 5) c.args.from j)) (put-more c.loop-j.invariant (put_as1 (c.store.ensures.is ∙ ap (λ n. Sw 2 5 n) (off_wraps (c.args.from + j))) c.put.ensures)))
