use Rattle.std.proofs.Common.{◌+◌, sym, ap, ◌∙◌, add-one}
use Rattle.processor.specs.declared.instr.Instr.TheVariants.{Lw}
use Rattle.assembler.proofs.Putting.{put-more, put_as, put_as1}
use Rattle.assembler.proofs.Rows.{off_wraps, loads-next}
use Rattle.assembler.proofs.code.Code.load_arguments.Goals as goal

pub loop-j-preserved : goal.loop-j-preserved
loop-j-preserved c =
    let j = c.loop-j.j in
    rw (add-one j)
    (put_as (sym (loads-next 0 10 c.args.from.0 j)) (put-more c.loop-j.invariant (put_as1 (c.load.ensures.is ∙ ap (λ n. Lw (10 + j) 2 n) (off_wraps (c.args.from.0 + j))) c.put.ensures)))
