use Rattle.std.proofs.Common.{sym}
use Rattle.std.proofs.lemmas.List.{take_more}
use Rattle.assembler.proofs.Putting.{put-more, put_as}
use Rattle.assembler.proofs.code.Code.put_all.Goals as goal

pub loop-i-preserved : goal.loop-i-preserved
loop-i-preserved c = put_as (sym (take_more c.args.row.now c.loop-i.i-index _ c.loop-i-test.true)) (put-more c.loop-i.invariant c.put.ensures)
