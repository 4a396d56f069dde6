use Rattle.std.proofs.Common.{arith}
use Rattle.rows.proofs.Writing.{pushed_none, pushed_take, pushed_whole}
use Rattle.rows.proofs.row.Row.push_all.Goals as goal

pub loop-word-init : goal.loop-word-init
loop-word-init c = pushed_none c.args.self.now

pub loop-word-preserved : goal.loop-word-preserved
loop-word-preserved c = pushed_take c.args.words.now c.loop-word.word-index (omega arith) c.loop-word.invariant c.push.ensures

pub returns : goal.returns
returns c = pushed_whole c.args.words.now c.loop-word.word-index (omega arith) c.loop-word.invariant
