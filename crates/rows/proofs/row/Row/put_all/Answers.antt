use Rattle.std.proofs.Common.{arith, length-take}
use Rattle.rows.proofs.Writing.{wrote_none, wrote-take, wrote_whole}
use Rattle.rows.proofs.row.Row.put_all.Goals as goal

pub loop-word-init : goal.loop-word-init
loop-word-init c = wrote_none c.args.self.now

pub put-requires : goal.put-requires
put-requires c = let f = c.loop-word.invariant in let l = f.long in let k = f.kept in omega (arith, length-take c.loop-word.word-index c.args.words.now)

pub loop-word-preserved : goal.loop-word-preserved
loop-word-preserved c = wrote-take c.args.words.now c.loop-word.word-index (omega arith) c.loop-word.invariant c.put.ensures

pub returns : goal.returns
returns c = wrote_whole c.args.words.now c.loop-word.word-index (omega arith) c.loop-word.invariant
