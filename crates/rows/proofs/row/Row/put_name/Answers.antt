use Rattle.std.proofs.Common.{arith}
use Rattle.rows.proofs.Writing.{wrote-take, wrote-all}
use Rattle.rows.proofs.row.Row.put_name.Goals as goal

pub loop-byte-preserved : goal.loop-byte-preserved
loop-byte-preserved c = wrote-take c.args.w.now c.loop-byte.byte-index (omega arith) c.loop-byte.invariant c.put-in-loop-byte.ensures

pub returns : goal.returns
returns c = wrote-all c.args.w.now c.loop-byte.byte-index (omega arith) c.put.ensures c.loop-byte.invariant
