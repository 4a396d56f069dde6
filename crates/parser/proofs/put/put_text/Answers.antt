-- Proof of `put_text`.
use Rattle.std.proofs.Common.{arith}
use Rattle.parser.proofs.Patching.{text-more, text_room}
use Rattle.parser.proofs.put.put_text.Goals as goal

pub loop-byte-preserved : goal.loop-byte-preserved
loop-byte-preserved c = text-more c.args.w.now c.loop-byte.byte-index (omega arith) c.loop-byte.invariant (rw c.from.ensures at c.put_num.ensures)

pub put_num-requires : goal.put_num-requires
put_num-requires c = text_room c.args.w.now c.loop-byte.byte-index (omega arith) c.requires c.loop-byte.invariant
