-- `used`: the names behind a use's own.
use Rattle.std.proofs.Common.{arith}
use Rattle.language.specs.Syntax.{i_use}
use Rattle.limits.proofs.Places.{item_tail}
use Rattle.limits.proofs.entries.used.Goals as goal

pub returns : goal.returns
returns c = λ y xs h. c.counted.ensures.left xs (item_tail (omega arith) c.saturating_add.ensures c.past_name.ensures (i_use y xs) h)
