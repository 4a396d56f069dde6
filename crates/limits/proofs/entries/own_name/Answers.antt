-- `own_name`: the name behind an item's kind and length.
use Rattle.std.proofs.Common.{arith}
use Rattle.rows.specs.Trees.{name_of}
use Rattle.limits.proofs.Places.{item_name}
use Rattle.limits.proofs.entries.own_name.Goals as goal

pub returns : goal.returns
returns c = λ i h. c.name_at.ensures (name_of i) (item_name (omega arith) c.saturating_add.ensures i h)
