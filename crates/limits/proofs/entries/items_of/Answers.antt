-- `items_of`: the items of a file, behind its name.
use Rattle.std.proofs.Common.{arith}
use Rattle.limits.proofs.Places.{at_head, file_ends}
use Rattle.limits.proofs.entries.items_of.Goals as goal

pub returns-clause-left : goal.returns-clause-left
returns-clause-left c = λ f h. c.counted.ensures.left f.items (at_head (omega arith) c.past_name.ensures f h)

pub returns-clause-ends : goal.returns-clause-ends
returns-clause-ends c = λ f h. file_ends (omega arith) c.past_name.ensures f h c.counted.ensures.starts
