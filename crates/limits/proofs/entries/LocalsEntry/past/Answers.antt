-- `Locals::past`: the place behind a name of a function.
use Rattle.std.proofs.Common.{arith}
use Rattle.limits.proofs.Places.{local_name}
use Rattle.limits.proofs.entries.LocalsEntry.past.Goals as goal

pub returns : goal.returns
returns c = λ l h. omega (arith, c.past_name.ensures l.name (local_name (omega arith) c.saturating_add.ensures l h), h.inside)
