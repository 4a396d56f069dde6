use Rattle.std.proofs.Common.{refl, arith}
use Rattle.limits.proofs.entries.EntriesIterator.next.Goals as goal
use Rattle.limits.proofs.EntryLaws.{takes_first}

pub returns-clause-steps : goal.returns-clause-steps
returns-clause-steps g c = λ w ts k. takes_first k (omega arith) (λ x. c.past-self.ensures x) refl (omega arith)
