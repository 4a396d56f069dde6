-- `arrays_fit`: sizes of own arrays, one by one.
use Rattle.std.proofs.Common.{refl, rules}
use Rattle.rows.specs.Trees.{Local, local_row}
use Rattle.limits.specs.Entries.{Left}
use Rattle.limits.specs.Within.{local_sizes, size_within}
use Rattle.limits.proofs.EntryLaws.{all_is}
use Rattle.limits.proofs.items.arrays_fit.Goals as goal

pub returns : goal.returns
returns c = λ ls k. all_is (Left local_row) (λ (l : Local). size_within 4096 l.size) (λ l j b f' h q. search rules) local_sizes refl (λ l ms. refl) k c.all.ensures.ran
