-- `items_fit`: the limits of items, item by item.
use Rattle.std.proofs.Common.{refl, rules}
use Rattle.rows.specs.Trees.{item_row}
use Rattle.limits.specs.Entries.{Left}
use Rattle.limits.specs.Within.{item_within}
use Rattle.limits.specs.Split.{items_within}
use Rattle.limits.proofs.EntryLaws.{all_is}
use Rattle.limits.proofs.whole.items_fit.Goals as goal

pub returns : goal.returns
returns c = λ f h. all_is (Left item_row) item_within (λ i j b f' k q. search rules) items_within refl (λ i is. refl) (c.items_of.ensures.left f h) c.all.ensures.ran
