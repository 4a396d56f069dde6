-- `elements_of_item`: the elements that an item adds, by its kind.
use Rattle.std.proofs.Common.{◌≡◌, arith}
use Rattle.language.specs.Syntax.{i_arr, i_data}
use Rattle.rows.specs.declared.kind.ItemKind.TheVariants.{Array, Data}
use Rattle.rows.proofs.Having.{has-next, has_to, read_at}
use Rattle.limits.specs.Totals.{elements}
use Rattle.limits.proofs.Places.{item_tail, by_kind}
use Rattle.limits.proofs.totals.elements_of_item.Goals as goal

pub returns-in-Array : goal.returns-in-Array
returns-in-Array c =
    by_kind Array (λ i. c.number_at.result ≡ elements i) c.item_kind_at.ensures c.in-Array.is
    (λ b h. let t = item_tail (omega arith) c.saturating_add.ensures c.past_name.ensures (i_arr b) h in c.number_at.ensures b.size (has_to (omega (arith, t.inside, c.saturating_add-size.ensures)) (has-next t)))

pub returns-in-Data : goal.returns-in-Data
returns-in-Data c =
    by_kind Data (λ i. c.at.result ≡ elements i) c.item_kind_at.ensures c.in-Data.is
    (λ b x ns h. read_at {k = 1} (item_tail (omega arith) c.saturating_add.ensures c.past_name.ensures (i_data b x ns) h) (omega arith) (omega arith) c.saturating_add-size.ensures c.at.ensures.is)
