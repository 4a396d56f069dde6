-- `item_fits`: an item's limits, by its kind.
use Rattle.std.proofs.Common.{◌≡◌, ap, ◌∙◌, arith}
use Rattle.language.specs.Syntax.{i_arr, i_data}
use Rattle.rows.specs.declared.kind.ItemKind.TheVariants.{Array, Data}
use Rattle.rows.proofs.Having.{has-next, has_to}
use Rattle.limits.specs.Within.{size_within, item_within}
use Rattle.limits.proofs.Places.{item_tail, by_kind}
use Rattle.limits.proofs.items.item_fits.Goals as goal

pub returns-in-Array : goal.returns-in-Array
returns-in-Array c =
    by_kind Array (λ i. c.size_fits.result ≡ item_within i) c.item_kind_at.ensures c.in-Array.is
    (λ b h. let t = item_tail (omega arith) c.saturating_add.ensures c.past_name-tail.ensures (i_arr b) h in
    c.size_fits.ensures ∙ ap (size_within 65536) (c.number_at.ensures b.size (has_to (omega (arith, t.inside, c.saturating_add-in-Array.ensures)) (has-next t))))

pub returns-in-Data : goal.returns-in-Data
returns-in-Data c =
    by_kind Data (λ i. c.data_fits.result ≡ item_within i) c.item_kind_at.ensures c.in-Data.is
    (λ b x ns h. c.data_fits.ensures b ns (item_tail (omega arith) c.saturating_add.ensures c.past_name-tail.ensures (i_data b x ns) h))
