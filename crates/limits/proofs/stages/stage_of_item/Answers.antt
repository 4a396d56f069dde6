-- `stage_of_item`: the stage of an item, by its kind.
use Rattle.std.proofs.Common.{◌≡◌, ap, ◌∙◌, arith}
use Rattle.language.specs.Syntax.{pick, i_arr, i_data, stage_i}
use Rattle.rows.specs.declared.kind.ItemKind.TheVariants.{Array, Data}
use Rattle.rows.proofs.Having.{has_word}
use Rattle.limits.proofs.Places.{by_kind, item_tail, flag}
use Rattle.limits.proofs.stages.stage_of_item.Goals as goal

pub returns-in-Array : goal.returns-in-Array
returns-in-Array c =
    by_kind Array (λ i. c.stage_of_array.result ≡ stage_i i) c.item_kind_at.ensures c.in-Array.is
    (λ b h. c.stage_of_array.ensures ∙ ap (λ t. pick t 1 5) (flag b.wide (c.at-wide.ensures.is ∙ has_word (item_tail (omega arith) c.saturating_add.ensures c.past_name-tail.ensures (i_arr b) h))))

pub returns-in-Data : goal.returns-in-Data
returns-in-Data c =
    by_kind Data (λ i. c.stage_of_array-in-Data.result ≡ stage_i i) c.item_kind_at.ensures c.in-Data.is
    (λ b x ns h. c.stage_of_array-in-Data.ensures ∙ ap (λ t. pick t 4 5) (flag b (c.at-wide.ensures.is ∙ has_word (item_tail (omega arith) c.saturating_add.ensures c.past_name-tail.ensures (i_data b x ns) h))))
