-- `item_kind`: a word, or an array by its width.
use Rattle.std.proofs.Common.{◌≡◌, Some, inl, inr, ap, ◌∙◌, arith}
use Rattle.language.specs.Syntax.{k_arr, Item, i_arr, i_data}
use Rattle.rows.specs.declared.kind.ItemKind.TheVariants.{Array, Data}
use Rattle.rows.specs.Kinds.{local_kind}
use Rattle.rows.proofs.Having.{has_word}
use Rattle.limits.proofs.Places.{by_kind, item_tail, flag}
use Rattle.names.specs.Kinds.{kind_found, kind_of_item}
use Rattle.names.proofs.kinds.item_kind.Goals as goal

pub returns-in-Array : goal.returns-in-Array
returns-in-Array c =
    let C : Item → Type 0 = λ i. Some c.array_kind.result ≡ kind_found (kind_of_item i) in
    elim c.in-Array.is [
      | inl e ↦ by_kind Array C c.item_kind_at.ensures e (λ b h. ap Some (c.array_kind.ensures ∙ ap (λ t. local_kind (k_arr t)) (flag b.wide (c.at-width.ensures.is ∙ has_word (item_tail (omega arith) c.saturating_add.ensures c.past_name.ensures (i_arr b) h)))))
      | inr e ↦ by_kind Data C c.item_kind_at.ensures e (λ b x ns h. ap Some (c.array_kind.ensures ∙ ap (λ t. local_kind (k_arr t)) (flag b (c.at-width.ensures.is ∙ has_word (item_tail (omega arith) c.saturating_add.ensures c.past_name.ensures (i_data b x ns) h)))))
    ]
