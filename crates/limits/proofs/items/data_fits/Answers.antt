-- `data_fits`: an array with values: how many, and their limit.
use Rattle.std.proofs.Common.{Bool, ◌&&◌, leb, inl, inr, sym, ap, ◌∙◌, ap₂, arith}
use Rattle.rows.proofs.Having.{has_word, has-next, has_to}
use Rattle.limits.proofs.ItemLaws.{limit_is}
use Rattle.limits.proofs.items.data_fits.Goals.{then-at-eq1, else-at-eq1}
use Rattle.limits.proofs.items.data_fits.Goals as goal

pub returns : goal.returns
returns c = λ wide ns h.
    let k = has-next h in
    let v = c.counted-values.ensures.left ns (has_to (omega (arith, k.inside, c.saturating_add.ensures)) k) in
    let l = limit_is wide (c.at.ensures.is ∙ has_word h) (elim c.if-at-eq1.branch [ then-at-eq1 w ↦ inl (w.if-at-eq1.true, w.limit-is) | else-at-eq1 w ↦ inr (w.if-at-eq1.false, w.limit-is) ]) in
    ap₂ (λ (s t : Bool). s && t) (ap (leb 1) (c.len.ensures ∙ sym v.long)) (c.values_fit.ensures wide ns l v)
