-- `names_once`: that the names at the top of a file differ, item by item.
use Rattle.std.proofs.Common.{Bool, ◌&&◌, sym, refl, ap, ◌∙◌}
use Rattle.language.specs.Checks.{once, names_in}
use Rattle.rows.specs.Trees.{item_row}
use Rattle.limits.specs.Entries.{Left}
use Rattle.limits.proofs.EntryLaws.{rest_by, rest_next, rest_none}
use Rattle.limits.proofs.ApartLaws.{once_more}
use Rattle.limits.proofs.differ.names_once.Goals as goal

pub loop-item-init : goal.loop-item-init
loop-item-init c = (tt, tt, λ f h. record { ts = f.items; left = c.items_of-items.ensures.left f h; holds = refl })

pub loop-item-preserved : goal.loop-item-preserved
loop-item-preserved c = (
  tt,
  tt,
  λ f h.
      rest_next (Left item_row) (c.loop-item.invariant.2 f h) c.in-Some.ensures.steps
      (λ i is k r p. p ∙ once_more i is ∙ ap (λ (t : Bool). t && once (names_in is)) (sym (c.item_apart.ensures i is k r) ∙ c.if-not-item_apart.false)),
)

pub returns-then-not-item_apart : goal.returns-then-not-item_apart
returns-then-not-item_apart c = λ f h.
    rest_by (Left item_row) (c.loop-item.invariant.2 f h) c.in-Some.ensures.steps
    (λ i is k r p. sym (p ∙ once_more i is ∙ ap (λ (t : Bool). t && once (names_in is)) (sym (c.item_apart.ensures i is k r) ∙ c.if-not-item_apart.true)))

pub returns : goal.returns
returns c = λ f h. sym (rest_none (Left item_row) (c.loop-item.invariant.2 f h) c.in_default.ensures.steps)
