-- `check_items`: item by item.
use Rattle.std.proofs.Common.{Bool, ◌&&◌, sym, refl, ap, ◌∙◌, subst, arith}
use Rattle.rows.specs.Trees.{item_row}
use Rattle.limits.specs.Entries.{Left}
use Rattle.limits.proofs.EntryLaws.{rest_by, rest_next, rest_none}
use Rattle.limits.proofs.Places.{file-name}
use Rattle.names.specs.Resolved.{items_resolved}
use Rattle.names.proofs.file.File.check_items.Goals as goal

pub loop-item-init : goal.loop-item-init
loop-item-init c = (c.requires, λ p f e h. record { ts = f.items; left = subst (λ s. Left item_row c.args.self.row.now s f.items) (sym c.into_iter-item-iterator.ensures.into_iter_gives) (c.items_of-item-items.ensures.left f h); holds = refl })

pub loop-item-preserved : goal.loop-item-preserved
loop-item-preserved c =
    let i0 = c.loop-item.invariant.0 in
    let kept = c.check_item.auto.pile in (
      omega arith,
      λ p f e h.
          rest_next (Left item_row) (c.loop-item.invariant.1 p f e h) c.in-Some.ensures.steps
          (λ i is k r q. q ∙ ap (λ (b : Bool). b && items_resolved p f.name is) (sym (c.if-not-check_item.ensures p f.name i (record { row = e; name = file-name f h }) k))),
    )

pub returns-then-not-check_item : goal.returns-then-not-check_item
returns-then-not-check_item c = λ p f e h.
    rest_by (Left item_row) (c.loop-item.invariant.1 p f e h) c.in-Some.ensures.steps
    (λ i is k r q. sym (q ∙ ap (λ (b : Bool). b && items_resolved p f.name is) (sym (c.if-not-check_item.ensures p f.name i (record { row = e; name = file-name f h }) k))))

pub returns : goal.returns
returns c = λ p f e h. sym (rest_none (Left item_row) (c.loop-item.invariant.1 p f e h) c.in-None.ensures.steps)
