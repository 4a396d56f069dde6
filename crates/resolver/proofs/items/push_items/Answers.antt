-- `push_items`: item by item.
use Rattle.std.proofs.Common.{sym, subst}
use Rattle.rows.specs.Trees.{item_row}
use Rattle.limits.specs.Entries.{Left}
use Rattle.limits.proofs.EntryLaws.{rest_next, rest_none}
use Rattle.limits.proofs.Places.{file-name}
use Rattle.resolver.proofs.ItemLoops.{right-items}
use Rattle.resolver.proofs.Walking.{lent_none, lent-more, pushing_none, pushing_more, pushing_all}
use Rattle.resolver.proofs.items.push_items.Goals as goal

pub loop-item-init : goal.loop-item-init
loop-item-init c = (
  lent_none c.args.out.now,
  λ p f so ok h. record { ts = f.items; left = subst (λ s. Left item_row c.args.file.row.now s f.items) (sym c.into_iter-item-iterator.ensures.into_iter_gives) (c.items_of-item-items.ensures.left f h); holds = pushing_none f.items c.args.out.now (right-items p f.name f.items ok) },
)

pub loop-item-preserved : goal.loop-item-preserved
loop-item-preserved c =
    let i = c.loop-item.invariant in
    (lent-more i.0 c.push_item.ensures.lent, λ p f so ok h. rest_next (Left item_row) (i.1 p f so ok h) c.in-Some.ensures.steps (λ x is hx r v. pushing_more x is v (λ kx. c.push_item.ensures.pushed p f.name x so kx (record { row = so.is; name = file-name f h }) hx)))

pub returns : goal.returns
returns c =
    let i = c.loop-item.invariant in
    record { lent = i.0; pushed = λ p f so ok h. pushing_all (rest_none (Left item_row) (i.1 p f so ok h) c.in-None.ensures.steps) }
