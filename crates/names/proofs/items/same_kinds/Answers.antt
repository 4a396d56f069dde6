-- `same_kinds`: name by name.
use Rattle.std.proofs.Common.{Bool, ◌&&◌, sym, refl, ap, ◌∙◌, subst, eq-eqb, ne_eqb}
use Rattle.rows.specs.Trees.{local_row, kind_no}
use Rattle.rows.proofs.Having.{has_word}
use Rattle.limits.specs.Entries.{Left}
use Rattle.limits.proofs.EntryLaws.{rest_by, rest_next, rest_none}
use Rattle.names.specs.Fold.{fit}
use Rattle.names.specs.Effects.{local_kinds}
use Rattle.names.proofs.Piles.{same_kind}
use Rattle.names.proofs.Referring.{none_more}
use Rattle.names.proofs.items.same_kinds.Goals as goal

pub loop-name-init : goal.loop-name-init
loop-name-init c = λ ls ms k m. record { ts = ls; left = subst (λ s. Left local_row c.args.row.now s ls) (sym c.into_iter-name-iterator.ensures.into_iter_gives) k; holds = record { ts = ms; left = m; holds = refl } }

pub returns-in_default : goal.returns-in_default
returns-in_default c = λ ls ms k m. rest_by (Left local_row) (c.loop-name.invariant ls ms k m) c.in-Some.ensures.steps (λ a us h r p. sym (rest_none (Left local_row) p c.in_default.ensures.steps))

pub returns-then-at : goal.returns-then-at
returns-then-at c = λ ls ms k m.
    rest_by (Left local_row) (c.loop-name.invariant ls ms k m) c.in-Some.ensures.steps
    (λ a us h r p. rest_by (Left local_row) p c.in-Some-next.ensures.steps
    (λ b vs hb rb q. sym (q ∙ ap (λ (t : Bool). t && fit (local_kinds us) (local_kinds vs)) (same_kind a.kind b.kind ∙ ne_eqb (kind_no a.kind) (kind_no b.kind) (λ e. c.if-at.true (c.at.ensures.is ∙ has_word h ∙ e ∙ sym (c.at-in-loop-name.ensures.is ∙ has_word hb)))))))

pub loop-name-preserved : goal.loop-name-preserved
loop-name-preserved c = λ ls ms k m.
    rest_next (Left local_row) (c.loop-name.invariant ls ms k m) c.in-Some.ensures.steps
    (λ a us h r p. rest_next (Left local_row) p c.in-Some-next.ensures.steps
    (λ b vs hb rb q. q ∙ ap (λ (t : Bool). t && fit (local_kinds us) (local_kinds vs)) (same_kind a.kind b.kind ∙ eq-eqb (kind_no a.kind) (kind_no b.kind) (sym (c.at.ensures.is ∙ has_word h) ∙ c.if-at.false ∙ c.at-in-loop-name.ensures.is ∙ has_word hb))))

pub returns : goal.returns
returns c = λ ls ms k m.
    let p = rest_none (Left local_row) (c.loop-name.invariant ls ms k m) c.in-None.ensures.steps in
    none_more p.ts (p.left.long ∙ sym c.len.ensures) ∙ sym p.holds
