-- `are_alike`: name by name.
use Rattle.std.proofs.Common.{Bool, ◌&&◌, sym, refl, ap, ◌∙◌, subst}
use Rattle.language.specs.Checks.{alike}
use Rattle.rows.specs.Has.{named}
use Rattle.limits.specs.Entries.{Left}
use Rattle.limits.proofs.EntryLaws.{rest_by, rest_next, rest_none}
use Rattle.names.specs.Resolved.{like}
use Rattle.names.proofs.file.File.are_alike.Goals as goal

pub loop-name-init : goal.loop-name-init
loop-name-init c = λ p f qs xs hf l h. record { ts = xs; left = subst (λ s. Left named c.args.self.row.now s xs) (sym c.into_iter-name-iterator.ensures.into_iter_gives) (c.counted-names.ensures.left xs h); holds = refl }

pub loop-name-preserved : goal.loop-name-preserved
loop-name-preserved c = λ p f qs xs hf l h.
    rest_next (Left named) (c.loop-name.invariant p f qs xs hf l h) c.in-Some.ensures.steps
    (λ x ys hx r q. q ∙ ap (λ (b : Bool). b && alike p f qs ys) (sym (c.if-not-is_alike.ensures p f qs hf l ∙ ap (like p f qs) (c.name_at.ensures x hx))))

pub returns-then-not-is_alike : goal.returns-then-not-is_alike
returns-then-not-is_alike c = λ p f qs xs hf l h.
    rest_by (Left named) (c.loop-name.invariant p f qs xs hf l h) c.in-Some.ensures.steps
    (λ x ys hx r q. sym (q ∙ ap (λ (b : Bool). b && alike p f qs ys) (sym (c.if-not-is_alike.ensures p f qs hf l ∙ ap (like p f qs) (c.name_at.ensures x hx)))))

pub returns : goal.returns
returns c = λ p f qs xs hf l h. sym (rest_none (Left named) (c.loop-name.invariant p f qs xs hf l h) c.in-None.ensures.steps)
