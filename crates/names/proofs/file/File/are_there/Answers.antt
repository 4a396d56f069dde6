-- `are_there`: name by name.
use Rattle.std.proofs.Common.{Bool, ◌&&◌, sym, refl, ap, ◌∙◌, subst}
use Rattle.language.specs.Meaning.{all_tops}
use Rattle.language.specs.Checks.{all_there}
use Rattle.rows.specs.Has.{named}
use Rattle.limits.specs.Entries.{Left}
use Rattle.limits.proofs.EntryLaws.{rest_by, rest_next, rest_none}
use Rattle.names.specs.Resolved.{there}
use Rattle.names.proofs.file.File.are_there.Goals as goal

pub loop-name-init : goal.loop-name-init
loop-name-init c = λ p y xs hf h. record { ts = xs; left = subst (λ s. Left named c.args.self.row.now s xs) (sym c.into_iter-name-iterator.ensures.into_iter_gives) (c.counted-names.ensures.left xs h); holds = refl }

pub loop-name-preserved : goal.loop-name-preserved
loop-name-preserved c = λ p y xs hf h.
    rest_next (Left named) (c.loop-name.invariant p y xs hf h) c.in-Some.ensures.steps
    (λ x ys hx r q. q ∙ ap (λ (b : Bool). b && all_there (all_tops p 0 0) y ys) (sym (c.if-not-is_there.ensures p y hf ∙ ap (there (all_tops p 0 0) y) (c.name_at.ensures x hx))))

pub returns-then-not-is_there : goal.returns-then-not-is_there
returns-then-not-is_there c = λ p y xs hf h.
    rest_by (Left named) (c.loop-name.invariant p y xs hf h) c.in-Some.ensures.steps
    (λ x ys hx r q. sym (q ∙ ap (λ (b : Bool). b && all_there (all_tops p 0 0) y ys) (sym (c.if-not-is_there.ensures p y hf ∙ ap (there (all_tops p 0 0) y) (c.name_at.ensures x hx)))))

pub returns : goal.returns
returns c = λ p y xs hf h. sym (rest_none (Left named) (c.loop-name.invariant p y xs hf h) c.in-None.ensures.steps)
