-- `is_named`: a name compared letter by letter with what stands in the row.
use Rattle.std.proofs.Common.{eq-eqb, length, ◌⊎◌, inl, inr, sym, ap, ap₂, ◌∙◌}
use Rattle.language.specs.Syntax.{same}
use Rattle.rows.proofs.Having.{has_word}
use Rattle.limits.proofs.Letters.{same-long, compared_stop, compared_on, compared_all}
use Rattle.limits.proofs.entries.is_named.Goals as goal

pub returns-then-at-name : goal.returns-then-at-name
returns-then-at-name c = λ x h. sym (same-long x c.args.name.now (λ e. c.if-at-name.true (c.at.ensures.is ∙ has_word h ∙ e)))

pub loop-letter-init : goal.loop-letter-init
loop-letter-init c = λ x h.
    let a = ap (λ z. z.a.rest.now) c.into_iter-letter-iterator.ensures.into_iter_gives ∙ ap (λ i. i.rest.now) c.zip-letter-items.ensures.first ∙ c.iter.ensures.rest ∙ c.name_at-letters.ensures x h in
    let b = ap (λ z. z.b.rest.now) c.into_iter-letter-iterator.ensures.into_iter_gives ∙ c.zip-letter-items.ensures.second.0 in
    (ap length a ∙ sym (has_word h) ∙ sym c.at.ensures.is ∙ c.if-at-name.false ∙ sym (ap length b), sym (ap₂ same a b))

pub returns-then-letter-sought : goal.returns-then-letter-sought
returns-then-letter-sought c = λ x h.
    let s = c.in-Some.ensures.steps in
    sym (compared_stop x c.args.name.now (c.loop-letter.invariant x h) s.0 s.1 c.if-letter-sought.true)

pub loop-letter-preserved : goal.loop-letter-preserved
loop-letter-preserved c = λ x h.
    let s = c.in-Some.ensures.steps in
    compared_on x c.args.name.now (c.loop-letter.invariant x h) s.0 s.1 c.if-letter-sought.false

-- one of the two is through
ended : {S T P Q : Type 0} {A : S → Type 0} {B : T → Type 0} → ((s : S) × (P × A s)) ⊎ ((t : T) × (Q × B t)) → P ⊎ Q
ended (inl (s, h)) = inl h.0
ended (inr (t, h)) = inr h.0

pub returns : goal.returns
returns c = λ x h.
    let e = ap length (c.name_at-letters.ensures x h) ∙ sym (has_word h) ∙ sym c.at.ensures.is ∙ c.if-at-name.false in
    eq-eqb _ _ e ∙ sym (compared_all x c.args.name.now _ _ (c.loop-letter.invariant x h) (ended c.in-None.ensures.steps))
