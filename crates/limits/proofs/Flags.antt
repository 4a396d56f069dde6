-- Flags joined by and, by or.
use Rattle.std.proofs.Common.{◌≡◌, Bool, true, false, ◌&&◌, ◌||◌, ◌⊎◌, inl, inr, sym, refl, ap, ◌∙◌}

pub and_assoc : (a b c : Bool) → ((a && b) && c) ≡ (a && (b && c))
and_assoc true b c = refl
and_assoc false b c = refl

pub and-true : (a : Bool) → (a && true) ≡ a
and-true true = refl
and-true false = refl

pub and-false : (a : Bool) → (a && false) ≡ false
and-false true = refl
and-false false = refl

pub or_assoc : (a b c : Bool) → ((a || b) || c) ≡ (a || (b || c))
or_assoc true b c = refl
or_assoc false b c = refl

pub or-false : (a : Bool) → (a || false) ≡ a
or-false true = refl
or-false false = refl

-- two tests, the second made only if the first holds
pub joined : {v f : Bool} (a b : Bool) → f ≡ a → ((f ≡ true) × (v ≡ b)) ⊎ ((f ≡ false) × (v ≡ false)) → v ≡ (a && b)
joined a b e (inl k) = k.1 ∙ ap (λ t. t && b) (sym k.0 ∙ e)
joined a b e (inr k) = k.1 ∙ ap (λ t. t && b) (sym k.0 ∙ e)
