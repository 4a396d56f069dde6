-- Names compared letter by letter.
use Rattle.std.proofs.Common.{◌≡◌, ℕ, suc, ◌⊎◌, inl, inr, Bool, true, false, ◌&&◌, eqb, [], ◌∷◌, length, refl, ap, ◌∙◌, ap₂, eq-eqb, ne_eqb, arith}
use Rattle.language.specs.Syntax.{Name, same}
use Rattle.limits.proofs.Flags.{and-false}

-- names of other lengths are others
pub same-long : (x y : Name) → (length x ≡ length y → ⊥) → same x y ≡ false
same-long [] [] e = absurd (e refl)
same-long [] (b ∷ y) e = refl
same-long (a ∷ x) [] e = refl
same-long (a ∷ x) (b ∷ y) e = ap (λ (t : Bool). eqb a b && t) (same-long x y (λ k. e (ap suc k))) ∙ and-false (eqb a b)

-- names as far as they were compared: what is left of both is as long, and decides
abbrev pub Compared : Name → Name → Name → Name → Type 0
Compared x y p q = (length p ≡ length q) × (same x y ≡ same p q)

pub compared_stop : {p q r s : Name} {a b : ℕ} (x y : Name) → Compared x y p q → p ≡ a ∷ r → q ≡ b ∷ s → (a ≡ b → ⊥) → same x y ≡ false
compared_stop {r = r} {s = s} {a = a} {b = b} x y c e f ne = c.1 ∙ ap₂ same e f ∙ ap (λ (t : Bool). t && same r s) (ne_eqb a b ne)

pub compared_on : {p q r s : Name} {a b : ℕ} (x y : Name) → Compared x y p q → p ≡ a ∷ r → q ≡ b ∷ s → a ≡ b → Compared x y r s
compared_on {r = r} {s = s} {a = a} {b = b} x y c e f ab =
    let l = ap length e in
    let m = ap length f in
    (omega arith, c.1 ∙ ap₂ same e f ∙ ap (λ (t : Bool). t && same r s) (eq-eqb a b ab))

pub compared_all : (x y p q : Name) → Compared x y p q → (length p ≡ 0) ⊎ (length q ≡ 0) → same x y ≡ true
compared_all x y [] [] c e = c.1
compared_all x y [] (b ∷ q) c e = absurd (omega (c.0, arith))
compared_all x y (a ∷ p) [] c e = absurd (omega (c.0, arith))
compared_all x y (a ∷ p) (b ∷ q) c (inl e) = absurd (omega (e, arith))
compared_all x y (a ∷ p) (b ∷ q) c (inr e) = absurd (omega (e, arith))
