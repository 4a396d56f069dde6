-- Numbers that are read from left to right are those of the definition.
use Rattle.std.proofs.Common.{◌≡◌, ℕ, ◌+◌, ◌-◌, ◌*◌, ◌<◌, ◌≤◌, Bool, true, false, ◌&&◌, ltb, List, [], ◌∷◌, ◌++◌, length, Some, None, Option, sym, refl, ap, ◌∙◌, arith, ltb-false, ltb-true, le-ltb, lt-ltb}
use Rattle.language.specs.Syntax.{pick}
use Rattle.board.specs.Numbers.{digit, digits, value, number, more, and_then}

-- digits behind a number, one at a time
abbrev pub folded : ℕ → List ℕ → Option ℕ
folded n [] = Some n
folded n (b ∷ bs) = and_then (more n b) (λ m. folded m bs)

value_grows : (n : ℕ) (bs : List ℕ) → n ≤ value n bs
value_grows n [] = omega arith
value_grows n (b ∷ bs) = let h = value_grows (n * 10 + (b - 48)) bs in omega (arith, h)

none_and : (t : Bool) (w : ℕ) → pick (t && false) (Some w) None ≡ None
none_and true w = refl
none_and false w = refl

by_size : (w : ℕ) (bs : List ℕ) → (w < 4294967296 → folded w bs ≡ pick (digits bs && ltb (value w bs) 4294967296) (Some (value w bs)) None) → (u : Bool) → ltb w 4294967296 ≡ u → and_then (pick u (Some w) None) (λ m. folded m bs) ≡ pick (digits bs && ltb (value w bs) 4294967296) (Some (value w bs)) None
by_size w bs ih true e = ih (ltb-true w 4294967296 e)
by_size w bs ih false e =
    let g = value_grows w bs in
    let l = ltb-false w 4294967296 e in
    sym (ap (λ (u : Bool). pick (digits bs && u) (Some (value w bs)) None) (le-ltb (value w bs) 4294967296 (omega (arith, g, l))) ∙ none_and (digits bs) (value w bs))

by-digit : (w : ℕ) (bs : List ℕ) → (w < 4294967296 → folded w bs ≡ pick (digits bs && ltb (value w bs) 4294967296) (Some (value w bs)) None) → (t : Bool) → and_then (pick (t && ltb w 4294967296) (Some w) None) (λ m. folded m bs) ≡ pick ((t && digits bs) && ltb (value w bs) 4294967296) (Some (value w bs)) None
by-digit w bs ih true = by_size w bs ih (ltb w 4294967296) refl
by-digit w bs ih false = refl

pub folded-is : (n : ℕ) (bs : List ℕ) → n < 4294967296 → folded n bs ≡ pick (digits bs && ltb (value n bs) 4294967296) (Some (value n bs)) None
folded-is n [] h = ap (λ (t : Bool). pick t (Some n) None) (sym (lt-ltb n 4294967296 h))
folded-is n (b ∷ bs) h = by-digit (n * 10 + (b - 48)) bs (folded-is (n * 10 + (b - 48)) bs) (digit b)

pub number_is : (bs : List ℕ) → 0 < length bs → folded 0 bs ≡ number bs
number_is [] h = absurd (let z : ⊥ = omega arith in z)
number_is (b ∷ bs) h = folded-is 0 (b ∷ bs) (omega arith)

-- numbers before those of what is left
abbrev pub joined : List ℕ → Option (List ℕ) → Option (List ℕ)
joined ns None = None
joined ns (Some ms) = Some (ns ++ ms)
