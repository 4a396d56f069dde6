-- Words that are looked at byte by byte.
use Rattle.std.proofs.Common.{◌≡◌, ℕ, ◌^◌, ◌<◌, ◌≤◌, Bool, ◌&&◌, eqb, nat_eq, List, [], ◌∷◌, length, sym, refl, ap, ◌∙◌, ap₂, arith, lit<, le-leb}
use mathlib.Core.Option.{none}
use native.Mathlib.Nat.{pow-le-pow_right}
use Rattle.std.specs.Cmp.Lexicographic.{pointwise}
use Rattle.language.specs.Syntax.{pick, Name, same}
use Rattle.grammar.specs.Text.{decimal}
use Rattle.grammar.specs.Parse.{num_of}

-- a number that is short enough, or not
pub num_in : (w : List ℕ) → 1 ≤ length w → length w ≤ 10 → num_of w ≡ decimal 0 w
num_in w h k = ap₂ (λ (a b : Bool). pick (a && b) (decimal 0 w) none) (le-leb 1 (length w) h) (le-leb (length w) 10 k)

pub ten_ten : (i v : ℕ) → i ≤ 10 → v < 10 ^ i → v < 10000000000
ten_ten i v h k = let p : 10 ^ i ≤ 10 ^ 10 = pow-le-pow_right (lit< tt) h in omega arith

-- what `==` says of two words
pub same-pointwise : (x w : Name) → same x w ≡ pointwise nat_eq x w
same-pointwise [] [] = refl
same-pointwise [] (b ∷ w) = refl
same-pointwise (a ∷ x) [] = refl
same-pointwise (a ∷ x) (b ∷ w) = ap (λ t. eqb a b && t) (same-pointwise x w)

pub same-told : {b : Bool} (x w : Name) → b ≡ pointwise nat_eq x w → same x w ≡ b
same-told x w e = same-pointwise x w ∙ sym e
