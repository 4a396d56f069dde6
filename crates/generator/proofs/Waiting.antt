-- Jumps that wait in the middle of the steps, the pile's places, and states that are the same.
use mathlib.Core.Path.{◌≡◌, refl, ap}
use mathlib.Core.List.{List, [], ◌∷◌, ◌++◌}
use mathlib.Core.Option.{Option, some, none}
use Prim.Native.Nat.{ℕ, zero, suc}
use native.Mathlib.Omega.{arith}
use lib.ListN.{length}
use Rattle.language.specs.Syntax.{opt}
use Rattle.steps.specs.Steps.{Step}
use Rattle.generator.specs.Emit.{Entry, e_temp, e_own, above, place_of, target_of, aim, target_at, aim_at, marks}

pub target-mid : (r : List Step) (s : Step) (xs : List Step) (i : ℕ) → i ≡ length r → target_at (r ++ (s ∷ xs)) i ≡ target_of s
target-mid [] s xs zero e = refl
target-mid [] s xs (suc i) e = absurd (let z : ⊥ = omega arith in z)
target-mid (x ∷ r) s xs zero e = absurd (let z : ⊥ = omega arith in z)
target-mid (x ∷ r) s xs (suc i) e = target-mid r s xs i (omega arith)

pub aim-mid : (r : List Step) (s : Step) (xs : List Step) (i u : ℕ) → i ≡ length r → aim_at (r ++ (s ∷ xs)) i u ≡ r ++ (aim u s ∷ xs)
aim-mid [] s xs zero u e = refl
aim-mid [] s xs (suc i) u e = absurd (let z : ⊥ = omega arith in z)
aim-mid (x ∷ r) s xs zero u e = absurd (let z : ⊥ = omega arith in z)
aim-mid (x ∷ r) s xs (suc i) u e = ap {B = List Step} (λ l. x ∷ l) (aim-mid r s xs i u (omega arith))

pub marks-eq : {p q : List Entry} {o o' h h' : ℕ} {r r' : List Step} → p ≡ q → o ≡ o' → h ≡ h' → r ≡ r' → marks p o h r ≡ marks q o' h' r'
marks-eq a b c d = cc

-- a word of the function's own, or a temporary
abbrev pub entry_of : Option ℕ → Entry
entry_of none = e_temp
entry_of (some k) = e_own k

pub above-one : (o : Option ℕ) (b : ℕ) (p : List Entry) → above b (entry_of o ∷ p) ≡ suc (above b p)
above-one none b p = refl
above-one (some k) b p = refl

pub place-one : (o : Option ℕ) (d : ℕ) → place_of d (entry_of o) ≡ opt o d (λ k. k)
place-one none d = refl
place-one (some k) d = refl
