-- Reading and writing rows: 'nth' and 'put' of the specification, on appended rows.
use mathlib.Core.Path.{◌≡◌, refl, ap, ◌∙◌}
use mathlib.Core.List.{List, [], ◌∷◌, ◌++◌}
use mathlib.Core.Option.{Option, some, none}
use Prim.Native.Nat.{ℕ, zero, suc, ◌+◌, ◌<◌}
use native.Mathlib.Nat.{suc-add, zero-add}
use native.Mathlib.Omega.{arith}
use lib.ListN.{length}
use Rattle.language.specs.Syntax.{nth, put}

pub length-put : {A : Type 0} (xs : List A) (i : ℕ) (v : A) → length (put xs i v) ≡ length xs
length-put [] i v = refl
length-put (x ∷ xs) zero v = refl
length-put (x ∷ xs) (suc i) v = ap suc (length-put xs i v)

-- a place below the length holds something, and one that holds something is below the length
pub nth_in : {A : Type 0} (xs : List A) (i : ℕ) → i < length xs → (x : A) × (nth xs i ≡ some x)
nth_in [] i h = absurd (let z : ⊥ = omega arith in z)
nth_in (x ∷ xs) zero h = (x, refl)
nth_in (x ∷ xs) (suc i) h = nth_in xs i (omega arith)

pub none-some : {A B : Type 0} (x : A) → ◌≡◌ {A = Option A} none (some x) → B
none-some x e = absurd (let z : ◌≡◌ {A = ℕ} 0 1 = cc in omega arith)

pub nth_low : {A : Type 0} (xs : List A) (i : ℕ) (x : A) → nth xs i ≡ some x → i < length xs
nth_low [] i x e = none-some x e
nth_low (y ∷ xs) zero x e = omega arith
nth_low (y ∷ xs) (suc i) x e = let h : i < length xs = nth_low xs i x e in omega arith

pub nth-put-same : {A : Type 0} (xs : List A) (i : ℕ) (v : A) → i < length xs → nth (put xs i v) i ≡ some v
nth-put-same [] i v h = absurd (let z : ⊥ = omega arith in z)
nth-put-same (x ∷ xs) zero v h = refl
nth-put-same (x ∷ xs) (suc i) v h = nth-put-same xs i v (omega arith)

pub nth-put-other : {A : Type 0} (xs : List A) (i j : ℕ) (v : A) → (i ≡ j → ⊥) → nth (put xs i v) j ≡ nth xs j
nth-put-other [] i j v n = refl
nth-put-other (x ∷ xs) zero zero v n = absurd (n refl)
nth-put-other (x ∷ xs) zero (suc j) v n = refl
nth-put-other (x ∷ xs) (suc i) zero v n = refl
nth-put-other (x ∷ xs) (suc i) (suc j) v n = nth-put-other xs i j v (λ e. n (ap suc e))

-- rows behind one another
pub nth_left : {A : Type 0} (xs ys : List A) (i : ℕ) (x : A) → nth xs i ≡ some x → nth (xs ++ ys) i ≡ some x
nth_left [] ys i x e = none-some x e
nth_left (y ∷ xs) ys zero x e = e
nth_left (y ∷ xs) ys (suc i) x e = nth_left xs ys i x e

pub nth_right : {A : Type 0} (xs ys : List A) (i : ℕ) → nth (xs ++ ys) (length xs + i) ≡ nth ys i
nth_right [] ys i = ap (nth ys) (zero-add i)
nth_right (x ∷ xs) ys i = ap (nth (x ∷ (xs ++ ys))) (suc-add (length xs) i) ∙ nth_right xs ys i

pub put-left : {A : Type 0} (xs ys : List A) (i : ℕ) (v : A) → i < length xs → put (xs ++ ys) i v ≡ put xs i v ++ ys
put-left [] ys i v h = absurd (let z : ⊥ = omega arith in z)
put-left (x ∷ xs) ys zero v h = refl
put-left (x ∷ xs) ys (suc i) v h = ap (λ r. x ∷ r) (put-left xs ys i v (omega arith))

pub put_right : {A : Type 0} (xs ys : List A) (i : ℕ) (v : A) → put (xs ++ ys) (length xs + i) v ≡ xs ++ put ys i v
put_right [] ys i v = ap (λ j. put ys j v) (zero-add i)
put_right (x ∷ xs) ys i v = ap (λ j. put (x ∷ (xs ++ ys)) j v) (suc-add (length xs) i) ∙ ap (λ r. x ∷ r) (put_right xs ys i v)
