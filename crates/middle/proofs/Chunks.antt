-- Rows of words of one length, as chunks: what the chunks are, and how a loop goes over them.
use Rattle.std.proofs.Common.{◌≡◌, ℕ, zero, suc, ◌+◌, ◌≤◌, List, [], ◌∷◌, ◌++◌, length, map, get_or, take, drop, refl, ap, ◌∙◌, append_assoc, arith, length-drop}
use Rattle.std.proofs.lemmas.List.{take_at, drop_at}
use Rattle.std.specs.Simd.{first_chunks}
use Rattle.rows.specs.Has.{Has}
use Rattle.rows.specs.Trees.{list_row}
use Rattle.rows.proofs.Having.{has_right, has_to}

-- the words of each, chunk by chunk
pub by_chunks : {A : Type 0} (words : A → List ℕ) (n : ℕ) → ((a : A) → length (words a) ≡ n) → (as₁ : List A) (xs rest : List ℕ) (k : ℕ) → xs ≡ list_row words as₁ ++ rest → length as₁ ≤ k → take (length as₁) (first_chunks n k xs) ≡ map words as₁
by_chunks words n long [] xs rest k e l = refl
by_chunks words n long (a ∷ as₁) xs rest zero e l = absurd (let z : ⊥ = omega arith in z)
by_chunks words n long (a ∷ as₁) xs rest (suc k) e l =
    let f : xs ≡ words a ++ (list_row words as₁ ++ rest) = e ∙ append_assoc (words a) (list_row words as₁) rest in
    let t : take n xs ≡ words a = ap (take n) f ∙ take_at (words a) (list_row words as₁ ++ rest) n (long a) in
    let d : drop n xs ≡ list_row words as₁ ++ rest = ap (drop n) f ∙ drop_at (words a) (list_row words as₁ ++ rest) n (long a) in
    ap (λ x. x ∷ take (length as₁) (first_chunks n k (drop n xs))) t ∙ ap (λ ys. words a ∷ ys) (by_chunks words n long as₁ (drop n xs) rest k d (omega arith))

-- the first of what is left, and what is left then
pub record Next {A : Type 0} (xs : List A) (i : ℕ) (x : A) (rest : List A) : Type 0 where
  pub item : (d : A) → get_or xs i d ≡ x
  pub others : drop (i + 1) xs ≡ rest

pub next-is : {A : Type 0} (xs : List A) (i : ℕ) {x : A} {rest : List A} → drop i xs ≡ x ∷ rest → Next xs i x rest
next-is {A} [] i h = absurd (let z : ⊥ = omega (arith, ap length h, length-drop {A = A} i []) in z)
next-is (y ∷ xs) zero h = record { item = λ d. cc; others = cc }
next-is (y ∷ xs) (suc i) h =
    let n = next-is xs i h in
    let e : suc i + 1 ≡ suc (i + 1) = omega arith in
    record { item = n.item; others = ap (λ k. drop k (y ∷ xs)) e ∙ n.others }

-- what stands behind the first of some words
pub behind-has : {row r : List ℕ} (ws vs : List ℕ) → Has row 0 (ws ++ vs) → r ≡ drop (length ws) row → Has r 0 vs
behind-has {row} {r} ws vs h e =
    let k : Has row (length ws) vs = has_to (omega arith) (has_right ws vs h) in
    record { rest = k.rest; is = e ∙ k.is; inside = let i = k.inside in omega (arith, ap length e, length-drop (length ws) row) }
