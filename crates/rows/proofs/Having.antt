-- What stands in a row, part by part.
use Rattle.std.proofs.Common.{◌≡◌, ℕ, ◌+◌, ◌<◌, ◌≤◌, min, List, ◌∷◌, ◌++◌, length, get_or, drop, sym, refl, ap, ◌∙◌, subst, append_assoc, arith, length-append}
use Rattle.std.proofs.lemmas.List.{drop_more, drop-drop, drop_at, get_or-drop, get_or_append_left}
use Rattle.rows.specs.Has.{Has}

pub has_word : {w : List ℕ} {i a : ℕ} {ws : List ℕ} → Has w i (a ∷ ws) → get_or w i 0 ≡ a
has_word {w} {i} {a} {ws} h =
    let l : i < length w = omega (arith, h.inside) in
    let e = drop_more w i 0 l in
    let k = h.is in
    cc

pub has-next : {w : List ℕ} {i a : ℕ} {ws : List ℕ} → Has w i (a ∷ ws) → Has w (i + 1) ws
has-next {w} {i} {a} {ws} h =
    let l : i < length w = omega (arith, h.inside) in
    let e = drop_more w i 0 l in
    let k = h.is in
    record { rest = h.rest; is = cc; inside = omega (arith, h.inside) }

pub has_left : {w : List ℕ} {i : ℕ} (as₁ bs : List ℕ) → Has w i (as₁ ++ bs) → Has w i as₁
has_left {w} {i} as₁ bs h = record { rest = bs ++ h.rest; is = h.is ∙ append_assoc as₁ bs h.rest; inside = omega (arith, h.inside, length-append as₁ bs) }

pub has_right : {w : List ℕ} {i : ℕ} (as₁ bs : List ℕ) → Has w i (as₁ ++ bs) → Has w (i + length as₁) bs
has_right {w} {i} as₁ bs h =
    record { rest = h.rest; is = sym (drop-drop (length as₁) i w) ∙ ap (drop (length as₁)) (h.is ∙ append_assoc as₁ bs h.rest) ∙ drop_at as₁ (bs ++ h.rest) (length as₁) refl; inside = omega (arith, h.inside, length-append as₁ bs) }

pub has-at : {w : List ℕ} {i : ℕ} {ws : List ℕ} (k : ℕ) → Has w i ws → k < length ws → get_or w (i + k) 0 ≡ get_or ws k 0
has-at {w} {i} {ws} k h l = sym (get_or-drop i w k 0) ∙ ap (λ (v : List ℕ). get_or v k 0) h.is ∙ get_or_append_left ws h.rest 0 k l

-- at another writing of the place
pub has_to : {w : List ℕ} {i j : ℕ} {ws : List ℕ} → i ≡ j → Has w i ws → Has w j ws
has_to {w} {i} {j} {ws} e h = subst (λ (n : ℕ). Has w n ws) e h

pub has_as : {w : List ℕ} {i : ℕ} {ws vs : List ℕ} → ws ≡ vs → Has w i ws → Has w i vs
has_as {w} {i} {ws} {vs} e h = subst (λ (v : List ℕ). Has w i v) e h

-- a sum that is cut off at the largest number, where it isn't
pub uncut : {s n m : ℕ} → s ≡ min n 18446744073709551615 → n ≤ m → m < 18446744073709551616 → s ≡ n
uncut {s} {n} {m} e h k = omega arith

pub read_at : {w : List ℕ} {i : ℕ} {ws : List ℕ} {k s r : ℕ} → Has w i ws → k < length ws → length w < 18446744073709551616 → s ≡ min (i + k) 18446744073709551615 → r ≡ get_or w s 0 → r ≡ get_or ws k 0
read_at {w} {i} {ws} {k} {s} {r} h l b e f = f ∙ ap (λ (n : ℕ). get_or w n 0) (uncut e (omega (arith, h.inside)) b) ∙ has-at k h l
