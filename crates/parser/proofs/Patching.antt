-- Words that are set after others were written behind them: a count, three counts, an item's length.
use Rattle.std.proofs.Common.{◌≡◌, ℕ, ◌+◌, ◌-◌, ◌*◌, ◌<◌, ◌≤◌, List, [], ◌∷◌, ◌++◌, length, get_or, take, sym, refl, ap, ◌∙◌, subst, append_assoc, append-nil, arith, length-append}
use Rattle.std.proofs.lemmas.List.{take_more, length-take-le}
use Rattle.language.specs.Syntax.{Item}
use Rattle.rows.specs.declared.row.Row.{Row}
use Rattle.rows.specs.Row.{Wrote, Patched}
use Rattle.rows.specs.Nodes.{num_row}
use Rattle.rows.specs.Trees.{list_row, item_no, rest_row, item_row}
use Rattle.rows.proofs.Writing.{wrote-more, wrote_patched}
use Rattle.bodies.proofs.Marking.{written-long}

-- a word behind a, which was v before
pub patched : {o p q : Row} (a b : List ℕ) (v w at : ℕ) → at ≡ o.len + length a → Wrote o p (a ++ (v ∷ b)) → Patched p q at w → Wrote o q (a ++ (w ∷ b))
patched {o} {p} {q} a b v w at e f g = wrote_patched a b v w (written-long o) f (subst (λ (i : ℕ). Patched p q i w) e g)

-- one word further
over : {o p : Row} (a b : List ℕ) (v : ℕ) → Wrote o p (a ++ (v ∷ b)) → Wrote o p ((a ++ (v ∷ [])) ++ b)
over {o} {p} a b v f = subst (Wrote o p) (sym (append_assoc a (v ∷ []) b)) f

under : {o p : Row} (a b : List ℕ) (v : ℕ) → Wrote o p ((a ++ (v ∷ [])) ++ b) → Wrote o p (a ++ (v ∷ b))
under {o} {p} a b v f = subst (Wrote o p) (append_assoc a (v ∷ []) b) f

-- the word behind that
pub patched_next : {o p q : Row} (a b : List ℕ) (v w at : ℕ) → at ≡ o.len + length a → Wrote o p (a ++ (v ∷ 0 ∷ b)) → Patched p q (at + 1) w → Wrote o q (a ++ (v ∷ w ∷ b))
patched_next a b v w at e f g = under a (w ∷ b) v (patched (a ++ (v ∷ [])) b 0 w (at + 1) (omega (arith, length-append a (v ∷ []))) (over a (0 ∷ b) v f) g)

pub patched_3 : {o p q r s : Row} (a b : List ℕ) (i j k at : ℕ) → at ≡ o.len + length a → Wrote o p (a ++ (0 ∷ 0 ∷ 0 ∷ b)) → Patched p q at i → Patched q r (at + 1) j → Patched r s (at + 2) k → Wrote o s (a ++ (i ∷ j ∷ k ∷ b))
patched_3 a b i j k at e f g h l =
    let f1 = patched a (0 ∷ 0 ∷ b) 0 i at e f g in
    let f2 = patched (a ++ (i ∷ [])) (0 ∷ b) 0 j (at + 1) (omega (arith, length-append a (i ∷ []))) (over a (0 ∷ 0 ∷ b) i f1) h in
    let f3 = patched ((a ++ (i ∷ [])) ++ (j ∷ [])) b 0 k (at + 2) (omega (arith, length-append a (i ∷ []), length-append (a ++ (i ∷ [])) (j ∷ []))) (over (a ++ (i ∷ [])) (0 ∷ b) j f2) l in
    under a (j ∷ k ∷ b) i (under (a ++ (i ∷ [])) (k ∷ b) j f3)

-- an item's length
pub closed : {o p q : Row} (i : Item) (ws : List ℕ) → ws ≡ rest_row i → Wrote o p (item_no i ∷ 0 ∷ ws) → Patched p q (o.len + 1) (p.len - o.len - 2) → Wrote o q (item_row i)
closed {o} {p} {q} i ws e f g =
    let l = f.long in
    let n : p.len - o.len - 2 ≡ length ws = omega arith in
    let h = patched (item_no i ∷ []) ws 0 (p.len - o.len - 2) (o.len + 1) (omega arith) f g in
    subst (λ (v : List ℕ). Wrote o q (item_no i ∷ length v ∷ v)) e (subst (λ (m : ℕ). Wrote o q (item_no i ∷ m ∷ ws)) n h)

-- a row of elements
pub list_row-on : {A : Type 0} (row : A → List ℕ) (xs : List A) (y : A) → list_row row (xs ++ (y ∷ [])) ≡ list_row row xs ++ row y
list_row-on row [] y = append-nil (row y)
list_row-on row (x ∷ xs) y = ap (λ l. row x ++ l) (list_row-on row xs y) ∙ sym (append_assoc (row x) (list_row row xs) (row y))

-- the bytes of a text
pub text-more : {o p q : Row} (w : List ℕ) (i : ℕ) → i < length w → Wrote o p (list_row num_row (take i w)) → Wrote p q (num_row (get_or w i 0)) → Wrote o q (list_row num_row (take (i + 1) w))
text-more {o} {p} {q} w i h f g = subst (Wrote o q) (sym (ap (list_row num_row) (take_more w i 0 h) ∙ list_row-on num_row (take i w) (get_or w i 0))) (wrote-more f g)

pub text_long : (ns : List ℕ) → length (list_row num_row ns) ≡ 2 * length ns
text_long [] = refl
text_long (n ∷ ns) = omega (arith, text_long ns)

pub text_room : {o p : Row} (w : List ℕ) (i : ℕ) → i < length w → o.len + 2 * length w ≤ length o.words.now → Wrote o p (list_row num_row (take i w)) → p.len + 2 ≤ length p.words.now
text_room w i h r g = let l = g.long in let k = g.kept in let u = text_long (take i w) in let v = length-take-le i w (omega arith) in omega arith
