-- Laws of writing: one row behind another, a name byte by byte, a word put in later.
use Rattle.std.proofs.Common.{◌≡◌, ℕ, zero, suc, ◌+◌, ◌<◌, ◌≤◌, List, [], ◌∷◌, ◌++◌, length, get_or, take, set, sym, refl, ap, ◌∙◌, subst, append_assoc, append-nil, arith, length-append}
use Rattle.std.proofs.lemmas.List.{take_more, take_all}
use Rattle.language.specs.Syntax.{put}
use Rattle.rows.specs.declared.row.Row.{Row}
use Rattle.rows.specs.Row.{written, Wrote, Patched, Pushed}
use Rattle.rows.specs.Has.{named}

pub wrote-more : {o p q : Row} {ws vs : List ℕ} → Wrote o p ws → Wrote p q vs → Wrote o q (ws ++ vs)
wrote-more {o} {p} {q} {ws} {vs} f g = record {
  grown = g.grown ∙ ap (λ l. l ++ vs) f.grown ∙ append_assoc (written o) ws vs;
  long = let a = f.long in let b = g.long in omega (arith, length-append ws vs);
  kept = g.kept ∙ f.kept;
  same = g.same ∙ f.same;
}

pub wrote_none : (o : Row) → Wrote o o []
wrote_none o = record { grown = sym (append-nil (written o)); long = omega arith; kept = refl; same = refl }

pub wrote-take : {o p q : Row} (w : List ℕ) (i : ℕ) → i < length w → Wrote o p (take i w) → Wrote p q (get_or w i 0 ∷ []) → Wrote o q (take (i + 1) w)
wrote-take {o} {p} {q} w i h f g = subst (Wrote o q) (sym (take_more w i 0 h)) (wrote-more f g)

pub wrote_whole : {o p : Row} (w : List ℕ) (i : ℕ) → length w ≤ i → Wrote o p (take i w) → Wrote o p w
wrote_whole {o} {p} w i h f = subst (Wrote o p) (take_all i w h) f

pub wrote-all : {o p q : Row} (w : List ℕ) (i : ℕ) → length w ≤ i → Wrote o p (length w ∷ []) → Wrote p q (take i w) → Wrote o q (named w)
wrote-all {o} {p} {q} w i h f g = wrote-more f (wrote_whole w i h g)

put-behind : (s a b : List ℕ) (x v : ℕ) (n : ℕ) → n ≡ length s + length a → put (s ++ (a ++ (x ∷ b))) n v ≡ s ++ (a ++ (v ∷ b))
put-behind [] [] b x v zero e = refl
put-behind [] [] b x v (suc n) e = absurd (let z : ⊥ = omega arith in z)
put-behind [] (y ∷ a) b x v zero e = absurd (let z : ⊥ = omega arith in z)
put-behind [] (y ∷ a) b x v (suc n) e = ap {B = List ℕ} (λ l. y ∷ l) (put-behind [] a b x v n (omega arith))
put-behind (y ∷ s) a b x v zero e = absurd (let z : ⊥ = omega arith in z)
put-behind (y ∷ s) a b x v (suc n) e = ap {B = List ℕ} (λ l. y ∷ l) (put-behind s a b x v n (omega arith))

-- a word that was written, and then another in its place
pub wrote_patched : {o p q : Row} (a b : List ℕ) (x v : ℕ) → o.len ≡ length (written o) → Wrote o p (a ++ (x ∷ b)) → Patched p q (o.len + length a) v → Wrote o q (a ++ (v ∷ b))
wrote_patched {o} {p} {q} a b x v l f g = record {
  grown = g.changed ∙ (ap (λ s. put s (o.len + length a) v) f.grown ∙ put-behind (written o) a b x v (o.len + length a) (ap (λ n. n + length a) l));
  long = let i = g.long in let j = f.long in omega (arith, length-append a (x ∷ b), length-append a (v ∷ b));
  kept = g.kept ∙ f.kept;
  same = g.same ∙ f.same;
}

-- the code's way of setting an element is the specification's, in what was written
pub take-set-put : (ws : List ℕ) (n i v : ℕ) → i < n → take n (set ws i v) ≡ put (take n ws) i v
take-set-put [] zero i v h = refl
take-set-put [] (suc n) i v h = refl
take-set-put (w ∷ ws) zero i v h = absurd (let z : ⊥ = omega arith in z)
take-set-put (w ∷ ws) (suc n) zero v h = refl
take-set-put (w ∷ ws) (suc n) (suc i) v h = ap {B = List ℕ} (λ l. w ∷ l) (take-set-put ws n i v (omega arith))

-- words that are written if there is room
pub pushed_more : {o p q : Row} {ws vs : List ℕ} → Pushed o p ws → Pushed p q vs → Pushed o q (ws ++ vs)
pushed_more {o} {p} {q} {ws} {vs} f g = record {
  wrote = λ h.
      let first : Wrote o p ws = f.wrote (omega (arith, h, length-append ws vs)) in
      wrote-more first (g.wrote (omega (arith, h, length-append ws vs, first.long, f.kept)));
  kept = g.kept ∙ f.kept;
  same = g.same ∙ f.same;
}

pub pushed_none : (o : Row) → Pushed o o []
pushed_none o = record { wrote = λ h. wrote_none o; kept = refl; same = refl }

pub pushed_take : {o p q : Row} (w : List ℕ) (i : ℕ) → i < length w → Pushed o p (take i w) → Pushed p q (get_or w i 0 ∷ []) → Pushed o q (take (i + 1) w)
pushed_take {o} {p} {q} w i h f g = subst (Pushed o q) (sym (take_more w i 0 h)) (pushed_more f g)

pub pushed_whole : {o p : Row} (w : List ℕ) (i : ℕ) → length w ≤ i → Pushed o p (take i w) → Pushed o p w
pushed_whole {o} {p} w i h f = subst (Pushed o p) (take_all i w h) f
