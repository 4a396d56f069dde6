-- A name by itself is told from every other expression by its row: every other row that begins with a name goes on behind it.
use Rattle.std.proofs.Common.{◌≡◌, ℕ, ◌+◌, ◌-◌, ◌<◌, ◌≤◌, Bool, true, false, List, [], ◌∷◌, ◌++◌, length, get_or, sym, refl, ap, ◌∙◌, subst, arith, length-append}
use Rattle.std.proofs.lemmas.List.{length-take-le, get_or-take, get_or-append-add}
use Rattle.language.specs.Syntax.{Name, Expr, num, var, bin, un, and1, or1, idx, len, call, by_table, input, Exprs, no, and_then}
use Rattle.rows.specs.declared.row.Row.{Row}
use Rattle.rows.specs.Row.{written, Wrote, Patched}
use Rattle.rows.specs.Nodes.{count, expr_row, args_row}
use Rattle.rows.proofs.Writing.{wrote_patched}
use Rattle.bodies.specs.Outcome.{Marked}

-- a row that begins with a name has the whole name
record Leaf (r : List ℕ) : Type 0 where
  some : 1 ≤ length r
  fits : get_or r 0 0 ≡ 1 → get_or r 1 0 + 2 ≤ length r

leaf-on : (r s : List ℕ) → Leaf r → Leaf (r ++ s)
leaf-on [] s l = absurd (omega (arith, l.some))
leaf-on (x ∷ []) s l = record { some = omega arith; fits = λ e. let f = l.fits e in absurd (omega arith) }
leaf-on (x ∷ y ∷ r) s l = record { some = omega arith; fits = λ e. let f = l.fits e in omega (arith, length-append r s) }

more : (r s : List ℕ) → Leaf r → 1 ≤ length s → get_or (r ++ s) 0 0 ≡ 1 → get_or (r ++ s) 1 0 + 2 < length (r ++ s)
more [] s l h e = absurd (omega (arith, l.some))
more (x ∷ []) s l h e = let f = l.fits e in absurd (omega arith)
more (x ∷ y ∷ r) s l h e = let f = l.fits e in omega (arith, length-append r s)

other_tag : (t : ℕ) (ws : List ℕ) → (t ≡ 1 → ⊥) → Leaf (t ∷ ws)
other_tag t ws n = record { some = omega arith; fits = λ e. absurd (n e) }

mutual
  unfolding expr_row args_row

  leaf : (a : Bool) (e : Expr) → Leaf (expr_row a e)
  leaf a (num n) = other_tag 0 _ (λ e. omega arith)
  leaf true (var x) = other_tag 26 _ (λ e. omega arith)
  leaf false (var x) = record { some = omega arith; fits = λ e. omega arith }
  leaf a (bin o e f) = leaf-on (expr_row false e) _ (leaf false e)
  leaf a (un o e) = leaf-on (expr_row false e) _ (leaf false e)
  leaf a (and1 e f) = leaf-on (expr_row false e) _ (leaf false e)
  leaf a (or1 e f) = leaf-on (expr_row false e) _ (leaf false e)
  leaf a (idx x e) = leaf-on (expr_row false e) _ (leaf false e)
  leaf a (len x) = other_tag 8 _ (λ e. omega arith)
  leaf a (call x es) = leafs es x
  leaf a (by_table x e es) = leaf-on (expr_row false e) _ (leaf false e)
  leaf a input = other_tag 11 _ (λ e. omega arith)

  leafs : (es : Exprs) (x : Name) → Leaf (expr_row false (call x es))
  leafs no x = other_tag 9 _ (λ e. omega arith)
  leafs (and_then e es) x = leaf-on (args_row (and_then e es)) _ (leaf-on (expr_row true e) (args_row es) (leaf true e))

-- a name, or an expression with one row, which is no name's
data Alone : Expr → Type 0 where
  a_name : (x : Name) → Alone (var x)
  a_other : {e : Expr} → expr_row true e ≡ expr_row false e → (get_or (expr_row false e) 0 0 ≡ 1 → get_or (expr_row false e) 1 0 + 2 < length (expr_row false e)) → Alone e

begun : (e : Expr) (s : List ℕ) → 1 ≤ length s → get_or (expr_row false e ++ s) 0 0 ≡ 1 → get_or (expr_row false e ++ s) 1 0 + 2 < length (expr_row false e ++ s)
begun e s h = more (expr_row false e) s (leaf false e) h

alone : (e : Expr) → Alone e
unfolding expr_row args_row
alone (num n) = a_other refl (λ q. absurd (let z : ⊥ = omega arith in z))
alone (var x) = a_name x
alone (bin o e f) = a_other refl (begun e (expr_row false f ++ (2 ∷ o ∷ [])) (omega (arith, length-append (expr_row false f) (2 ∷ o ∷ []))))
alone (un o e) = a_other refl (begun e (6 ∷ o ∷ []) (omega arith))
alone (and1 e f) = a_other refl (begun e (3 ∷ (expr_row false f ++ (5 ∷ []))) (omega arith))
alone (or1 e f) = a_other refl (begun e (4 ∷ (expr_row false f ++ (5 ∷ []))) (omega arith))
alone (idx x e) = a_other refl (begun e (7 ∷ length x ∷ x) (omega arith))
alone (len x) = a_other refl (λ q. absurd (let z : ⊥ = omega arith in z))
alone (call x no) = a_other refl (λ q. absurd (let z : ⊥ = omega arith in z))
alone (call x (and_then e es)) = a_other refl (more (args_row (and_then e es)) _ (leaf-on (expr_row true e) (args_row es) (leaf true e)) (omega arith))
alone (by_table x e es) = a_other refl (more (expr_row false e) _ (leaf false e) (omega (arith, length-append (args_row es) (10 ∷ count es ∷ length x ∷ x))))
alone input = a_other refl (λ q. absurd (let z : ⊥ = omega arith in z))

pub written-long : (o : Row) → o.len ≡ length (written o)
written-long o = sym (length-take-le o.len o.words.now o.ok)

-- what was written stands in the words
word_at : {o p : Row} {ws : List ℕ} (k j : ℕ) → j ≡ o.len + k → Wrote o p ws → k < length ws → get_or p.words.now j 0 ≡ get_or ws k 0
word_at {o} {p} {ws} k j e f h =
    let l = f.long in
    sym (get_or-take p.len p.words.now j 0 (omega arith))
    ∙ ap (λ v. get_or v j 0) f.grown
    ∙ ap (get_d_of (written o ++ ws)) (e ∙ ap (λ n. n + k) (written-long o))
    ∙ get_or-append-add (written o) ws k 0
  where
    get_d_of : List ℕ → ℕ → ℕ
    get_d_of v n = get_or v n 0

-- what the code sees of a name by itself
pub record AloneAt (at : ℕ) (p : Row) : Type 0 where
  pub first : get_or p.words.now at 0 ≡ 1
  pub second : get_or p.words.now (at + 1) 0 + 2 ≡ p.len - at

name-seen : {o p : Row} (at : ℕ) (x : Name) → o.len ≡ at → Wrote o p (expr_row false (var x)) → AloneAt at p
unfolding expr_row
name-seen {o} {p} at x h w =
    let l = w.long in let a = word_at 0 at (omega arith) w (omega arith) in let b = word_at 1 (at + 1) (omega arith) w (omega arith) in
    record { first = a; second = omega arith }

pub mark_none : (at : ℕ) (p : Row) → (AloneAt at p → ⊥) → Marked at p p
mark_none at p n o e q w = go (alone e) w
  where
    go : {f : Expr} → Alone f → Wrote o p (expr_row false f) → Wrote o p (expr_row true f)
    go (a_name x) v = absurd (n (name-seen at x q v))
    go (a_other s f) v = subst (Wrote o p) (sym s) v

pub mark_set : (at : ℕ) (p q : Row) → AloneAt at p → Patched p q at 26 → Marked at p q
unfolding expr_row
mark_set at p q s g o e h w = go (alone e) w
  where
    go : {f : Expr} → Alone f → Wrote o p (expr_row false f) → Wrote o q (expr_row true f)
    go (a_name x) v = wrote_patched [] (length x ∷ x) 1 26 (written-long o) v (subst (λ (i : ℕ). Patched p q i 26) (let z : at ≡ o.len + 0 = omega arith in z) g)
    go {f} (a_other i m) v =
        let l = v.long in let b = s.second in
        let c = word_at 0 at (omega arith) v (omega arith) in let d = word_at 1 (at + 1) (omega arith) v (omega arith) in
        let y = m (sym c ∙ s.first) in
        absurd (omega arith)
