-- The pieces of each part of the grammar open as many brackets as they shut, so that a limit on open brackets passes to the parts.
-- Rests on Text; the bound on depth needs it.
use mathlib.Core.Path.{◌≡◌, refl, ◌∙◌, ap, subst}
use mathlib.Core.Bool.{Bool, true, false, ◌&&◌}
use mathlib.Core.List.{List, [], ◌∷◌, ◌++◌}
use mathlib.Core.Option.{some, none-ne-some}
use Prim.Native.Nat.{ℕ, ◌+◌, ◌-◌, ◌≤◌}
use native.Mathlib.Omega.{arith}
use lib.Dec.{leb, T, leb→le}
use Rattle.language.specs.Syntax.{pick, Name, same, Expr, Exprs, Stmt, Block, Param, Arr, Item}
use Rattle.grammar.specs.Text.{t_lp, t_rp, t_lb, t_rb, t_lc, t_rc, t_semi, is_name, decimal, IsNumber, Between, plus, minus, times, over, rest, is, isnt, less, most, more, least, both, any, exclusive, left, right, Before, minus_before, not_before, flip_before, AreNames, one_n, more_n, AreNumbers, one_v, more_v, IsExpr, looser, or_e, and_e, two_e, one_e, num_e, var_e, brackets_e, index_e, len_e, call_e, table_e, in_e, AreArgs, none_es, one_es, more_es, IsStmt, set_s, store_s, ex_s, out_s, if_s, ifelse_s, while_s, return_s, break_s, continue_s, IsBlock, end_s, more_s, IsParam, word_p, wide_p, byte_p, AreParams, none_ps, one_ps, more_ps, AreVars, no_vars, some_vars, AreArrays, no_arrs, wide_a, byte_a, IsItem, word_i, wide_i, byte_i, data_i, text_i, table_i, use_i, fn_i, AreItems, no_items, more_items, opens, shuts, flat}
use Rattle.grammar.proofs.PieceKinds.{same-eq, and_0, and_1}

-- how many brackets are open behind a piece, and behind some
abbrev pub after1 : ℕ → Name → ℕ
after1 n w = pick (opens w) (n + 1) (pick (shuts w) (n - 1) n)

abbrev pub level : ℕ → List Name → ℕ
level n [] = n
level n (w ∷ ws) = level (after1 n w) ws

pub level_++ : (n : ℕ) (s t : List Name) → level n (s ++ t) ≡ level (level n s) t
level_++ n [] t = refl
level_++ n (w ∷ s) t = level_++ (after1 n w) s t

-- at most 40 up to a place, and from there
pub flat_++ : (n : ℕ) (s t : List Name) → T (flat n (s ++ t)) → T (flat n s) × T (flat (level n s) t)
flat_++ n [] t h = (tt, h)
flat_++ n (w ∷ s) t h = go (leb n 40) h (λ k. flat_++ (after1 n w) s t k)
  where
    go : (b : Bool) → T (b && flat (after1 n w) (s ++ t)) → (T (flat (after1 n w) (s ++ t)) → T (flat (after1 n w) s) × T (flat (level (after1 n w) s) t)) → T (b && flat (after1 n w) s) × T (flat (level (after1 n w) s) t)
    go true k ih = ih k
    go false k ih = absurd k

pub cut : (n : ℕ) (s t : List Name) → level n s ≡ n → T (flat n (s ++ t)) → T (flat n s) × T (flat n t)
cut n s t e h = let k = flat_++ n s t h in (k.0, subst (λ m. T (flat m t)) e k.1)

pub next : (n m : ℕ) (w : Name) (t : List Name) → after1 n w ≡ m → T (flat n (w ∷ t)) → (n ≤ 40) × T (flat m t)
next n m w t e h = (leb→le n 40 (and_0 (leb n 40) _ h), subst (λ i. T (flat i t)) e (and_1 (leb n 40) _ h))

-- pieces that are no brackets
isnt-same : (w v : Name) → (T (same w v) → ⊥) → same w v ≡ false
isnt-same w v f = go (same w v) f
  where
    go : (b : Bool) → (T b → ⊥) → b ≡ false
    go true g = absurd (g tt)
    go false g = refl

plain : (Q : Name → Type 0) → (Q t_lp → ⊥) → (Q t_lb → ⊥) → (Q t_lc → ⊥) → (Q t_rp → ⊥) → (Q t_rb → ⊥) → (Q t_rc → ⊥) → (w : Name) → Q w → (n : ℕ) → after1 n w ≡ n
plain Q a b c d e f w q n =
    let no1 : (v : Name) → (Q v → ⊥) → same w v ≡ false = λ v g. isnt-same w v (λ t. g (subst Q (same-eq w v t) q)) in
    rw (no1 t_lp a, no1 t_lb b, no1 t_lc c, no1 t_rp d, no1 t_rb e, no1 t_rc f)

pub plain-name : (x : Name) → T (is_name x) → (n : ℕ) → after1 n x ≡ n
plain-name x = plain (λ w. T (is_name w)) (λ h. h) (λ h. h) (λ h. h) (λ h. h) (λ h. h) (λ h. h) x

pub plain-num : (w : Name) (k : ℕ) → IsNumber w k → (n : ℕ) → after1 n w ≡ n
plain-num w k h = plain (λ v. decimal 0 v ≡ some k) (none-ne-some k) (none-ne-some k) (none-ne-some k) (none-ne-some k) (none-ne-some k) (none-ne-some k) w h.1

pub plain-between : {l o : ℕ} {w : Name} → Between l w o → (n : ℕ) → after1 n w ≡ n
plain-between plus n = refl
plain-between minus n = refl
plain-between times n = refl
plain-between over n = refl
plain-between rest n = refl
plain-between is n = refl
plain-between isnt n = refl
plain-between less n = refl
plain-between most n = refl
plain-between more n = refl
plain-between least n = refl
plain-between both n = refl
plain-between any n = refl
plain-between exclusive n = refl
plain-between left n = refl
plain-between right n = refl

pub plain-before : {o : ℕ} {w : Name} → Before w o → (n : ℕ) → after1 n w ≡ n
plain-before minus_before n = refl
plain-before not_before n = refl
plain-before flip_before n = refl

pub over_++ : (n : ℕ) {m : ℕ} (s t : List Name) → level n s ≡ n → level n t ≡ m → level n (s ++ t) ≡ m
over_++ n s t p q = level_++ n s t ∙ (ap (λ i. level i t) p ∙ q)

pub shut : (n : ℕ) → (n + 1) - 1 ≡ n
shut n = omega arith

mutual
  pub even_e : {k : ℕ} {s : List Name} {e : Expr} → IsExpr k s e → (n : ℕ) → level n s ≡ n
  even_e (looser h x) n = even_e x n
  even_e (or_e {s} {t} x y) n = over_++ n s _ (even_e x n) (even_e y n)
  even_e (and_e {s} {t} x y) n = over_++ n s _ (even_e x n) (even_e y n)
  even_e (two_e {s} {t} {w = w} x o y) n = over_++ n s _ (even_e x n) (rw (plain-between o n, level) (even_e y n))
  even_e (one_e {s} {w = w} o x) n = rw (plain-before o n, level) (even_e x n)
  even_e (num_e {w} {n = k} h) n = plain-num w k h n
  even_e (var_e {x} h) n = plain-name x h n
  even_e (brackets_e {s} x) n = over_++ (n + 1) s _ (even_e x (n + 1)) (shut n)
  even_e (index_e {x} {s} h y) n = rw (plain-name x h n, level) (over_++ (n + 1) s _ (even_e y (n + 1)) (shut n))
  even_e (len_e {x} h) n = rw (plain-name x h (n + 1), level) (shut n)
  even_e (call_e {x} {s} h y) n = rw (plain-name x h n, level) (over_++ (n + 1) s _ (even_es y (n + 1)) (shut n))
  even_e (table_e {x} {s} {t} h y z) n = rw (plain-name x h n, level) (over_++ (n + 1) s _ (even_e y (n + 1)) (rw (shut n, level) (over_++ (n + 1) t _ (even_es z (n + 1)) (shut n))))
  even_e in_e n = shut n

  pub even_es : {s : List Name} {es : Exprs} → AreArgs s es → (n : ℕ) → level n s ≡ n
  even_es none_es n = refl
  even_es (one_es x) n = even_e x n
  even_es (more_es {s} x y) n = over_++ n s _ (even_e x n) (even_es y n)

mutual
  pub even_s : {s : List Name} {a : Stmt} → IsStmt s a → (n : ℕ) → level n s ≡ n
  even_s (set_s {x} {s} h y) n = rw (plain-name x h n, level) (over_++ n s _ (even_e y n) refl)
  even_s (store_s {x} {s} {t} h y z) n = rw (plain-name x h n, level) (over_++ (n + 1) s _ (even_e y (n + 1)) (rw (shut n, level) (over_++ n t _ (even_e z n) refl)))
  even_s (ex_s {s} x) n = over_++ n s _ (even_e x n) refl
  even_s (out_s {s} x) n = over_++ n s _ (even_e x n) refl
  even_s (if_s {s} {t} x y) n = over_++ n s _ (even_e x n) (over_++ (n + 1) t _ (even_b y (n + 1)) (shut n))
  even_s (ifelse_s {s} {t} {u} x y z) n = over_++ n s _ (even_e x n) (over_++ (n + 1) t _ (even_b y (n + 1)) (rw (shut n, level) (over_++ (n + 1) u _ (even_b z (n + 1)) (shut n))))
  even_s (while_s {s} {t} x y) n = over_++ n s _ (even_e x n) (over_++ (n + 1) t _ (even_b y (n + 1)) (shut n))
  even_s (return_s {s} x) n = over_++ n s _ (even_e x n) refl
  even_s break_s n = refl
  even_s continue_s n = refl

  pub even_b : {s : List Name} {b : Block} → IsBlock s b → (n : ℕ) → level n s ≡ n
  even_b end_s n = refl
  even_b (more_s {s} x y) n = over_++ n s _ (even_s x n) (even_b y n)

pub even_names : {s xs : List Name} → AreNames s xs → (n : ℕ) → level n s ≡ n
even_names (one_n {x} h) n = plain-name x h n
even_names (more_n {x} {s} h y) n = rw (plain-name x h n, level) (even_names y n)

pub even_nums : {s : List Name} {ns : List ℕ} → AreNumbers s ns → (n : ℕ) → level n s ≡ n
even_nums (one_v {w} {n = k} h) n = plain-num w k h n
even_nums (more_v {w} {n = k} {s} h y) n = rw (plain-num w k h n, level) (even_nums y n)

even_par : {s : List Name} {q : Param} → IsParam s q → (n : ℕ) → level n s ≡ n
even_par (word_p {x} h) n = plain-name x h n
even_par (wide_p {x} h) n = rw (plain-name x h n, level) (shut n)
even_par (byte_p {x} h) n = rw (plain-name x h n, level) (shut n)

pub even_pars : {s : List Name} {qs : List Param} → AreParams s qs → (n : ℕ) → level n s ≡ n
even_pars none_ps n = refl
even_pars (one_ps x) n = even_par x n
even_pars (more_ps {s} x y) n = over_++ n s _ (even_par x n) (even_pars y n)

pub even_vars : {s xs : List Name} → AreVars s xs → (n : ℕ) → level n s ≡ n
even_vars no_vars n = refl
even_vars (some_vars {s} x) n = over_++ n s _ (even_names x n) refl

in_brackets : (w : Name) (k : ℕ) (t : List Name) (n : ℕ) → IsNumber w k → level n t ≡ n → level n (t_lb ∷ w ∷ t_rb ∷ t_semi ∷ t) ≡ n
in_brackets w k t n h e = rw (plain-num w k h (n + 1), level) (rw (shut n, level) e)

pub even_arrs : {s : List Name} {as₁ : List Arr} → AreArrays s as₁ → (n : ℕ) → level n s ≡ n
even_arrs no_arrs n = refl
even_arrs (wide_a {x} {w} {n = m} {s} h k y) n = rw (plain-name x h n, level) (in_brackets w m s n k (even_arrs y n))
even_arrs (byte_a {x} {w} {n = m} {s} h k y) n = rw (plain-name x h n, level) (in_brackets w m s n k (even_arrs y n))

pub even_i : {s : List Name} {i : Item} → IsItem s i → (n : ℕ) → level n s ≡ n
even_i (word_i {x} h) n = rw (plain-name x h n, level) refl
even_i (wide_i {x} {w} {n = m} h k) n = rw (plain-name x h n, level) (in_brackets w m [] n k refl)
even_i (byte_i {x} {w} {n = m} h k) n = rw (plain-name x h n, level) (in_brackets w m [] n k refl)
even_i (data_i {x} {s} h y) n = rw (plain-name x h n, level) (over_++ n s _ (even_nums y n) refl)
even_i (text_i {x} h) n = rw (plain-name x h n, level) refl
even_i (table_i {x} {s} h y) n = rw (plain-name x h n, level) (over_++ n s _ (even_names y n) refl)
even_i (use_i {x} {s} h y) n = rw (plain-name x h n, level) (over_++ n s _ (even_names y n) refl)
even_i (fn_i {x} {s} {t} {u} {v} h a b c d) n =
    rw (plain-name x h n, level) (over_++ (n + 1) s _ (even_pars a (n + 1)) (rw (shut n, level)
    (over_++ (n + 1) t _ (even_vars b (n + 1)) (over_++ (n + 1) u _ (even_arrs c (n + 1)) (over_++ (n + 1) v _ (even_b d (n + 1)) (shut n))))))

pub even_is : {s : List Name} {is : List Item} → AreItems s is → (n : ℕ) → level n s ≡ n
even_is no_items n = refl
even_is (more_items {s} x y) n = over_++ n s _ (even_i x n) (even_is y n)
