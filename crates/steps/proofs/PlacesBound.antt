-- A text's brackets bound how many places its functions need.
use Rattle.std.proofs.Common.{◌≡◌, ℕ, suc, ◌+◌, ◌-◌, ◌*◌, ◌≤◌, max, Bool, true, false, ◌&&◌, T, eqb, leb, List, [], ◌∷◌, ◌++◌, length, sym, refl, ap, ◌∙◌, subst, append_assoc, arith, leb→le, eqb-true}
use mathlib.Core.Bool.{false≢true}
use mathlib.Core.Option.{Option, some, none}
use Rattle.language.specs.Syntax.{pick, opt, Name, Expr, num, var, bin, un, and1, or1, idx, len, call, by_table, input, Exprs, no, and_then, Stmt, set1, store1, ex1, out1, if1, while1, ret1, break1, next1, Block, end, seq1, Kind, k_word, k_arr, Param, Arr, Fn, Item, i_word, i_arr, i_data, i_table, i_fn, i_use, Prog}
use Rattle.grammar.specs.Text.{word_byte, word_bytes, decimal, is_name, IsNumber, Between, Before, AreNames, one_n, more_n, AreNumbers, one_v, more_v, IsExpr, looser, or_e, and_e, two_e, one_e, num_e, var_e, brackets_e, index_e, len_e, call_e, table_e, in_e, AreArgs, none_es, one_es, more_es, IsStmt, set_s, store_s, ex_s, out_s, if_s, ifelse_s, while_s, return_s, break_s, continue_s, IsBlock, end_s, more_s, IsParam, word_p, wide_p, byte_p, AreParams, none_ps, one_ps, more_ps, AreVars, no_vars, some_vars, AreArrays, no_arrs, wide_a, byte_a, IsItem, word_i, wide_i, byte_i, data_i, text_i, table_i, use_i, fn_i, AreItems, no_items, more_items, AreFiles, no_files, more_files, pieces, gap, opens, shuts, flat, t_lp, t_rp, t_lb, t_rb, t_lc, t_rc, t_comma, t_semi, t_gets, t_colon, k_else}
use Rattle.steps.specs.Steps.{Opnd}
use Rattle.steps.specs.Generate.{Scope, arr_arg, need_e, need_es, need_s, need_b, slots_of, scope, sorted, gen_fn}
use Rattle.language.specs.Meaning.{Top, tops, words_in, arrays_in, all_tops, resolve, as_fn, as_table, on_some}
use Rattle.language.specs.Checks.{kind_of, any_arr, names_arr, fits_arg, fn_named, is_local, params_of, head_fn, params_of_table, ok_e, ok_es, ok_s, ok_b, ok_fn, ok_item, ok_is, ok_fs, once, names_in, file_names, has_main, totals, ok}
use Rattle.steps.specs.Fits.{Each, MidRoom}
use Rattle.steps.proofs.FitsHold.{slot_count}
use Rattle.steps.proofs.Checked.{and-true, AllT, no_top, and_top, all_append, all-resolve, Good, fn-ok, body_ok, goods, opt_true, some_then, not_local}
use Rattle.steps.proofs.Variables.{none-some, some_inj}

t_true : (b : Bool) → T b → b ≡ true
t_true true h = refl
t_true false h = absurd h

-- a piece that is no bracket
abbrev pub Plain : Name → Type 0
Plain w = (opens w ≡ false) × (shuts w ≡ false)

not_eq : (f : ℕ → Bool) (c k : ℕ) → f c ≡ true → f k ≡ false → eqb c k ≡ false
not_eq f c k h g = go (eqb c k) refl
  where
    go : (b : Bool) → eqb c k ≡ b → eqb c k ≡ false
    go true e = absurd (false≢true (sym g ∙ (ap f (sym (eqb-true c k e)) ∙ h)))
    go false e = e

plain-head : (f : ℕ → Bool) (c : ℕ) (cs : Name) → f c ≡ true → (f 40 ≡ false) × (f 41 ≡ false) × (f 91 ≡ false) × (f 93 ≡ false) × (f 123 ≡ false) × (f 125 ≡ false) → Plain (c ∷ cs)
plain-head f c cs h z = (rw (not_eq f c 40 h z.0, not_eq f c 91 h z.2, not_eq f c 123 h z.4), rw (not_eq f c 41 h z.1, not_eq f c 93 h z.3, not_eq f c 125 h z.5))

pub name-plain : (x : Name) → T (is_name x) → Plain x
name-plain [] h = absurd h
name-plain (c ∷ cs) h = let a = and-true (leb 1 (length (c ∷ cs))) _ (t_true _ h) in let b = and-true (leb (length (c ∷ cs)) 32) _ a.1 in let d = and-true (word_bytes (c ∷ cs)) _ b.1 in let e = and-true (word_byte c) (word_bytes cs) d.0 in plain-head word_byte c cs e.0 (refl, refl, refl, refl, refl, refl)

pub number-plain : (w : Name) (n : ℕ) → IsNumber w n → Plain w
number-plain [] n h = absurd h.0
number-plain (c ∷ cs) n h = go (leb 48 c && leb c 57) refl h.1
  where
    go : (b : Bool) → (leb 48 c && leb c 57) ≡ b → pick b (decimal (0 * 10 + (c - 48)) cs) none ≡ some n → Plain (c ∷ cs)
    go true e d = plain-head (λ c. leb 48 c && leb c 57) c cs e (refl, refl, refl, refl, refl, refl)
    go false e d = absurd (none-some d)

pub flat_on : (n : ℕ) (w : Name) (ws : List Name) → Plain w → flat n (w ∷ ws) ≡ true → flat n ws ≡ true
flat_on n w ws p h = rw (p.0, p.1) at (and-true (leb n 40) _ h).1

pub flat-split : (n : ℕ) (s t rest : List Name) → flat n ((s ++ t) ++ rest) ≡ true → flat n (s ++ (t ++ rest)) ≡ true
flat-split n s t rest h = subst (λ l. flat n l ≡ true) (append_assoc s t rest) h

-- behind what stands in brackets
pub flat_shut : (n : ℕ) (ws : List Name) → (leb (n + 1) 40 && flat ((n + 1) - 1) ws) ≡ true → (n + 1 ≤ 40) × (flat n ws ≡ true)
flat_shut n ws h = let a = and-true (leb (n + 1) 40) (flat ((n + 1) - 1) ws) h in let z : (n + 1) - 1 ≡ n = omega arith in (leb→le (n + 1) 40 (subst T (sym a.0) tt), rw z at a.1)

between : (n : ℕ) (w : Name) (o : ℕ) → Between n w o → Plain w × (n ≤ 7)
between n w o Between.plus = ((refl, refl), omega arith)
between n w o Between.minus = ((refl, refl), omega arith)
between n w o Between.times = ((refl, refl), omega arith)
between n w o Between.over = ((refl, refl), omega arith)
between n w o Between.rest = ((refl, refl), omega arith)
between n w o Between.is = ((refl, refl), omega arith)
between n w o Between.isnt = ((refl, refl), omega arith)
between n w o Between.less = ((refl, refl), omega arith)
between n w o Between.most = ((refl, refl), omega arith)
between n w o Between.more = ((refl, refl), omega arith)
between n w o Between.least = ((refl, refl), omega arith)
between n w o Between.both = ((refl, refl), omega arith)
between n w o Between.any = ((refl, refl), omega arith)
between n w o Between.exclusive = ((refl, refl), omega arith)
between n w o Between.left = ((refl, refl), omega arith)
between n w o Between.right = ((refl, refl), omega arith)

before : (w : Name) (o : ℕ) → Before w o → Plain w
before w o Before.minus_before = (refl, refl)
before w o Before.not_before = (refl, refl)
before w o Before.flip_before = (refl, refl)

-- at most 8 arguments
abbrev pub size : Exprs → ℕ
size no = 0
size (and_then e es) = suc (size es)

abbrev mutual
  pub FewE : Expr → Type 0
  FewE (num n) = Unit {0}
  FewE (var x) = Unit {0}
  FewE (bin o a b) = FewE a × FewE b
  FewE (un o a) = FewE a
  FewE (and1 a b) = FewE a × FewE b
  FewE (or1 a b) = FewE a × FewE b
  FewE (idx x e) = FewE e
  FewE (len x) = Unit {0}
  FewE (call x es) = (size es ≤ 8) × FewEs es
  FewE (by_table x e es) = FewE e × (size es ≤ 8) × FewEs es
  FewE input = Unit {0}

  pub FewEs : Exprs → Type 0
  FewEs no = Unit {0}
  FewEs (and_then e es) = FewE e × FewEs es

abbrev mutual
  pub FewS : Stmt → Type 0
  FewS (set1 x e) = FewE e
  FewS (store1 x i e) = FewE i × FewE e
  FewS (ex1 e) = FewE e
  FewS (out1 e) = FewE e
  FewS (if1 e b c) = FewE e × FewB b × FewB c
  FewS (while1 e b) = FewE e × FewB b
  FewS (ret1 e) = FewE e
  FewS break1 = Unit {0}
  FewS next1 = Unit {0}

  pub FewB : Block → Type 0
  FewB end = Unit {0}
  FewB (seq1 s b) = FewS s × FewB b

arg_need : (Γ : Scope) (e : Expr) (es : Exprs) → need_es Γ (and_then e es) ≤ max (need_e Γ e) (suc (need_es Γ es))
arg_need Γ e es = go (arr_arg Γ e)
  where
    go : (o : Option Opnd) → opt o (max (need_e Γ e) (suc (need_es Γ es))) (λ z. need_es Γ es) ≤ max (need_e Γ e) (suc (need_es Γ es))
    go none = omega arith
    go (some z) = omega arith

module _ (Γ : Scope) where
  -- with n brackets open
  mutual
    ex_room : {k : ℕ} {s : List Name} {e : Expr} → IsExpr k s e → FewE e → (n : ℕ) (rest : List Name) → flat n (s ++ rest) ≡ true → (need_e Γ e ≤ (10 - k) + (40 - n) * 18) × (flat n rest ≡ true)
    ex_room (looser {n = k} l x) f n rest h = let a = ex_room x f n rest h in (omega (arith, a.0), a.1)
    ex_room (or_e {s = s} {t = t} x y) f n rest h = let a = ex_room x f.0 n _ (flat-split n s _ rest h) in let b = ex_room y f.1 n rest (and-true (leb n 40) _ a.1).1 in (omega (arith, a.0, b.0), b.1)
    ex_room (and_e {s = s} {t = t} x y) f n rest h = let a = ex_room x f.0 n _ (flat-split n s _ rest h) in let b = ex_room y f.1 n rest (and-true (leb n 40) _ a.1).1 in (omega (arith, a.0, b.0), b.1)
    ex_room (two_e {s = s} {t = t} {w = w} {n = k} {o = o} x q y) f n rest h = let a = ex_room x f.0 n _ (flat-split n s _ rest h) in let p = between k w o q in let b = ex_room y f.1 n rest (flat_on n w (t ++ rest) p.0 a.1) in (omega (arith, a.0, b.0, p.1), b.1)
    ex_room (one_e {s = s} {w = w} {o = o} q x) f n rest h = ex_room x f n rest (flat_on n w (s ++ rest) (before w o q) h)
    ex_room (num_e {w = w} {n = i} q) f n rest h = (omega arith, flat_on n w rest (number-plain w i q) h)
    ex_room (var_e {x = x} q) f n rest h = (omega arith, flat_on n x rest (name-plain x q) h)
    ex_room (brackets_e {s = s} x) f n rest h = let a = ex_room x f (n + 1) (t_rp ∷ rest) (flat-split (n + 1) s (t_rp ∷ []) rest (and-true (leb n 40) _ h).1) in let b = flat_shut n rest a.1 in (omega (arith, a.0, b.0), b.1)
    ex_room (index_e {x = y} {s = s} q x) f n rest h = let a = ex_room x f (n + 1) (t_rb ∷ rest) (flat-split (n + 1) s (t_rb ∷ []) rest (and-true (leb n 40) _ (flat_on n y (t_lb ∷ ((s ++ (t_rb ∷ [])) ++ rest)) (name-plain y q) h)).1) in let b = flat_shut n rest a.1 in (omega (arith, a.0, b.0), b.1)
    ex_room (len_e {x = x} q) f n rest h = let a : flat n (t_lp ∷ x ∷ t_rp ∷ rest) ≡ true = (and-true (leb n 40) _ h).1 in let b = flat_on (n + 1) x (t_rp ∷ rest) (name-plain x q) (and-true (leb n 40) _ a).1 in (omega arith, (flat_shut n rest b).1)
    ex_room (call_e {x = x} {s = s} {es = es} q y) f n rest h = let a = exs_room y f.1 (n + 1) (t_rp ∷ rest) (flat-split (n + 1) s (t_rp ∷ []) rest (and-true (leb n 40) _ (flat_on n x (t_lp ∷ ((s ++ (t_rp ∷ [])) ++ rest)) (name-plain x q) h)).1) in let b = flat_shut n rest a.1 in (omega (arith, a.0, b.0, f.0), b.1)
    ex_room (table_e {x = x} {s = s} {t = t} {e = e} {es = es} q y z) f n rest h =
        let u : List Name = t_rb ∷ t_lp ∷ (t ++ (t_rp ∷ [])) in
        let h1 : flat n (x ∷ t_lb ∷ ((s ++ u) ++ rest)) ≡ true = (and-true (leb n 40) _ h).1 in
        let a = ex_room y f.0 (n + 1) (u ++ rest) (flat-split (n + 1) s u rest (and-true (leb n 40) _ (flat_on n x (t_lb ∷ ((s ++ u) ++ rest)) (name-plain x q) h1)).1) in
        let b = flat_shut n (t_lp ∷ ((t ++ (t_rp ∷ [])) ++ rest)) a.1 in
        let d = exs_room z f.2 (n + 1) (t_rp ∷ rest) (flat-split (n + 1) t (t_rp ∷ []) rest (and-true (leb n 40) _ b.1).1) in
        let g = flat_shut n rest d.1 in (omega (arith, a.0, d.0, g.0, f.1), g.1)
    ex_room in_e f n rest h = let b : flat n (t_lp ∷ t_rp ∷ rest) ≡ true = (and-true (leb n 40) _ h).1 in let a = (and-true (leb n 40) _ b).1 in (omega arith, (flat_shut n rest a).1)

    exs_room : {s : List Name} {es : Exprs} → AreArgs s es → FewEs es → (n : ℕ) (rest : List Name) → flat n (s ++ rest) ≡ true → (need_es Γ es ≤ (size es + 9) + (40 - n) * 18) × (flat n rest ≡ true)
    exs_room none_es f n rest h = (omega arith, h)
    exs_room (one_es {e = e} x) f n rest h = let a = ex_room x f.0 n rest h in (omega (arith, a.0, arg_need Γ e no), a.1)
    exs_room (more_es {s = s} {t = t} {e = e} {f = e1} {es = es} x y) f n rest h = let a = ex_room x f.0 n _ (flat-split n s _ rest h) in let b = exs_room y f.1 n rest (and-true (leb n 40) _ a.1).1 in (omega (arith, a.0, b.0, arg_need Γ e (and_then e1 es)), b.1)

  mutual
    st_room : {s : List Name} {a : Stmt} → IsStmt s a → FewS a → (n : ℕ) (rest : List Name) → flat n (s ++ rest) ≡ true → (need_s Γ a ≤ 11 + (40 - n) * 18) × (flat n rest ≡ true)
    st_room (set_s {x = x} {s = s} q e) f n rest h = let a = ex_room e f n (t_semi ∷ rest) (flat-split n s (t_semi ∷ []) rest (and-true (leb n 40) _ (flat_on n x (t_gets ∷ ((s ++ (t_semi ∷ [])) ++ rest)) (name-plain x q) h)).1) in (omega (arith, a.0), (and-true (leb n 40) _ a.1).1)
    st_room (store_s {x = x} {s = s} {t = t} q i e) f n rest h =
        let u : List Name = t_rb ∷ t_gets ∷ (t ++ (t_semi ∷ [])) in
        let a = ex_room i f.0 (n + 1) (u ++ rest) (flat-split (n + 1) s u rest (and-true (leb n 40) _ (flat_on n x (t_lb ∷ ((s ++ u) ++ rest)) (name-plain x q) h)).1) in
        let b = flat_shut n (t_gets ∷ ((t ++ (t_semi ∷ [])) ++ rest)) a.1 in
        let d = ex_room e f.1 n (t_semi ∷ rest) (flat-split n t (t_semi ∷ []) rest (and-true (leb n 40) _ b.1).1) in
        (omega (arith, a.0, d.0), (and-true (leb n 40) _ d.1).1)
    st_room (ex_s {s = s} e) f n rest h = let a = ex_room e f n (t_semi ∷ rest) (flat-split n s (t_semi ∷ []) rest h) in (omega (arith, a.0), (and-true (leb n 40) _ a.1).1)
    st_room (out_s {s = s} e) f n rest h = let a = ex_room e f n (t_semi ∷ rest) (flat-split n s (t_semi ∷ []) rest (and-true (leb n 40) _ h).1) in (omega (arith, a.0), (and-true (leb n 40) _ a.1).1)
    st_room (if_s {s = s} {t = t} e b) f n rest h =
        let u : List Name = t_lc ∷ (t ++ (t_rc ∷ [])) in
        let a = ex_room e f.0 n (u ++ rest) (flat-split n s u rest (and-true (leb n 40) _ h).1) in
        let d = sts_room b f.1 (n + 1) (t_rc ∷ rest) (flat-split (n + 1) t (t_rc ∷ []) rest (and-true (leb n 40) _ a.1).1) in
        (omega (arith, a.0, d.0), (flat_shut n rest d.1).1)
    st_room (ifelse_s {s = s} {t = t} {u = v} e b c) f n rest h =
        let w : List Name = t_rc ∷ k_else ∷ t_lc ∷ (v ++ (t_rc ∷ [])) in
        let u : List Name = t_lc ∷ (t ++ w) in
        let a = ex_room e f.0 n (u ++ rest) (flat-split n s u rest (and-true (leb n 40) _ h).1) in
        let d = sts_room b f.1 (n + 1) (w ++ rest) (flat-split (n + 1) t w rest (and-true (leb n 40) _ a.1).1) in
        let g : flat n (k_else ∷ t_lc ∷ ((v ++ (t_rc ∷ [])) ++ rest)) ≡ true = (flat_shut n (k_else ∷ t_lc ∷ ((v ++ (t_rc ∷ [])) ++ rest)) d.1).1 in
        let g1 : flat n (t_lc ∷ ((v ++ (t_rc ∷ [])) ++ rest)) ≡ true = (and-true (leb n 40) _ g).1 in
        let k = sts_room c f.2 (n + 1) (t_rc ∷ rest) (flat-split (n + 1) v (t_rc ∷ []) rest (and-true (leb n 40) _ g1).1) in
        (omega (arith, a.0, d.0, k.0), (flat_shut n rest k.1).1)
    st_room (while_s {s = s} {t = t} e b) f n rest h =
        let u : List Name = t_lc ∷ (t ++ (t_rc ∷ [])) in
        let a = ex_room e f.0 n (u ++ rest) (flat-split n s u rest (and-true (leb n 40) _ h).1) in
        let d = sts_room b f.1 (n + 1) (t_rc ∷ rest) (flat-split (n + 1) t (t_rc ∷ []) rest (and-true (leb n 40) _ a.1).1) in
        (omega (arith, a.0, d.0), (flat_shut n rest d.1).1)
    st_room (return_s {s = s} e) f n rest h = let a = ex_room e f n (t_semi ∷ rest) (flat-split n s (t_semi ∷ []) rest (and-true (leb n 40) _ h).1) in (omega (arith, a.0), (and-true (leb n 40) _ a.1).1)
    st_room break_s f n rest h = let a : flat n (t_semi ∷ rest) ≡ true = (and-true (leb n 40) _ h).1 in (omega arith, (and-true (leb n 40) _ a).1)
    st_room continue_s f n rest h = let a : flat n (t_semi ∷ rest) ≡ true = (and-true (leb n 40) _ h).1 in (omega arith, (and-true (leb n 40) _ a).1)

    sts_room : {s : List Name} {b : Block} → IsBlock s b → FewB b → (n : ℕ) (rest : List Name) → flat n (s ++ rest) ≡ true → (need_b Γ b ≤ 11 + (40 - n) * 18) × (flat n rest ≡ true)
    sts_room end_s f n rest h = (omega arith, h)
    sts_room (more_s {s = s} {t = t} a b) f n rest h = let x = st_room a f.0 n (t ++ rest) (flat-split n s t rest h) in let y = sts_room b f.1 n rest x.1 in (omega (arith, x.0, y.0), y.1)

-- what else stands in a file
names-flat : {s xs : List Name} → AreNames s xs → (n : ℕ) (rest : List Name) → flat n (s ++ rest) ≡ true → flat n rest ≡ true
names-flat (one_n {x = x} q) n rest h = flat_on n x rest (name-plain x q) h
names-flat (more_n {x = x} {s = s} q r) n rest h = names-flat r n rest (and-true (leb n 40) _ (flat_on n x (t_comma ∷ (s ++ rest)) (name-plain x q) h)).1

nums-flat : {s : List Name} {ns : List ℕ} → AreNumbers s ns → (n : ℕ) (rest : List Name) → flat n (s ++ rest) ≡ true → flat n rest ≡ true
nums-flat (one_v {w = w} {n = i} q) n rest h = flat_on n w rest (number-plain w i q) h
nums-flat (more_v {w = w} {n = i} {s = s} q r) n rest h = nums-flat r n rest (and-true (leb n 40) _ (flat_on n w (t_comma ∷ (s ++ rest)) (number-plain w i q) h)).1

par-flat : {s : List Name} {q : Param} → IsParam s q → (n : ℕ) (rest : List Name) → flat n (s ++ rest) ≡ true → flat n rest ≡ true
par-flat (word_p {x = x} q) n rest h = flat_on n x rest (name-plain x q) h
par-flat (wide_p {x = x} q) n rest h = (flat_shut n rest (and-true (leb n 40) _ (flat_on n x (t_lb ∷ t_rb ∷ rest) (name-plain x q) h)).1).1
par-flat (byte_p {x = x} q) n rest h = let a : flat (n + 1) (t_colon ∷ t_rb ∷ rest) ≡ true = (and-true (leb n 40) _ (flat_on n x (t_lb ∷ t_colon ∷ t_rb ∷ rest) (name-plain x q) h)).1 in (flat_shut n rest (and-true (leb (n + 1) 40) _ a).1).1

pars-flat : {s : List Name} {qs : List Param} → AreParams s qs → (n : ℕ) (rest : List Name) → flat n (s ++ rest) ≡ true → flat n rest ≡ true
pars-flat none_ps n rest h = h
pars-flat (one_ps q) n rest h = par-flat q n rest h
pars-flat (more_ps {s = s} {t = t} q r) n rest h = pars-flat r n rest (and-true (leb n 40) _ (par-flat q n (t_comma ∷ (t ++ rest)) (flat-split n s (t_comma ∷ t) rest h))).1

vars-flat : {s xs : List Name} → AreVars s xs → (n : ℕ) (rest : List Name) → flat n (s ++ rest) ≡ true → flat n rest ≡ true
vars-flat no_vars n rest h = h
vars-flat (some_vars {s = s} q) n rest h = (and-true (leb n 40) _ (names-flat q n (t_semi ∷ rest) (flat-split n s (t_semi ∷ []) rest (and-true (leb n 40) _ h).1))).1

sized : (x w : Name) (i n : ℕ) (rest : List Name) → T (is_name x) → IsNumber w i → flat n (x ∷ t_lb ∷ w ∷ t_rb ∷ t_semi ∷ rest) ≡ true → flat n rest ≡ true
sized x w i n rest q r h = let a : flat n (t_lb ∷ w ∷ t_rb ∷ t_semi ∷ rest) ≡ true = flat_on n x (t_lb ∷ w ∷ t_rb ∷ t_semi ∷ rest) (name-plain x q) h in let b = flat_on (n + 1) w (t_rb ∷ t_semi ∷ rest) (number-plain w i r) (and-true (leb n 40) _ a).1 in (and-true (leb n 40) _ (flat_shut n (t_semi ∷ rest) b).1).1

arrs-flat : {s : List Name} {as₁ : List Arr} → AreArrays s as₁ → (n : ℕ) (rest : List Name) → flat n (s ++ rest) ≡ true → flat n rest ≡ true
arrs-flat no_arrs n rest h = h
arrs-flat (wide_a {x = x} {w = w} {n = i} {s = s} q r k) n rest h = arrs-flat k n rest (sized x w i n (s ++ rest) q r (and-true (leb n 40) _ h).1)
arrs-flat (byte_a {x = x} {w = w} {n = i} {s = s} q r k) n rest h = arrs-flat k n rest (sized x w i n (s ++ rest) q r (and-true (leb n 40) _ h).1)

abbrev FewI : Item → Type 0
FewI (i_word x) = Unit {0}
FewI (i_arr a) = Unit {0}
FewI (i_data d x ns) = Unit {0}
FewI (i_table x fs) = Unit {0}
FewI (i_fn g) = FewB g.body
FewI (i_use x ys) = Unit {0}

abbrev RoomI : Item → Type 0
RoomI (i_word x) = Unit {0}
RoomI (i_arr a) = Unit {0}
RoomI (i_data d x ns) = Unit {0}
RoomI (i_table x fs) = Unit {0}
RoomI (i_fn g) = (Γ : Scope) → need_b Γ g.body ≤ 731
RoomI (i_use x ys) = Unit {0}

it_room : {s : List Name} {i : Item} → IsItem s i → FewI i → (n : ℕ) (rest : List Name) → flat n (s ++ rest) ≡ true → RoomI i × (flat n rest ≡ true)
it_room (word_i {x = x} q) f n rest h = let a : flat n (x ∷ t_semi ∷ rest) ≡ true = (and-true (leb n 40) _ h).1 in (tt, (and-true (leb n 40) _ (flat_on n x (t_semi ∷ rest) (name-plain x q) a)).1)
it_room (wide_i {x = x} {w = w} {n = i} q r) f n rest h = (tt, sized x w i n rest q r (and-true (leb n 40) _ h).1)
it_room (byte_i {x = x} {w = w} {n = i} q r) f n rest h = (tt, sized x w i n rest q r (and-true (leb n 40) _ h).1)
it_room (data_i {x = x} {s = s} q r) f n rest h = let a : flat n (x ∷ t_gets ∷ ((s ++ (t_semi ∷ [])) ++ rest)) ≡ true = (and-true (leb n 40) _ h).1 in (tt, (and-true (leb n 40) _ (nums-flat r n (t_semi ∷ rest) (flat-split n s (t_semi ∷ []) rest (and-true (leb n 40) _ (flat_on n x (t_gets ∷ ((s ++ (t_semi ∷ [])) ++ rest)) (name-plain x q) a)).1))).1)
it_room (text_i {x = x} {ns = ns} q) f n rest h = let a : flat n (x ∷ t_gets ∷ (34 ∷ ns) ∷ t_semi ∷ rest) ≡ true = (and-true (leb n 40) _ h).1 in let b : flat n ((34 ∷ ns) ∷ t_semi ∷ rest) ≡ true = (and-true (leb n 40) _ (flat_on n x (t_gets ∷ (34 ∷ ns) ∷ t_semi ∷ rest) (name-plain x q) a)).1 in (tt, (and-true (leb n 40) _ (flat_on n (34 ∷ ns) (t_semi ∷ rest) (refl, refl) b)).1)
it_room (table_i {x = x} {s = s} q r) f n rest h = let a : flat n (x ∷ t_gets ∷ ((s ++ (t_semi ∷ [])) ++ rest)) ≡ true = (and-true (leb n 40) _ h).1 in (tt, (and-true (leb n 40) _ (names-flat r n (t_semi ∷ rest) (flat-split n s (t_semi ∷ []) rest (and-true (leb n 40) _ (flat_on n x (t_gets ∷ ((s ++ (t_semi ∷ [])) ++ rest)) (name-plain x q) a)).1))).1)
it_room (use_i {x = x} {s = s} q r) f n rest h = let a : flat n (x ∷ t_colon ∷ ((s ++ (t_semi ∷ [])) ++ rest)) ≡ true = (and-true (leb n 40) _ h).1 in (tt, (and-true (leb n 40) _ (names-flat r n (t_semi ∷ rest) (flat-split n s (t_semi ∷ []) rest (and-true (leb n 40) _ (flat_on n x (t_colon ∷ ((s ++ (t_semi ∷ [])) ++ rest)) (name-plain x q) a)).1))).1)
it_room (fn_i {x = x} {s = s} {t = t} {u = u} {v = v} q ps vs as₁ b) f n rest h =
    let w1 : List Name = v ++ (t_rc ∷ []) in let w2 : List Name = u ++ w1 in let w3 : List Name = t ++ w2 in let w4 : List Name = t_rp ∷ t_lc ∷ w3 in
    let a : flat n (x ∷ t_lp ∷ ((s ++ w4) ++ rest)) ≡ true = (and-true (leb n 40) _ h).1 in
    let a1 : flat n (t_lp ∷ ((s ++ w4) ++ rest)) ≡ true = flat_on n x (t_lp ∷ ((s ++ w4) ++ rest)) (name-plain x q) a in
    let a2 : flat (n + 1) (w4 ++ rest) ≡ true = pars-flat ps (n + 1) (w4 ++ rest) (flat-split (n + 1) s w4 rest (and-true (leb n 40) _ a1).1) in
    let a3 : flat n (t_lc ∷ (w3 ++ rest)) ≡ true = (flat_shut n (t_lc ∷ (w3 ++ rest)) a2).1 in
    let a4 = vars-flat vs (n + 1) (w2 ++ rest) (flat-split (n + 1) t w2 rest (and-true (leb n 40) _ a3).1) in
    let a5 = arrs-flat as₁ (n + 1) (w1 ++ rest) (flat-split (n + 1) u w1 rest a4) in
    let a6 = flat-split (n + 1) v (t_rc ∷ []) rest a5 in
    ((λ Γ. omega (arith, (sts_room Γ b f (n + 1) (t_rc ∷ rest) a6).0)), (flat_shut n rest (sts_room (scope [] [] []) b f (n + 1) (t_rc ∷ rest) a6).1).1)

its-room : {s : List Name} {is : List Item} → AreItems s is → Each FewI is → (n : ℕ) (rest : List Name) → flat n (s ++ rest) ≡ true → Each RoomI is × (flat n rest ≡ true)
its-room no_items f n rest h = (tt, h)
its-room (more_items {s = s} {t = t} i r) f n rest h = let a = it_room i f.0 n (t ++ rest) (flat-split n s t rest h) in let b = its-room r f.1 n rest a.1 in ((a.0, b.0), b.1)

files-room : {s : List Name} {p : Prog} → AreFiles s p → Each (λ f. Each FewI f.items) p → flat 0 s ≡ true → Each (λ f. Each RoomI f.items) p
files-room no_files f h = tt
files-room (more_files {x = x} {s = s} {t = t} q i r) f h = let a : flat 0 (x ∷ t_semi ∷ (s ++ t)) ≡ true = (and-true (leb 0 40) _ h).1 in let b = its-room i f.0 0 t (and-true (leb 0 40) _ (flat_on 0 x (t_semi ∷ (s ++ t)) (name-plain x q) a)).1 in (b.0, files-room r f.1 b.1)

-- at most 8 arguments, by the checks
module _ (p : Prog) (gs : AllT (Good p) (all_tops p 0 0)) where
  few_fn : (f x : Name) (h : Fn) → fn_named p f x ≡ some h → length h.params ≤ 8
  few_fn f x h e = let r = some_then (resolve p f x) as_fn e in let o = fn-ok p r.0 h r.0.is refl (all-resolve p f x r.0 gs r.1) r.2 in leb→le (length h.params) 8 (subst T (sym (and-true (leb (length h.params) 8) _ o).0) tt)

  few_head : (f : Name) (fs : List Name) (qs : List Param) → head_fn p f fs ≡ some qs → length qs ≤ 8
  few_head f [] qs e = absurd (none-some e)
  few_head f (x ∷ xs) qs e = let r = some_then (fn_named p f x) (λ h. some h.params) e in rw (← some_inj r.2) (few_fn f x r.0 r.1)

  module _ (f : Name) (g : Fn) where
    few_params : (x : Name) (qs : List Param) → params_of p f g x ≡ some qs → length qs ≤ 8
    few_params x qs e = let r = some_then (fn_named p f x) (λ h. some h.params) (not_local (is_local g x) _ e) in rw (← some_inj r.2) (few_fn f x r.0 r.1)

    few_table : (x : Name) (qs : List Param) → params_of_table p f g x ≡ some qs → length qs ≤ 8
    few_table x qs e = let r = some_then (resolve p f x) (λ t. on_some (as_table t) (λ fs. head_fn p t.file fs)) (not_local (is_local g x) _ e) in let q = some_then (as_table r.0) (λ fs. head_fn p r.0.file fs) r.2 in few_head r.0.file q.0 qs q.2

    few_arr : (e : Expr) (w : Bool) → names_arr p f g w e ≡ true → FewE e
    few_arr (var x) w h = tt
    few_arr (num n) w h = tt
    few_arr (bin o a b) w h = absurd (false≢true h)
    few_arr (un o a) w h = absurd (false≢true h)
    few_arr (and1 a b) w h = absurd (false≢true h)
    few_arr (or1 a b) w h = absurd (false≢true h)
    few_arr (idx x e) w h = absurd (false≢true h)
    few_arr (len x) w h = tt
    few_arr (call x es) w h = absurd (false≢true h)
    few_arr (by_table x e es) w h = absurd (false≢true h)
    few_arr input w h = tt

    few_arg : (e : Expr) (k : Kind) → fits_arg p f g e (ok_e p f g e) (some k) ≡ true → (ok_e p f g e ≡ true → FewE e) → FewE e
    few_arg e k_word o h = h o
    few_arg e (k_arr w) o h = few_arr e w o

    mutual
      few_e : (e : Expr) → ok_e p f g e ≡ true → FewE e
      few_e (num n) o = tt
      few_e (var x) o = tt
      few_e (bin k a b) o = let s = and-true _ _ o in (few_e a s.0, few_e b s.1)
      few_e (un k a) o = few_e a o
      few_e (and1 a b) o = let s = and-true _ _ o in (few_e a s.0, few_e b s.1)
      few_e (or1 a b) o = let s = and-true _ _ o in (few_e a s.0, few_e b s.1)
      few_e (idx x e) o = few_e e (and-true (any_arr (kind_of p f g x)) (ok_e p f g e) o).1
      few_e (len x) o = tt
      few_e (call x es) o = let q = opt_true (params_of p f g x) (λ qs. ok_es p f g qs es) o in let r = few_es es q.0 q.2 in (omega (arith, few_params x q.0 q.1, r.1), r.0)
      few_e (by_table x e es) o = let s = and-true (ok_e p f g e) (opt (params_of_table p f g x) false (λ qs. ok_es p f g qs es)) o in let q = opt_true (params_of_table p f g x) (λ qs. ok_es p f g qs es) s.1 in let r = few_es es q.0 q.2 in (few_e e s.0, omega (arith, few_table x q.0 q.1, r.1), r.0)
      few_e input o = tt

      few_es : (es : Exprs) (qs : List Param) → ok_es p f g qs es ≡ true → FewEs es × (size es ≡ length qs)
      few_es no [] o = (tt, refl)
      few_es no (q ∷ qs) o = absurd (false≢true o)
      few_es (and_then e es) [] o = absurd (false≢true o)
      few_es (and_then e es) (q ∷ qs) o = let s = and-true (fits_arg p f g e (ok_e p f g e) (some q.kind)) (ok_es p f g qs es) o in let r = few_es es qs s.1 in ((few_arg e q.kind s.0 (few_e e), r.0), ap suc r.1)

    mutual
      few_s : (a : Stmt) (l : Bool) → ok_s p f g l a ≡ true → FewS a
      few_s (set1 x e) l o = few_e e (and-true _ (ok_e p f g e) o).1
      few_s (store1 x i e) l o = let s = and-true (any_arr (kind_of p f g x)) (ok_e p f g i && ok_e p f g e) o in let r = and-true (ok_e p f g i) (ok_e p f g e) s.1 in (few_e i r.0, few_e e r.1)
      few_s (ex1 e) l o = few_e e o
      few_s (out1 e) l o = few_e e o
      few_s (if1 e a b) l o = let s = and-true _ _ o in let r = and-true _ _ s.1 in (few_e e s.0, few_b a l r.0, few_b b l r.1)
      few_s (while1 e b) l o = let s = and-true _ _ o in (few_e e s.0, few_b b true s.1)
      few_s (ret1 e) l o = few_e e o
      few_s break1 l o = tt
      few_s next1 l o = tt

      few_b : (b : Block) (l : Bool) → ok_b p f g l b ≡ true → FewB b
      few_b end l o = tt
      few_b (seq1 a b) l o = let s = and-true _ _ o in (few_s a l s.0, few_b b l s.1)

  few-items : (f : Name) (is : List Item) → ok_is p f is ≡ true → Each FewI is
  few-items f [] o = tt
  few-items f (i_word x ∷ is) o = (tt, few-items f is o)
  few-items f (i_arr r ∷ is) o = (tt, few-items f is (and-true (ok_item p f (i_arr r)) (ok_is p f is) o).1)
  few-items f (i_data d x ns ∷ is) o = (tt, few-items f is (and-true (ok_item p f (i_data d x ns)) (ok_is p f is) o).1)
  few-items f (i_table x fs ∷ is) o = (tt, few-items f is (and-true (ok_item p f (i_table x fs)) (ok_is p f is) o).1)
  few-items f (i_fn g ∷ is) o = let s = and-true (ok_fn p f g) (ok_is p f is) o in (few_b f g g.body false (body_ok p f g s.0), few-items f is s.1)
  few-items f (i_use x ys ∷ is) o = (tt, few-items f is (and-true (ok_item p f (i_use x ys)) (ok_is p f is) o).1)

  few_files : (fs : Prog) → ok_fs p fs ≡ true → Each (λ f. Each FewI f.items) fs
  few_files [] o = tt
  few_files (f ∷ fs) o = let s = and-true (once (names_in f.items)) (ok_is p f.name f.items && ok_fs p fs) o in let r = and-true (ok_is p f.name f.items) (ok_fs p fs) s.1 in (few-items f.name f.items r.0, few_files fs r.1)

abbrev RoomT : Top → Type 0
RoomT t = (g : Fn) → as_fn t ≡ some g → (Γ : Scope) → need_b Γ g.body ≤ 731

tops-room : (f : Name) (is : List Item) (w a : ℕ) → Each RoomI is → AllT RoomT (tops f is w a)
tops-room f [] w a h = no_top
tops-room f (i_word x ∷ is) w a h = and_top (λ g e. absurd (none-some e)) (tops-room f is (w + 1) a h.1)
tops-room f (i_arr r ∷ is) w a h = and_top (λ g e. absurd (none-some e)) (tops-room f is w (a + 1) h.1)
tops-room f (i_data d x ns ∷ is) w a h = and_top (λ g e. absurd (none-some e)) (tops-room f is w (a + 1) h.1)
tops-room f (i_table x fs ∷ is) w a h = and_top (λ g e. absurd (none-some e)) (tops-room f is w a h.1)
tops-room f (i_fn k ∷ is) w a h = and_top (λ g e Γ. subst (λ z. need_b Γ z.body ≤ 731) (some_inj e) (h.0 Γ)) (tops-room f is w a h.1)
tops-room f (i_use x ys ∷ is) w a h = tops-room f is w a h.1

all_room : (fs : Prog) (w a : ℕ) → Each (λ f. Each RoomI f.items) fs → AllT RoomT (all_tops fs w a)
all_room [] w a h = no_top
all_room (f ∷ fs) w a h = all_append _ _ (tops-room f.name f.items w a h.0) (all_room fs (w + words_in f.items) (a + length (arrays_in f.items)) h.1)

funs-room : (p : Prog) (ts : List Top) → AllT RoomT ts → Each (λ g. g.places ≤ (g.params + g.vars) + 731) (sorted as_fn (λ t g. gen_fn p t.file g) ts)
funs-room p [] a = tt
funs-room p (t ∷ ts) (and_top q a) = go (as_fn t) refl (funs-room p ts a)
  where
    go : (u : Option Fn) → as_fn t ≡ u → Each (λ g. g.places ≤ (g.params + g.vars) + 731) (sorted as_fn (λ t g. gen_fn p t.file g) ts) → Each (λ g. g.places ≤ (g.params + g.vars) + 731) (opt u (sorted as_fn (λ t g. gen_fn p t.file g) ts) (λ g. gen_fn p t.file g ∷ sorted as_fn (λ t g. gen_fn p t.file g) ts))
    go none e h = h
    go (some g) e h = let n = slot_count g.params g.vars g.arrs in let k = q g e (scope p t.file (slots_of g)) in (omega (arith, n.0, k), h)

pub room-holds : MidRoom
room-holds t p r =
    let o = t_true (ok p) r.sound in
    let a = and-true (once (file_names p)) _ o in let b = and-true (has_main p) _ a.1 in let d = and-true (leb (totals p) 262144) _ b.1 in
    let s = and-true (leb (length t) 32768) _ (t_true _ r.small) in let l = and-true (flat 0 (pieces gap t)) _ s.1 in
    (omega arith, funs-room p (all_tops p 0 0) (all_room p 0 0 (files-room r.said (few_files p (goods p o) p d.1) l.0)))
