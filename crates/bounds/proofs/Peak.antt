-- The nodes of a tree pile up as many values as the generator counts places for it.
use mathlib.Core.Path.{◌≡◌, refl, ap, ◌∙◌}
use mathlib.Core.Bool.{Bool, true, false}
use mathlib.Core.List.{List, [], ◌∷◌}
use mathlib.Core.Option.{Option, some, none}
use Prim.Native.Nat.{ℕ, suc, ◌+◌, ◌≤◌, max}
use native.Mathlib.Omega.{arith}
use Rattle.language.specs.Syntax.{opt, Name, Expr, num, var, bin, un, and1, or1, idx, len, call, by_table, input, Exprs, no, and_then, Stmt, set1, store1, ex1, out1, if1, while1, ret1, break1, next1, Block, end, seq1}
use Rattle.language.specs.Meaning.{on_some, as_word}
use Rattle.rows.specs.Nodes.{Node, n_bin, n_and, n_or, n_join, n_un, n_idx, n_call, n_by, n_set, n_store, n_ex, n_out, n_if, n_else, n_fi, n_while, n_again, n_ret, nodes_e, nodes_es, nodes_s, nodes_bs, nodes_b, count}
use Rattle.steps.specs.Steps.{Opnd}
use Rattle.steps.specs.Generate.{Scope, Ref, r_word, r_arr, find, gen_arr, arr_arg, own_at, ref_word, need_e, need_es, need_s, need_b}
use Rattle.generator.specs.Resolved.{resolve_nodes, read_top, read_ref, copy_ref, set_top, set_ref, v_arr}
use Rattle.generator.specs.Emit.{Entry, e_temp, e_own, e_arr, above, under}
use Rattle.generator.specs.Peak.{peak}
use Rattle.generator.proofs.Waiting.{entry_of, above-one}
use Rattle.generator.proofs.EmitExpr.{args_on, below_args}
use Rattle.bounds.specs.Bounds.{PeakNeeds}

module _ (Γ : Scope) (b : ℕ) where
  some_need : (e : Expr) → 1 ≤ need_e Γ e
  some_need (num n) = omega arith
  some_need (var x) = omega arith
  some_need (bin o e f) = omega (arith, some_need e)
  some_need (un o e) = some_need e
  some_need (and1 e f) = omega (arith, some_need e)
  some_need (or1 e f) = omega (arith, some_need e)
  some_need (idx x e) = some_need e
  some_need (len x) = omega arith
  some_need (call x es) = omega arith
  some_need (by_table x e es) = omega (arith, some_need e)
  some_need input = omega arith

  abbrev peaks : List Node → List Entry → ℕ → ℕ
  peaks ns p h = peak b (resolve_nodes Γ ns) p h

  -- the height behind a tree that needs n places above the pile p
  abbrev rises : List Entry → ℕ → ℕ → ℕ
  rises p h n = max h (above b p + n)

  abbrev GoalV : Expr → Type 0
  GoalV e = (ns : List Node) (p : List Entry) (h : ℕ) → above b p ≤ h → peaks (nodes_e false e ns) p h ≡ peaks ns (entry_of (own_at Γ e) ∷ p) (rises p h (need_e Γ e))

  abbrev GoalA : Expr → Type 0
  GoalA e = (ns : List Node) (p : List Entry) (h : ℕ) → above b p ≤ h → peaks (nodes_e true e ns) p h ≡ opt (arr_arg Γ e) (peaks ns (e_temp ∷ p) (rises p h (need_e Γ e))) (λ a. peaks ns (e_arr a ∷ p) h)

  -- any form but a name: the same in both
  abbrev GoalE : Expr → Type 0
  GoalE e = (a : Bool) (ns : List Node) (p : List Entry) (h : ℕ) → above b p ≤ h → peaks (nodes_e a e ns) p h ≡ peaks ns (e_temp ∷ p) (rises p h (need_e Γ e))

  leaf : (ns : List Node) (p : List Entry) (h : ℕ) → peaks ns (e_temp ∷ p) (max h (suc (above b p))) ≡ peaks ns (e_temp ∷ p) (rises p h 1)
  leaf ns p h = ap (peaks ns (e_temp ∷ p)) (omega arith)

  do_var : (x : Name) → GoalV (var x)
  do_var x ns p h l = go (find Γ.slots x 0 0) (on_some (Γ.top x) as_word)
    where
      go : (f : Option Ref) (w : Option ℕ) → peak b (opt f (read_top w) read_ref ∷ resolve_nodes Γ ns) p h ≡ peaks ns (entry_of (on_some f ref_word) ∷ p) (rises p h 1)
      go none none = leaf ns p h
      go none (some i) = leaf ns p h
      go (some (r_word k)) w = ap (peaks ns (e_own k ∷ p)) (omega arith)
      go (some (r_arr j u)) w = leaf ns p h

  do_pass : (x : Name) → GoalA (var x)
  do_pass x ns p h l = go (gen_arr Γ x) (find Γ.slots x 0 0) (on_some (Γ.top x) as_word)
    where
      go : (q : Option Opnd) (f : Option Ref) (w : Option ℕ) → peak b (opt q (opt f (read_top w) copy_ref) v_arr ∷ resolve_nodes Γ ns) p h ≡ opt q (peaks ns (e_temp ∷ p) (rises p h 1)) (λ a. peaks ns (e_arr a ∷ p) h)
      go (some a) f w = ap (peaks ns (e_arr a ∷ p)) (omega (arith, l))
      go none none none = leaf ns p h
      go none none (some i) = leaf ns p h
      go none (some (r_word k)) w = leaf ns p h
      go none (some (r_arr j u)) w = leaf ns p h

  do_bin : (k : ℕ) (e f : Expr) → GoalV e → GoalV f → GoalE (bin k e f)
  do_bin k e f F G a ns p h l =
      F (nodes_e false f (n_bin k ∷ ns)) p h l
      ∙ (G (n_bin k ∷ ns) (entry_of (own_at Γ e) ∷ p) (rises p h (need_e Γ e)) (omega (arith, above-one (own_at Γ e) b p, some_need e))
      ∙ ap (peaks ns (e_temp ∷ p)) (omega (arith, above-one (own_at Γ e) b p, some_need e)))

  -- a node that takes the value and leaves one
  do_one : (e : Expr) (ns : List Node) (p : List Entry) (h : ℕ) → peaks ns (e_temp ∷ p) (max (rises p h (need_e Γ e)) (suc (above b p))) ≡ peaks ns (e_temp ∷ p) (rises p h (need_e Γ e))
  do_one e ns p h = ap (peaks ns (e_temp ∷ p)) (omega (arith, some_need e))

  do_un : (k : ℕ) (e : Expr) → GoalV e → GoalE (un k e)
  do_un k e F a ns p h l = F (n_un k ∷ ns) p h l ∙ do_one e ns p h

  do_idx : (x : Name) (e : Expr) → GoalV e → GoalE (idx x e)
  do_idx x e F a ns p h l = F (n_idx x ∷ ns) p h l ∙ do_one e ns p h

  do_and : (e f : Expr) → GoalV e → GoalV f → GoalE (and1 e f)
  do_and e f F G a ns p h l =
      F (n_and ∷ nodes_e false f (n_join ∷ ns)) p h l
      ∙ (G (n_join ∷ ns) p (max (rises p h (need_e Γ e)) (above b p)) (omega arith)
      ∙ ap (peaks ns (e_temp ∷ p)) (omega (arith, l, some_need e)))

  do_or : (e f : Expr) → GoalV e → GoalV f → GoalE (or1 e f)
  do_or e f F G a ns p h l =
      F (n_or ∷ nodes_e false f (n_join ∷ ns)) p h l
      ∙ (G (n_join ∷ ns) p (max (rises p h (need_e Γ e)) (above b p)) (omega arith)
      ∙ ap (peaks ns (e_temp ∷ p)) (omega (arith, l, some_need e)))

  abbrev GoalEs : Exprs → Type 0
  GoalEs es = (ns : List Node) (p : List Entry) (h : ℕ) → above b p ≤ h → peaks (nodes_es es ns) p h ≡ peaks ns (args_on Γ b es p) (rises p h (need_es Γ es))

  do_arg : (e : Expr) (es : Exprs) → GoalA e → GoalEs es → GoalEs (and_then e es)
  do_arg e es F G ns p h l = F (nodes_es es ns) p h l ∙ go (arr_arg Γ e)
    where
      go : (q : Option Opnd) → opt q (peaks (nodes_es es ns) (e_temp ∷ p) (rises p h (need_e Γ e))) (λ a. peaks (nodes_es es ns) (e_arr a ∷ p) h) ≡ peaks ns (args_on Γ b es (opt q e_temp e_arr ∷ p)) (rises p h (opt q (max (need_e Γ e) (suc (need_es Γ es))) (λ a. need_es Γ es)))
      go none = G ns (e_temp ∷ p) (rises p h (need_e Γ e)) (omega (arith, some_need e)) ∙ ap (peaks ns (args_on Γ b es (e_temp ∷ p))) (omega arith)
      go (some a) = G ns (e_arr a ∷ p) h l

  do_call : (x : Name) (es : Exprs) → GoalEs es → GoalE (call x es)
  do_call x es F a ns p h l =
      F (n_call (count es) x ∷ ns) p h l
      ∙ (ap (λ q. peaks ns (e_temp ∷ q) (max (rises p h (need_es Γ es)) (suc (above b q)))) (below_args Γ b es p)
      ∙ ap (peaks ns (e_temp ∷ p)) (omega (arith, l)))

  do_table : (x : Name) (e : Expr) (es : Exprs) → GoalV e → GoalEs es → GoalE (by_table x e es)
  do_table x e es F G a ns p h l =
      let q : List Entry = entry_of (own_at Γ e) ∷ p in
      let m : ℕ = rises p h (need_e Γ e) in
      F (nodes_es es (n_by (count es) x ∷ ns)) p h l
      ∙ (G (n_by (count es) x ∷ ns) q m (omega (arith, above-one (own_at Γ e) b p, some_need e))
      ∙ (ap (λ r. peaks ns (e_temp ∷ under r) (max (rises q m (need_es Γ es)) (suc (above b (under r))))) (below_args Γ b es q)
      ∙ ap (peaks ns (e_temp ∷ p)) (omega (arith, above-one (own_at Γ e) b p, some_need e))))

  mutual
    peak_v : (e : Expr) → GoalV e
    peak_v (num n) ns p h l = leaf ns p h
    peak_v (var x) ns p h l = do_var x ns p h l
    peak_v (bin k e f) ns p h l = do_bin k e f (peak_v e) (peak_v f) false ns p h l
    peak_v (un k e) ns p h l = do_un k e (peak_v e) false ns p h l
    peak_v (and1 e f) ns p h l = do_and e f (peak_v e) (peak_v f) false ns p h l
    peak_v (or1 e f) ns p h l = do_or e f (peak_v e) (peak_v f) false ns p h l
    peak_v (idx x e) ns p h l = do_idx x e (peak_v e) false ns p h l
    peak_v (len x) ns p h l = leaf ns p h
    peak_v (call x es) ns p h l = do_call x es (peak_es es) false ns p h l
    peak_v (by_table x e es) ns p h l = do_table x e es (peak_v e) (peak_es es) false ns p h l
    peak_v input ns p h l = leaf ns p h

    peak_a : (e : Expr) → GoalA e
    peak_a (num n) ns p h l = leaf ns p h
    peak_a (var x) ns p h l = do_pass x ns p h l
    peak_a (bin k e f) ns p h l = do_bin k e f (peak_v e) (peak_v f) true ns p h l
    peak_a (un k e) ns p h l = do_un k e (peak_v e) true ns p h l
    peak_a (and1 e f) ns p h l = do_and e f (peak_v e) (peak_v f) true ns p h l
    peak_a (or1 e f) ns p h l = do_or e f (peak_v e) (peak_v f) true ns p h l
    peak_a (idx x e) ns p h l = do_idx x e (peak_v e) true ns p h l
    peak_a (len x) ns p h l = leaf ns p h
    peak_a (call x es) ns p h l = do_call x es (peak_es es) true ns p h l
    peak_a (by_table x e es) ns p h l = do_table x e es (peak_v e) (peak_es es) true ns p h l
    peak_a input ns p h l = leaf ns p h

    peak_es : (es : Exprs) → GoalEs es
    peak_es no ns p h l = ap (peaks ns p) (omega (arith, l))
    peak_es (and_then e es) ns p h l = do_arg e es (peak_a e) (peak_es es) ns p h l

  -- statements begin and end with nothing on the pile
  abbrev GoalS : Stmt → Type 0
  GoalS s = (ns : List Node) (h : ℕ) → b ≤ h → peaks (nodes_s s ns) [] h ≡ peaks ns [] (max h (b + need_s Γ s))

  -- a block counts a place at least, which its condition has taken before it
  abbrev GoalB : Block → Type 0
  GoalB c = (ns : List Node) (h : ℕ) → b + 1 ≤ h → peaks (nodes_bs c ns) [] h ≡ peaks ns [] (max h (b + need_b Γ c))

  -- a node that takes the value
  used : (e : Expr) (ns : List Node) (h : ℕ) → peaks ns [] (max (max h (b + need_e Γ e)) b) ≡ peaks ns [] (max h (b + need_e Γ e))
  used e ns h = ap (peaks ns []) (omega arith)

  do_set : (x : Name) (e : Expr) → GoalS (set1 x e)
  do_set x e ns h l = peak_v e (n_set x ∷ ns) [] h l ∙ (go (find Γ.slots x 0 0) (on_some (Γ.top x) as_word) ∙ used e ns h)
    where
      go : (f : Option Ref) (w : Option ℕ) → peak b (opt f (set_top w) set_ref ∷ resolve_nodes Γ ns) (entry_of (own_at Γ e) ∷ []) (max h (b + need_e Γ e)) ≡ peaks ns [] (max (max h (b + need_e Γ e)) b)
      go none none = refl
      go none (some i) = refl
      go (some (r_word k)) w = refl
      go (some (r_arr j u)) w = refl

  do_store : (x : Name) (i e : Expr) → GoalS (store1 x i e)
  do_store x i e ns h l =
      peak_v i (nodes_e false e (n_store x ∷ ns)) [] h l
      ∙ (peak_v e (n_store x ∷ ns) (entry_of (own_at Γ i) ∷ []) (max h (b + need_e Γ i)) (omega (arith, above-one (own_at Γ i) b [], some_need i))
      ∙ ap (peaks ns []) (omega (arith, l, above-one (own_at Γ i) b [])))

  drop : (m : ℕ) → b ≤ m → max m b ≡ m
  drop m l = omega arith

  both_parts : (h e c d : ℕ) → b ≤ h → max (max (max (max (max (max h (b + e)) b) (b + c)) b) (b + d)) b ≡ max h (b + max e (max c d))
  both_parts h e c d l =
      let u : ℕ = max h (b + e) in
      let v : ℕ = max u (b + c) in
      let w : ℕ = max v (b + d) in
      let lu : b ≤ u = omega arith in
      let lv : b ≤ v = omega arith in
      let lw : b ≤ w = omega arith in
      rw (drop u lu, drop v lv, drop w lw) (omega arith)

  do_if : (e : Expr) (c c' : Block) → GoalB c → GoalB c' → GoalS (if1 e c c')
  do_if e c c' F G ns h l =
      let m : ℕ = max (max h (b + need_e Γ e)) b in
      let n : ℕ = max (max m (b + need_b Γ c)) b in
      peak_v e (n_if ∷ nodes_bs c (n_else ∷ nodes_bs c' (n_fi ∷ ns))) [] h l
      ∙ (F (n_else ∷ nodes_bs c' (n_fi ∷ ns)) m (omega (arith, some_need e))
      ∙ (G (n_fi ∷ ns) n (omega (arith, some_need e))
      ∙ ap (peaks ns []) (both_parts h (need_e Γ e) (need_b Γ c) (need_b Γ c') l)))

  do_while : (e : Expr) (c : Block) → GoalB c → GoalS (while1 e c)
  do_while e c F ns h l =
      let m : ℕ = max (max (max h b) (b + need_e Γ e)) b in
      peak_v e (n_while ∷ nodes_bs c (n_again ∷ ns)) [] (max h b) (omega arith)
      ∙ (F (n_again ∷ ns) m (omega (arith, some_need e))
      ∙ ap (peaks ns []) (omega (arith, l)))

  mutual
    peak_s : (s : Stmt) → GoalS s
    peak_s (set1 x e) ns h l = do_set x e ns h l
    peak_s (store1 x i e) ns h l = do_store x i e ns h l
    peak_s (ex1 e) ns h l = peak_v e (n_ex ∷ ns) [] h l ∙ used e ns h
    peak_s (out1 e) ns h l = peak_v e (n_out ∷ ns) [] h l ∙ used e ns h
    peak_s (if1 e c c') ns h l = do_if e c c' (peak_b c) (peak_b c') ns h l
    peak_s (while1 e c) ns h l = do_while e c (peak_b c) ns h l
    peak_s (ret1 e) ns h l = peak_v e (n_ret ∷ ns) [] h l ∙ used e ns h
    peak_s break1 ns h l = ap (peaks ns []) (omega (arith, l))
    peak_s next1 ns h l = ap (peaks ns []) (omega (arith, l))

    peak_b : (c : Block) → GoalB c
    peak_b end ns h l = ap (peaks ns []) (omega (arith, l))
    peak_b (seq1 s c) ns h l =
        peak_s s (nodes_bs c ns) h (omega (arith, l))
        ∙ (peak_b c ns (max h (b + need_s Γ s)) (omega (arith, l))
        ∙ ap (peaks ns []) (omega arith))

  peak_body : (c : Block) (h : ℕ) → b ≤ h → peaks (nodes_b c) [] h ≡ max h (b + need_b Γ c)
  peak_body end h l = omega arith
  peak_body (seq1 s c) h l = peak_s s (nodes_b c) h l ∙ (peak_body c (max h (b + need_s Γ s)) (omega (arith, l)) ∙ omega arith)

pub peak_needs : PeakNeeds
peak_needs Γ body b = peak_body Γ b body b (omega arith) ∙ omega arith
