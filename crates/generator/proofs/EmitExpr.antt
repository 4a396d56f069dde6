-- The nodes of an expression make its steps.
use mathlib.Core.Path.{◌≡◌, refl, sym, ap, ◌∙◌}
use mathlib.Core.Bool.{Bool, true, false}
use mathlib.Core.List.{List, [], ◌∷◌, ◌++◌, append-nil, append_assoc}
use mathlib.Core.Option.{Option, some, none}
use Prim.Native.Nat.{ℕ, zero, suc, ◌+◌}
use native.Mathlib.Omega.{arith}
use lib.ListN.{length, length-append}
use Rattle.language.specs.Syntax.{opt, Name, Expr, num, var, bin, un, and1, or1, idx, len, call, by_table, input, Exprs, no, and_then}
use Rattle.language.specs.Meaning.{on_some, as_word}
use Rattle.rows.specs.Nodes.{Node, n_bin, n_and, n_or, n_join, n_un, n_idx, n_call, n_by, nodes_e, nodes_es, count}
use Rattle.steps.specs.Steps.{Opnd, Step, s_num, s_copy, s_flag, s_getw, s_jump, s_jz}
use Rattle.steps.specs.Generate.{Scope, Ref, r_word, r_arr, find, gen_arr, the_arr, arr_arg, own_at, at_place, unless, opnds, count as words, size_e, size_es, size_v, copies, gen_var, gen_e, gen_es, gen_v}
use Rattle.steps.proofs.Expressions.{len-e}
use Rattle.generator.specs.Resolved.{Resolved, v_and, v_or, v_join, resolve_nodes, read_name, read_top, read_ref, pass_name}
use Rattle.generator.specs.Emit.{Entry, e_temp, e_own, e_arr, raise, above, place_of, under, top, below, words_in, arrays_in, arrays_of, target_at, aim_at, Marks, marks, settled, settle, emit, run}
use Rattle.generator.proofs.Waiting.{target-mid, aim-mid, marks-eq, entry_of, above-one, place-one}

len_v : (e : Expr) (Γ : Scope) (d pc : ℕ) → length (gen_v Γ e d pc) ≡ size_v Γ e
len_v e Γ d pc = go (own_at Γ e)
  where
    go : (o : Option ℕ) → length (unless o [] (gen_e Γ e d pc)) ≡ unless o 0 (size_e Γ e)
    go none = len-e e Γ d pc
    go (some k) = refl

module _ (Γ : Scope) (b : ℕ) where
  -- where the pile's top must be in its place, what was left out is made up for
  pub settle_out : (e : Expr) (d pc : ℕ) (r : List Step) → settled d (entry_of (own_at Γ e)) (r ++ gen_v Γ e d pc) ≡ r ++ gen_e Γ e d pc
  settle_out (num n) d pc r = refl
  settle_out (var x) d pc r = go (find Γ.slots x 0 0)
    where
      go : (o : Option Ref) → settled d (entry_of (on_some o Rattle.steps.specs.Generate.ref_word)) (r ++ unless (on_some o Rattle.steps.specs.Generate.ref_word) [] (opt o (opt (on_some (Γ.top x) as_word) (s_num d 0) (s_getw d)) (copies d) ∷ [])) ≡ r ++ (opt o (opt (on_some (Γ.top x) as_word) (s_num d 0) (s_getw d)) (copies d) ∷ [])
      go none = refl
      go (some (r_word k)) = ap (λ l. l ++ (s_copy d k ∷ [])) (append-nil r)
      go (some (r_arr j w)) = refl
  settle_out (bin o e f) d pc r = refl
  settle_out (un o e) d pc r = refl
  settle_out (and1 e f) d pc r = refl
  settle_out (or1 e f) d pc r = refl
  settle_out (idx x e) d pc r = refl
  settle_out (len x) d pc r = refl
  settle_out (call x es) d pc r = refl
  settle_out (by_table x e es) d pc r = refl
  settle_out input d pc r = refl

  -- from any state, the nodes of e leave this one: as an operand, and as an argument
  abbrev pub AfterV : Expr → List Entry → ℕ → ℕ → List Step → Marks
  AfterV e p o h r = marks (entry_of (own_at Γ e) ∷ p) o h (r ++ gen_v Γ e (above b p) (length r))

  abbrev pub AfterE : Expr → List Entry → ℕ → ℕ → List Step → Marks
  AfterE e p o h r = marks (e_temp ∷ p) o h (r ++ gen_e Γ e (above b p) (length r))

  abbrev AfterA : Expr → List Entry → ℕ → ℕ → List Step → Marks
  AfterA e p o h r = opt (arr_arg Γ e) (AfterE e p o h r) (λ a. marks (e_arr a ∷ p) o h r)

  abbrev pub runs : List Node → Marks → Marks
  runs ns z = run b (resolve_nodes Γ ns) z

  abbrev GoalV : Expr → Type 0
  GoalV e = (ns : List Node) (p : List Entry) (o h : ℕ) (r : List Step) → runs (nodes_e false e ns) (marks p o h r) ≡ runs ns (AfterV e p o h r)

  abbrev GoalA : Expr → Type 0
  GoalA e = (ns : List Node) (p : List Entry) (o h : ℕ) (r : List Step) → runs (nodes_e true e ns) (marks p o h r) ≡ runs ns (AfterA e p o h r)

  -- any form but a name: the same in both
  abbrev GoalE : Expr → Type 0
  GoalE e = (a : Bool) (ns : List Node) (p : List Entry) (o h : ℕ) (r : List Step) → runs (nodes_e a e ns) (marks p o h r) ≡ runs ns (AfterE e p o h r)

  -- the pile and the code behind an operand
  pub long_v : (e : Expr) (d : ℕ) (r : List Step) → length (r ++ gen_v Γ e d (length r)) ≡ length r + size_v Γ e
  long_v e d r = length-append r (gen_v Γ e d (length r)) ∙ ap (λ n. length r + n) (len_v e Γ d (length r))

  pub long_e : (e : Expr) (d : ℕ) (r : List Step) → length (r ++ gen_e Γ e d (length r)) ≡ length r + size_e Γ e
  long_e e d r = length-append r (gen_e Γ e d (length r)) ∙ ap (λ n. length r + n) (len-e e Γ d (length r))

  pub settle_v : (e : Expr) (p : List Entry) (o h : ℕ) (r : List Step) → settle b (AfterV e p o h r) ≡ AfterE e p o h r
  settle_v e p o h r = marks-eq refl refl refl (settle_out e (above b p) (length r) r)

  do_var : (x : Name) → GoalV (var x)
  do_var x ns p o h r = ap (runs ns) (go (find Γ.slots x 0 0) (on_some (Γ.top x) as_word))
    where
      go : (f : Option Ref) (w : Option ℕ) → emit b (opt f (read_top w) read_ref) (marks p o h r) ≡ marks (entry_of (on_some f Rattle.steps.specs.Generate.ref_word) ∷ p) o h (r ++ unless (on_some f Rattle.steps.specs.Generate.ref_word) [] (opt f (opt w (s_num (above b p) 0) (s_getw (above b p))) (copies (above b p)) ∷ []))
      go none none = refl
      go none (some i) = refl
      go (some (r_word k)) w = marks-eq refl refl refl (sym (append-nil r))
      go (some (r_arr j w1)) w = refl

  do_bin : (k : ℕ) (e f : Expr) → GoalV e → GoalV f → GoalE (bin k e f)
  do_bin k e f F G a ns p o h r =
      let d : ℕ = above b p in
      let r1 : List Step = r ++ gen_v Γ e d (length r) in
      F (nodes_e false f (n_bin k ∷ ns)) p o h r
      ∙ (G (n_bin k ∷ ns) (entry_of (own_at Γ e) ∷ p) o h r1
      ∙ ap (runs ns) (marks-eq refl refl refl
      (rw (above-one (own_at Γ e) b p, place-one (own_at Γ e) d, place-one (own_at Γ f) (suc d), long_v e d r) (simp append_assoc refl))))

  do_un : (k : ℕ) (e : Expr) → GoalV e → GoalE (un k e)
  do_un k e F a ns p o h r =
      F (n_un k ∷ ns) p o h r
      ∙ ap (runs ns) (marks-eq refl refl refl (rw (place-one (own_at Γ e) (above b p)) (simp append_assoc refl)))

  do_idx : (x : Name) (e : Expr) → GoalV e → GoalE (idx x e)
  do_idx x e F a ns p o h r =
      F (n_idx x ∷ ns) p o h r
      ∙ ap (runs ns) (marks-eq refl refl refl (rw (place-one (own_at Γ e) (above b p)) (simp append_assoc refl)))

  do_and : (e f : Expr) → GoalV e → GoalV f → GoalE (and1 e f)
  do_and e f F G a ns p o h r =
      let d : ℕ = above b p in
      let r1 : List Step = r ++ gen_e Γ e d (length r) in
      let j : List Step = r1 ++ (s_jz d o ∷ []) in
      let l1 : length j ≡ suc (length r + size_e Γ e) = length-append r1 (s_jz d o ∷ []) ∙ omega (arith, long_e e d r) in
      let B1 : List Step = gen_e Γ f d (length j) ++ (s_flag d d ∷ []) in
      let out : List Step = r1 ++ (s_jz d o ∷ B1) in
      let e1 : (j ++ gen_e Γ f d (length j)) ++ (s_flag d d ∷ []) ≡ out = simp append_assoc refl in
      let l2 : length out ≡ length r + size_e Γ (and1 e f) = length-append r1 (s_jz d o ∷ B1) ∙ omega (arith, long_e e d r, length-append (gen_e Γ f d (length j)) (s_flag d d ∷ []), len-e f Γ d (length j)) in
      F (n_and ∷ nodes_e false f (n_join ∷ ns)) p o h r
      ∙ (ap (λ z. runs (nodes_e false f (n_join ∷ ns)) (Rattle.generator.specs.Emit.tests b z)) (settle_v e p o h r)
      ∙ (G (n_join ∷ ns) p (length r1) h j
      ∙ (ap (λ z. runs ns (Rattle.generator.specs.Emit.joins b z)) (settle_v f p (length r1) h j)
      ∙ ap (runs ns) (marks-eq refl
      (ap (λ l. target_at l (length r1)) e1 ∙ target-mid r1 (s_jz d o) B1 (length r1) refl)
      refl
      (ap (λ l. aim_at l (length r1) (length l)) e1 ∙ aim-mid r1 (s_jz d o) B1 (length r1) (length out) refl
      ∙ rw (l2, l1) (simp append_assoc refl))))))

  do_or : (e f : Expr) → GoalV e → GoalV f → GoalE (or1 e f)
  do_or e f F G a ns p o h r =
      let d : ℕ = above b p in
      let r1 : List Step = r ++ gen_e Γ e d (length r) in
      let p3 : ℕ = length r1 + 3 in
      let r2 : List Step = r1 ++ (s_jz d p3 ∷ s_num d 1 ∷ []) in
      let j : List Step = r1 ++ (s_jz d p3 ∷ s_num d 1 ∷ s_jump o ∷ []) in
      let l1 : length j ≡ suc (suc (suc (length r + size_e Γ e))) = length-append r1 (s_jz d p3 ∷ s_num d 1 ∷ s_jump o ∷ []) ∙ omega (arith, long_e e d r) in
      let l0 : p3 ≡ suc (suc (suc (length r + size_e Γ e))) = omega (arith, long_e e d r) in
      let w2 : length r1 + 2 ≡ length r2 = sym (length-append r1 (s_jz d p3 ∷ s_num d 1 ∷ [])) in
      let B1 : List Step = gen_e Γ f d (length j) ++ (s_flag d d ∷ []) in
      let out : List Step = r2 ++ (s_jump o ∷ B1) in
      let e1 : (j ++ gen_e Γ f d (length j)) ++ (s_flag d d ∷ []) ≡ out = simp append_assoc refl in
      let l2 : length out ≡ length r + size_e Γ (or1 e f) = length-append r2 (s_jump o ∷ B1) ∙ omega (arith, long_e e d r, w2, length-append (gen_e Γ f d (length j)) (s_flag d d ∷ []), len-e f Γ d (length j)) in
      F (n_or ∷ nodes_e false f (n_join ∷ ns)) p o h r
      ∙ (ap (λ z. runs (nodes_e false f (n_join ∷ ns)) (Rattle.generator.specs.Emit.or_tests b z)) (settle_v e p o h r)
      ∙ (G (n_join ∷ ns) p (length r1 + 2) h j
      ∙ (ap (λ z. runs ns (Rattle.generator.specs.Emit.joins b z)) (settle_v f p (length r1 + 2) h j)
      ∙ ap (runs ns) (marks-eq refl
      (ap (λ l. target_at l (length r1 + 2)) e1 ∙ target-mid r2 (s_jump o) B1 (length r1 + 2) w2)
      refl
      (ap (λ l. aim_at l (length r1 + 2) (length l)) e1 ∙ aim-mid r2 (s_jump o) B1 (length r1 + 2) (length out) w2
      ∙ rw (l2, l1, l0) (simp append_assoc refl))))))

  -- arguments: words from the place d on, and arrays
  abbrev pub args_on : Exprs → List Entry → List Entry
  args_on no p = p
  args_on (and_then e es) p = args_on es (opt (arr_arg Γ e) e_temp e_arr ∷ p)

  abbrev GoalEs : Exprs → Type 0
  GoalEs es = (ns : List Node) (p : List Entry) (o h : ℕ) (r : List Step) → runs (nodes_es es ns) (marks p o h r) ≡ runs ns (marks (args_on es p) o h (r ++ gen_es Γ es (above b p) (length r)))

  do_arg : (e : Expr) (es : Exprs) → GoalA e → GoalEs es → GoalEs (and_then e es)
  do_arg e es F G ns p o h r = F (nodes_es es ns) p o h r ∙ go (arr_arg Γ e)
    where
      go : (q : Option Opnd) → runs (nodes_es es ns) (opt q (AfterE e p o h r) (λ a. marks (e_arr a ∷ p) o h r)) ≡ runs ns (marks (args_on es (opt q e_temp e_arr ∷ p)) o h (r ++ opt q (gen_e Γ e (above b p) (length r) ++ gen_es Γ es (suc (above b p)) (length r + size_e Γ e)) (λ a. gen_es Γ es (above b p) (length r))))
      go none = G ns (e_temp ∷ p) o h (r ++ gen_e Γ e (above b p) (length r)) ∙ ap (runs ns) (marks-eq refl refl refl (rw (long_e e (above b p) r) (simp append_assoc refl)))
      go (some q) = G ns (e_arr q ∷ p) o h r

  -- what the pile has of them
  pub below_args : (es : Exprs) (p : List Entry) → below (count es) (args_on es p) ≡ p
  below_args no p = refl
  below_args (and_then e es) p = below_more (count es) (args_on es (opt (arr_arg Γ e) e_temp e_arr ∷ p)) ∙ ap under (below_args es (opt (arr_arg Γ e) e_temp e_arr ∷ p))
    where
      below_more : (n : ℕ) (q : List Entry) → below n (under q) ≡ under (below n q)
      below_more zero q = refl
      below_more (suc n) q = below_more n (under q)

  swap_raise : (x y : Entry) (m : ℕ) → raise x (raise y m) ≡ raise y (raise x m)
  swap_raise e_temp e_temp m = refl
  swap_raise e_temp (e_own k) m = refl
  swap_raise e_temp (e_arr q) m = refl
  swap_raise (e_own i) e_temp m = refl
  swap_raise (e_own i) (e_own k) m = refl
  swap_raise (e_own i) (e_arr q) m = refl
  swap_raise (e_arr i) y m = refl

  words_more : (n : ℕ) (q : List Entry) → words_in (suc n) q ≡ raise (top (below n q)) (words_in n q)
  words_more zero q = refl
  words_more (suc n) q = ap (raise (top q)) (words_more n (under q)) ∙ swap_raise (top q) (top (below n (under q))) (words_in n (under q))

  arrays_more : (n : ℕ) (q : List Entry) → arrays_in (suc n) q ≡ arrays_of (top (below n q)) ++ arrays_in n q
  arrays_more zero q = sym (append-nil (arrays_of (top q)))
  arrays_more (suc n) q = ap (λ l. l ++ arrays_of (top q)) (arrays_more n (under q)) ∙ append_assoc (arrays_of (top (below n (under q)))) (arrays_in n (under q)) (arrays_of (top q))

  words_args : (es : Exprs) (p : List Entry) → words_in (count es) (args_on es p) ≡ words Γ es
  words_args no p = refl
  words_args (and_then e es) p = words_more (count es) (args_on es (opt (arr_arg Γ e) e_temp e_arr ∷ p)) ∙ rw (below_args es (opt (arr_arg Γ e) e_temp e_arr ∷ p), words_args es (opt (arr_arg Γ e) e_temp e_arr ∷ p)) (go (arr_arg Γ e))
    where
      go : (q : Option Opnd) → raise (opt q e_temp e_arr) (words Γ es) ≡ opt q (suc (words Γ es)) (λ a. words Γ es)
      go none = refl
      go (some a) = refl

  arrays_args : (es : Exprs) (p : List Entry) → arrays_in (count es) (args_on es p) ≡ opnds Γ es
  arrays_args no p = refl
  arrays_args (and_then e es) p = arrays_more (count es) (args_on es (opt (arr_arg Γ e) e_temp e_arr ∷ p)) ∙ rw (below_args es (opt (arr_arg Γ e) e_temp e_arr ∷ p), arrays_args es (opt (arr_arg Γ e) e_temp e_arr ∷ p)) (go (arr_arg Γ e))
    where
      go : (q : Option Opnd) → arrays_of (opt q e_temp e_arr) ++ opnds Γ es ≡ opt q (opnds Γ es) (λ a. a ∷ opnds Γ es)
      go none = refl
      go (some a) = refl

  do_call : (x : Name) (es : Exprs) → GoalEs es → GoalE (call x es)
  do_call x es F a ns p o h r =
      F (n_call (count es) x ∷ ns) p o h r
      ∙ ap (runs ns) (marks-eq (ap (λ q. e_temp ∷ q) (below_args es p)) refl refl (rw (below_args es p, words_args es p, arrays_args es p) (simp append_assoc refl)))

  do_table : (x : Name) (e : Expr) (es : Exprs) → GoalV e → GoalEs es → GoalE (by_table x e es)
  do_table x e es F G a ns p o h r =
      let d : ℕ = above b p in
      let q : List Entry = entry_of (own_at Γ e) ∷ p in
      F (nodes_es es (n_by (count es) x ∷ ns)) p o h r
      ∙ (G (n_by (count es) x ∷ ns) q o h (r ++ gen_v Γ e d (length r))
      ∙ ap (runs ns) (marks-eq (ap (λ l. e_temp ∷ under l) (below_args es q)) refl refl
      (rw (below_args es q, words_args es q, arrays_args es q, above-one (own_at Γ e) b p, place-one (own_at Γ e) d, long_v e d r) (simp append_assoc refl))))

  do_pass : (x : Name) → GoalA (var x)
  do_pass x ns p o h r = ap (runs ns) (go (gen_arr Γ x) (find Γ.slots x 0 0) (on_some (Γ.top x) as_word))
    where
      go : (q : Option Opnd) (f : Option Ref) (w : Option ℕ) → emit b (opt q (opt f (read_top w) Rattle.generator.specs.Resolved.copy_ref) Rattle.generator.specs.Resolved.v_arr) (marks p o h r) ≡ opt q (marks (e_temp ∷ p) o h (r ++ (opt f (opt w (s_num (above b p) 0) (s_getw (above b p))) (copies (above b p)) ∷ []))) (λ a. marks (e_arr a ∷ p) o h r)
      go (some a) f w = refl
      go none none none = refl
      go none none (some i) = refl
      go none (some (r_word k)) w = refl
      go none (some (r_arr j w1)) w = refl

  mutual
    pub run_v : (e : Expr) → GoalV e
    run_v (num n) ns p o h r = refl
    run_v (var x) ns p o h r = do_var x ns p o h r
    run_v (bin k e f) ns p o h r = do_bin k e f (run_v e) (run_v f) false ns p o h r
    run_v (un k e) ns p o h r = do_un k e (run_v e) false ns p o h r
    run_v (and1 e f) ns p o h r = do_and e f (run_v e) (run_v f) false ns p o h r
    run_v (or1 e f) ns p o h r = do_or e f (run_v e) (run_v f) false ns p o h r
    run_v (idx x e) ns p o h r = do_idx x e (run_v e) false ns p o h r
    run_v (len x) ns p o h r = refl
    run_v (call x es) ns p o h r = do_call x es (run_es es) false ns p o h r
    run_v (by_table x e es) ns p o h r = do_table x e es (run_v e) (run_es es) false ns p o h r
    run_v input ns p o h r = refl

    run_a : (e : Expr) → GoalA e
    run_a (num n) ns p o h r = refl
    run_a (var x) ns p o h r = do_pass x ns p o h r
    run_a (bin k e f) ns p o h r = do_bin k e f (run_v e) (run_v f) true ns p o h r
    run_a (un k e) ns p o h r = do_un k e (run_v e) true ns p o h r
    run_a (and1 e f) ns p o h r = do_and e f (run_v e) (run_v f) true ns p o h r
    run_a (or1 e f) ns p o h r = do_or e f (run_v e) (run_v f) true ns p o h r
    run_a (idx x e) ns p o h r = do_idx x e (run_v e) true ns p o h r
    run_a (len x) ns p o h r = refl
    run_a (call x es) ns p o h r = do_call x es (run_es es) true ns p o h r
    run_a (by_table x e es) ns p o h r = do_table x e es (run_v e) (run_es es) true ns p o h r
    run_a input ns p o h r = refl

    run_es : (es : Exprs) → GoalEs es
    run_es no ns p o h r = ap (runs ns) (marks-eq refl refl refl (sym (append-nil r)))
    run_es (and_then e es) ns p o h r = do_arg e es (run_a e) (run_es es) ns p o h r

  -- an expression whose value must be in its place
  pub run_settled : (e : Expr) (ns : List Node) (p : List Entry) (o h : ℕ) (r : List Step) (f : Marks → Marks) → runs ns (f (settle b (AfterV e p o h r))) ≡ runs ns (f (AfterE e p o h r))
  run_settled e ns p o h r f = ap (λ z. runs ns (f z)) (settle_v e p o h r)
