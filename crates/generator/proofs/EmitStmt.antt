-- The nodes of statements make their steps, and those of a body its steps.
use mathlib.Core.Path.{◌≡◌, refl, sym, ap, ◌∙◌}
use mathlib.Core.Bool.{false}
use mathlib.Core.List.{List, [], ◌∷◌, ◌++◌, append-nil, append_assoc}
use mathlib.Core.Option.{Option, some, none}
use Prim.Native.Nat.{ℕ, suc, ◌+◌, ◌-◌}
use native.Mathlib.Omega.{arith}
use lib.ListN.{length, length-append}
use Rattle.language.specs.Syntax.{opt, Name, Expr, Stmt, set1, store1, ex1, out1, if1, while1, ret1, break1, next1, Block, end, seq1}
use Rattle.language.specs.Meaning.{on_some, as_word}
use Rattle.rows.specs.Nodes.{Node, n_set, n_store, n_ex, n_out, n_if, n_else, n_fi, n_while, n_again, n_ret, n_end, nodes_e, nodes_s, nodes_bs}
use Rattle.steps.specs.Steps.{Step, s_num, s_copy, s_setw, s_jump, s_jz}
use Rattle.steps.specs.Generate.{Scope, Ref, r_word, r_arr, find, own_at, size_e, size_s, size_b, sets_to, gen_e, gen_v, gen_s, gen_b}
use Rattle.steps.proofs.Statements.{len_s, len_b}
use Rattle.generator.specs.Resolved.{set_top, set_ref}
use Rattle.generator.specs.Emit.{target_at, aim_at, marks, tests, stays, uses, forgets, emit, EmitsBody}
use Rattle.generator.proofs.Waiting.{target-mid, aim-mid, marks-eq, entry_of, above-one, place-one}
use Rattle.generator.proofs.EmitExpr.{runs, AfterV, settle_v, long_v, long_e, run_v}

module _ (Γ : Scope) (b : ℕ) where
  abbrev GoalS : Stmt → Type 0
  GoalS s = (ns : List Node) (o h : ℕ) (r : List Step) → runs Γ b (nodes_s s ns) (marks [] o h r) ≡ runs Γ b ns (marks [] o h (r ++ gen_s Γ s b (h - 1) h (length r)))

  abbrev GoalB : Block → Type 0
  GoalB c = (ns : List Node) (o h : ℕ) (r : List Step) → runs Γ b (nodes_bs c ns) (marks [] o h r) ≡ runs Γ b ns (marks [] o h (r ++ gen_b Γ c b (h - 1) h (length r)))

  do_set : (x : Name) (e : Expr) → GoalS (set1 x e)
  do_set x e ns o h r = run_v Γ b e (n_set x ∷ ns) [] o h r ∙ ap (runs Γ b ns) (go (find Γ.slots x 0 0) (on_some (Γ.top x) as_word) ∙ marks-eq refl refl refl (append_assoc r (gen_e Γ e b (length r)) _))
    where
      go : (f : Option Ref) (w : Option ℕ) → emit b (opt f (set_top w) set_ref) (AfterV Γ b e [] o h r) ≡ marks [] o h ((r ++ gen_e Γ e b (length r)) ++ (opt f (opt w (s_num b 0) (λ i. s_setw i b)) (sets_to b) ∷ []))
      go none none = ap (uses b (λ d. s_num d 0)) (settle_v Γ b e [] o h r)
      go none (some i) = ap (uses b (s_setw i)) (settle_v Γ b e [] o h r)
      go (some (r_word k)) w = ap (uses b (s_copy k)) (settle_v Γ b e [] o h r)
      go (some (r_arr j u)) w = ap (uses b (λ d. s_num d 0)) (settle_v Γ b e [] o h r)

  do_store : (x : Name) (i e : Expr) → GoalS (store1 x i e)
  do_store x i e ns o h r =
      run_v Γ b i (nodes_e false e (n_store x ∷ ns)) [] o h r
      ∙ (run_v Γ b e (n_store x ∷ ns) (entry_of (own_at Γ i) ∷ []) o h (r ++ gen_v Γ i b (length r))
      ∙ ap (runs Γ b ns) (marks-eq refl refl refl
      (rw (above-one (own_at Γ i) b [], place-one (own_at Γ i) b, place-one (own_at Γ e) (suc b), long_v Γ b i b r) (simp append_assoc refl))))

  do_ex : (e : Expr) → GoalS (ex1 e)
  do_ex e ns o h r = run_v Γ b e (n_ex ∷ ns) [] o h r ∙ ap (λ z. runs Γ b ns (forgets z)) (settle_v Γ b e [] o h r)

  do_out : (e : Expr) → GoalS (out1 e)
  do_out e ns o h r = run_v Γ b e (n_out ∷ ns) [] o h r ∙ ap (runs Γ b ns) (marks-eq refl refl refl (rw (place-one (own_at Γ e) b) (simp append_assoc refl)))

  do_ret : (e : Expr) → GoalS (ret1 e)
  do_ret e ns o h r = run_v Γ b e (n_ret ∷ ns) [] o h r ∙ ap (runs Γ b ns) (marks-eq refl refl refl (rw (place-one (own_at Γ e) b) (simp append_assoc refl)))

  do_if : (e : Expr) (c c' : Block) → GoalB c → GoalB c' → GoalS (if1 e c c')
  do_if e c c' F G ns o h r =
      let r1 : List Step = r ++ gen_e Γ e b (length r) in
      let j : List Step = r1 ++ (s_jz b o ∷ []) in
      let lj : length j ≡ suc (length r + size_e Γ e) = length-append r1 (s_jz b o ∷ []) ∙ omega (arith, long_e Γ b e b r) in
      let C : List Step = gen_b Γ c b (h - 1) h (length j) in
      let r2 : List Step = j ++ C in
      let e2 : r2 ≡ r1 ++ (s_jz b o ∷ C) = append_assoc r1 (s_jz b o ∷ []) C in
      let l2 : length r2 ≡ suc (length r + size_e Γ e + size_b Γ c) = length-append j C ∙ omega (arith, lj, len_b c Γ b (h - 1) h (length j)) in
      let t3 : ℕ = length r2 + 1 in
      let lt : t3 ≡ suc (suc (length r + size_e Γ e + size_b Γ c)) = omega (arith, l2) in
      let q : List Step = r1 ++ (s_jz b t3 ∷ C) in
      let lq : length r2 ≡ length q = ap length e2 ∙ (length-append r1 (s_jz b o ∷ C) ∙ sym (length-append r1 (s_jz b t3 ∷ C))) in
      let r3 : List Step = q ++ (s_jump o ∷ []) in
      let l3 : length r3 ≡ suc (suc (length r + size_e Γ e + size_b Γ c)) = length-append q (s_jump o ∷ []) ∙ omega (arith, l2, lq) in
      let D : List Step = gen_b Γ c' b (h - 1) h (length r3) in
      let r4 : List Step = q ++ (s_jump o ∷ D) in
      let e4 : r3 ++ D ≡ r4 = append_assoc q (s_jump o ∷ []) D in
      let l4 : length r4 ≡ length r + size_s Γ (if1 e c c') = length-append q (s_jump o ∷ D) ∙ omega (arith, l2, lq, len_b c' Γ b (h - 1) h (length r3)) in
      run_v Γ b e (n_if ∷ nodes_bs c (n_else ∷ nodes_bs c' (n_fi ∷ ns))) [] o h r
      ∙ (ap (λ z. runs Γ b (nodes_bs c (n_else ∷ nodes_bs c' (n_fi ∷ ns))) (tests b z)) (settle_v Γ b e [] o h r)
      ∙ (F (n_else ∷ nodes_bs c' (n_fi ∷ ns)) (length r1) h j
      ∙ (ap (runs Γ b (nodes_bs c' (n_fi ∷ ns))) (marks-eq refl refl refl
      (ap (λ l. aim_at l (length r1) t3 ++ (s_jump (target_at l (length r1)) ∷ [])) e2
      ∙ rw (aim-mid r1 (s_jz b o) C (length r1) t3 refl, target-mid r1 (s_jz b o) C (length r1) refl) refl))
      ∙ (G (n_fi ∷ ns) (length r2) h r3
      ∙ ap (runs Γ b ns) (marks-eq refl
      (ap (λ l. target_at l (length r2)) e4 ∙ target-mid q (s_jump o) D (length r2) lq)
      refl
      (ap (λ l. aim_at l (length r2) (length l)) e4 ∙ aim-mid q (s_jump o) D (length r2) (length r4) lq
      ∙ rw (l4, l3, lt, lj) (simp append_assoc refl)))))))

  do_while : (e : Expr) (c : Block) → GoalB c → GoalS (while1 e c)
  do_while e c F ns o h r =
      let pc : ℕ = length r in
      let k : ℕ = pc + 2 in
      let lk : k - 1 ≡ pc + 1 = omega arith in
      let r0 : List Step = r ++ (s_jump k ∷ []) in
      let l0 : k - 1 ≡ length r0 = lk ∙ sym (length-append r (s_jump k ∷ [])) in
      let r1 : List Step = r ++ (s_jump k ∷ s_jump h ∷ []) in
      let l1 : length r1 ≡ pc + 2 = length-append r (s_jump k ∷ s_jump h ∷ []) in
      let A : List Step = gen_e Γ e b (length r1) in
      let r2 : List Step = r1 ++ A in
      let r3 : List Step = r2 ++ (s_jz b (k - 1) ∷ []) in
      let l3 : length r3 ≡ suc (pc + 2 + size_e Γ e) = length-append r2 (s_jz b (k - 1) ∷ []) ∙ omega (arith, l1, long_e Γ b e b r1) in
      let C : List Step = gen_b Γ c b (k - 1) k (length r3) in
      let R : List Step = A ++ (s_jz b (k - 1) ∷ C) in
      let r4 : List Step = r0 ++ (s_jump h ∷ R) in
      let e4 : r3 ++ C ≡ r4 = simp append_assoc refl in
      let l4 : length (r3 ++ C) ≡ pc + size_s Γ (while1 e c) - 1 = length-append r3 C ∙ omega (arith, l3, len_b c Γ b (k - 1) k (length r3)) in
      let l5 : length (r3 ++ C) + 1 ≡ pc + size_s Γ (while1 e c) = omega (arith, l4) in
      run_v Γ b e (n_while ∷ nodes_bs c (n_again ∷ ns)) [] o k r1
      ∙ (ap (λ z. runs Γ b (nodes_bs c (n_again ∷ ns)) (stays b z)) (settle_v Γ b e [] o k r1)
      ∙ (F (n_again ∷ ns) o k r3
      ∙ ap (runs Γ b ns) (marks-eq refl refl
      (ap (λ l. target_at l (k - 1)) e4 ∙ target-mid r0 (s_jump h) R (k - 1) l0)
      (ap (λ l. aim_at l (k - 1) (length (r3 ++ C) + 1) ++ (s_jump k ∷ [])) e4
      ∙ rw (aim-mid r0 (s_jump h) R (k - 1) (length (r3 ++ C) + 1) l0, l5, l3, l1, lk) (simp append_assoc refl)))))

  mutual
    pub run_s : (s : Stmt) → GoalS s
    run_s (set1 x e) ns o h r = do_set x e ns o h r
    run_s (store1 x i e) ns o h r = do_store x i e ns o h r
    run_s (ex1 e) ns o h r = do_ex e ns o h r
    run_s (out1 e) ns o h r = do_out e ns o h r
    run_s (if1 e c c') ns o h r = do_if e c c' (run_b c) (run_b c') ns o h r
    run_s (while1 e c) ns o h r = do_while e c (run_b c) ns o h r
    run_s (ret1 e) ns o h r = do_ret e ns o h r
    run_s break1 ns o h r = refl
    run_s next1 ns o h r = refl

    pub run_b : (c : Block) → GoalB c
    run_b end ns o h r = ap (runs Γ b ns) (marks-eq refl refl refl (sym (append-nil r)))
    run_b (seq1 s c) ns o h r =
        let l : length (r ++ gen_s Γ s b (h - 1) h (length r)) ≡ length r + size_s Γ s = length-append r (gen_s Γ s b (h - 1) h (length r)) ∙ ap (λ n. length r + n) (len_s s Γ b (h - 1) h (length r)) in
        run_s s (nodes_bs c ns) o h r
        ∙ (run_b c ns o h (r ++ gen_s Γ s b (h - 1) h (length r))
        ∙ ap (runs Γ b ns) (marks-eq refl refl refl (rw l (simp append_assoc refl))))

pub emits_body : EmitsBody
emits_body Γ body b = ap (λ z. z.out) (run_b Γ b body (n_end ∷ []) 0 0 [])
