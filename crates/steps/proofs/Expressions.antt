-- Expressions, form by form.
use Rattle.std.proofs.Common.{◌≡◌, ℕ, zero, suc, ◌+◌, ◌-◌, ◌<◌, ◌≤◌, Bool, true, false, not, eqb, List, [], ◌∷◌, ◌++◌, length, sym, refl, ap, ◌∙◌, subst, append_assoc, append-nil, add-zero, arith, length-append, eqb-true}
use mathlib.Core.Option.{Option, some, none}
use Rattle.language.specs.Syntax.{pick, opt, nth, Name, Expr, num, var, bin, un, and1, or1, idx, len, call, by_table, input, Exprs, no, and_then, Kind, k_word, k_arr, Fn}
use Rattle.language.specs.Words.{bit}
use Rattle.language.specs.Meaning.{Cells, reads_from, on_val, calls, new_arrs, State, Result, val, vals, trap, Value, word, array, Top, resolve, as_fn, either, with_word, div0, binary, single, t_e, t_es, run}
use Rattle.steps.specs.Steps.{Step, s_bin, s_un, s_table, s_idx, Opnd, args, arrs_at, upto, Places, upd, Saved}
use Rattle.steps.specs.Generate.{Scope, own_at, at_place, unless, size_v, gen_v, the_arr, arr_arg, opnds, count, size_e, size_es, gen_e, gen_es}
use Rattle.steps.proofs.Outcome.{At, at_left, at_right, Cfg, mk, Out, spentd, less}
use Rattle.steps.proofs.Rules.{r_num, r_copy, r_bin, r_bin_trap, r_un, r_flag, r_getw, r_jump, r_jz, r_call, r_table, r_table_trap, r_in, r_in_trap, r_idx, r_idx_trap, r_len}
use Rattle.steps.proofs.Variables.{Keeps, find-lt, some_inj, upd_same, upd_other, none-some, var_get, var_none, wides, nums, arrs_of, kinds, HasAll, fresh-new}
use Rattle.steps.proofs.Match.{Env, Fun, w_e, w_es, WfVar, own, top, WfArr, WfE, WfEs, ArrAt, arr-there, cells-there, Called, Pre, pre-on, Stays, stays_refl, stays_trans, QE, e-done, on_value, Sim, Linked, QEs, es-done, on_values, es-then, on_call}

len-opt : (o : Option Opnd) (a b : List Step) (m n : ℕ) → length a ≡ m → length b ≡ n → length (opt o a (λ z. b)) ≡ opt o m (λ z. n)
len-opt none a b m n h g = h
len-opt (some z) a b m n h g = g

len-un : (o : Option ℕ) (a : List Step) (m : ℕ) → length a ≡ m → length (unless o [] a) ≡ unless o 0 m
len-un none a m h = h
len-un (some k) a m h = refl

mutual
  pub len-e : (e : Expr) (Γ : Scope) (d pc : ℕ) → length (gen_e Γ e d pc) ≡ size_e Γ e
  len-e (num n) Γ d pc = refl
  len-e (var x) Γ d pc = refl
  len-e (bin o a b) Γ d pc = let x = len-un (own_at Γ a) (gen_e Γ a d pc) _ (len-e a Γ d pc) in let y = len-un (own_at Γ b) (gen_e Γ b (suc d) (pc + size_v Γ a)) _ (len-e b Γ (suc d) _) in simp (length-append, x, y) (omega arith)
  len-e (un o a) Γ d pc = let x = len-un (own_at Γ a) (gen_e Γ a d pc) _ (len-e a Γ d pc) in simp (length-append, x) (omega arith)
  len-e (and1 a b) Γ d pc = simp (length-append, len-e a, len-e b) (omega arith)
  len-e (or1 a b) Γ d pc = simp (length-append, len-e a, len-e b) (omega arith)
  len-e (idx x e) Γ d pc = let z = len-un (own_at Γ e) (gen_e Γ e d pc) _ (len-e e Γ d pc) in simp (length-append, z) (omega arith)
  len-e (len x) Γ d pc = refl
  len-e (call x es) Γ d pc = simp (length-append, len_es es) (omega arith)
  len-e (by_table x e es) Γ d pc = let z = len-un (own_at Γ e) (gen_e Γ e d pc) _ (len-e e Γ d pc) in simp (length-append, z, len_es es) (omega arith)
  len-e input Γ d pc = refl

  pub len_es : (es : Exprs) (Γ : Scope) (d pc : ℕ) → length (gen_es Γ es d pc) ≡ size_es Γ es
  len_es no Γ d pc = refl
  len_es (and_then e es) Γ d pc = len-opt (arr_arg Γ e) _ _ _ _ (simp (length-append, len-e e, len_es es)) (len_es es Γ d pc)

pub keeps-upd : (d : ℕ) (ps : Places) (x : ℕ) → Keeps d ps (upd ps d x)
keeps-upd d ps x i h = upd_other ps d x i (omega arith)

pub keeps-set : {d : ℕ} {ps ps1 : Places} (x : ℕ) → Keeps d ps ps1 → Keeps d ps (upd ps1 d x)
keeps-set {d} {ps} {ps1} x k i h = upd_other ps1 d x i (omega arith) ∙ k i h

pub keeps_on : {d e : ℕ} {ps ps1 ps2 : Places} → d ≤ e → Keeps d ps ps1 → Keeps e ps1 ps2 → Keeps d ps ps2
keeps_on l k m i h = m i (omega arith) ∙ k i h

pub nth-some : {A : Type 0} (ws : List A) (i : ℕ) → i < length ws → (n : A) × (nth ws i ≡ some n)
nth-some [] i h = absurd (omega arith)
nth-some (w ∷ ws) zero h = (w, refl)
nth-some (w ∷ ws) (suc i) h = nth-some ws i (omega arith)

w-pos : (e : Expr) → 1 ≤ w_e e
w-pos (num n) = omega arith
w-pos (var x) = omega arith
w-pos (bin o a b) = omega arith
w-pos (un o a) = omega arith
w-pos (and1 a b) = omega arith
w-pos (or1 a b) = omega arith
w-pos (idx x e) = omega arith
w-pos (len x) = omega arith
w-pos (call x es) = omega arith
w-pos (by_table x e es) = omega arith
w-pos input = omega arith

-- code behind an expression's
pub behind : (c : List Step) (Γ : Scope) (e : Expr) (d pc : ℕ) (ys : List Step) → At c pc (gen_e Γ e d pc ++ ys) → At c (pc + size_e Γ e) ys
behind c Γ e d pc ys h = at_right c pc (gen_e Γ e d pc) ys (size_e Γ e) (len-e e Γ d pc) h

pub front : (c : List Step) (Γ : Scope) (e : Expr) (d pc : ℕ) (ys : List Step) → At c pc (gen_e Γ e d pc ++ ys) → At c pc (gen_e Γ e d pc)
front c Γ e d pc ys h = at_left c pc (gen_e Γ e d pc) ys h

pub len_v : (e : Expr) (Γ : Scope) (d pc : ℕ) → length (gen_v Γ e d pc) ≡ size_v Γ e
len_v e Γ d pc = len-un (own_at Γ e) (gen_e Γ e d pc) (size_e Γ e) (len-e e Γ d pc)

pub behind_v : (c : List Step) (Γ : Scope) (e : Expr) (d pc : ℕ) (ys : List Step) → At c pc (gen_v Γ e d pc ++ ys) → At c (pc + size_v Γ e) ys
behind_v c Γ e d pc ys h = at_right c pc (gen_v Γ e d pc) ys (size_v Γ e) (len-un (own_at Γ e) (gen_e Γ e d pc) (size_e Γ e) (len-e e Γ d pc)) h

pub front_v : (c : List Step) (Γ : Scope) (e : Expr) (d pc : ℕ) (ys : List Step) → At c pc (gen_v Γ e d pc ++ ys) → At c pc (gen_v Γ e d pc)
front_v c Γ e d pc ys h = at_left c pc (gen_v Γ e d pc) ys h

own-var : (v : Env) (c : Fun) (d pc : ℕ) (ps : Places) (st : List Saved) (s : State) → Pre v c d ps s → {Q : Cfg → Result → Type 0} (f : Value → State → Result) (x : Name) (D n : ℕ) → D ≤ n - 1 → (k : ℕ) → own_at c.Γ (var x) ≡ some k → WfVar v c x → ((y : ℕ) → ps k ≡ some y → k < d → Out v.P v.W Q D (mk c.j (pc + 0) ps st s) (f (word y) s)) → Out v.P v.W Q D (mk c.j pc ps st s) (on_val (run v.p n c.file (t_e (var x)) s) f)
own-var v c d pc ps st s pre f x D n l k o (top t i e r a z q) g = absurd (none-some (rw e at o))
own-var v c d pc ps st s pre f x D zero l k o (own i e) g = spentd (omega arith)
own-var v c d pc ps st s pre f x D (suc n) l k o (own i e) g =
    let q : i ≡ k = some_inj (rw e at o) in let u = var_get c.j.arrs c.ws c.Γ.slots s.vars ps x pre.vars i e in let b = find-lt c.Γ.slots x 0 0 i e in
    rw u.1 (rw add-zero at (g u.0 (ap ps (sym q) ∙ u.2) (omega (arith, pre.room))))

-- an operand: in place d, or where it stood
module _ (v : Env) (n : ℕ) (ih : Sim v n) (c : Fun) (d pc : ℕ) (ps : Places) (st : List Saved) (s : State) (pre : Pre v c d ps s) where
  own_operand : {Q : Cfg → Result → Type 0} (f : Value → State → Result) (e : Expr) (D : ℕ) → D ≤ n - 1 → (k : ℕ) → own_at c.Γ e ≡ some k → WfE v c e → ((x : ℕ) → ps k ≡ some x → k < d → Out v.P v.W Q D (mk c.j (pc + 0) ps st s) (f (word x) s)) → Out v.P v.W Q D (mk c.j pc ps st s) (on_val (run v.p n c.file (t_e e) s) f)
  own_operand f (num i) D l k o w z = absurd (none-some o)
  own_operand f (var x) D l k o w z = own-var v c d pc ps st s pre f x D n l k o w z
  own_operand f (bin u a b) D l k o w z = absurd (none-some o)
  own_operand f (un u a) D l k o w z = absurd (none-some o)
  own_operand f (and1 a b) D l k o w z = absurd (none-some o)
  own_operand f (or1 a b) D l k o w z = absurd (none-some o)
  own_operand f (idx x a) D l k o w z = absurd (none-some o)
  own_operand f (len x) D l k o w z = absurd (none-some o)
  own_operand f (call x es) D l k o w z = absurd (none-some o)
  own_operand f (by_table x a es) D l k o w z = absurd (none-some o)
  own_operand f input D l k o w z = absurd (none-some o)

  pub on_operand : {Q : Cfg → Result → Type 0} (f : Value → State → Result) (e : Expr) (D : ℕ) → D ≤ n - w_e e → WfE v c e → At c.G.code pc (gen_v c.Γ e d pc) → ((x : ℕ) (s1 : State) (ps1 : Places) → Stays s s1 → Keeps d ps ps1 → ps1 (at_place c.Γ e d) ≡ some x → at_place c.Γ e d < suc d → Out v.P v.W Q D (mk c.j (pc + size_v c.Γ e) ps1 st s1) (f (word x) s1)) → Out v.P v.W Q D (mk c.j pc ps st s) (on_val (run v.p n c.file (t_e e) s) f)
  on_operand {Q} f e D l w at z = go (own_at c.Γ e) refl at z
    where
      go : (o : Option ℕ) → own_at c.Γ e ≡ o → At c.G.code pc (unless o [] (gen_e c.Γ e d pc)) → ((x : ℕ) (s1 : State) (ps1 : Places) → Stays s s1 → Keeps d ps ps1 → ps1 (opt o d (λ k. k)) ≡ some x → opt o d (λ k. k) < suc d → Out v.P v.W Q D (mk c.j (pc + unless o 0 (size_e c.Γ e)) ps1 st s1) (f (word x) s1)) → Out v.P v.W Q D (mk c.j pc ps st s) (on_val (run v.p n c.file (t_e e) s) f)
      go none h a k = on_value f (less _ l (ih.e c e d pc ps st s pre w a)) (λ x s1 ps1 y q r. k x s1 ps1 y q r (omega arith))
      go (some i) h a k = own_operand f e D (omega (arith, w-pos e)) i h w (λ x r lt. k x s ps (stays_refl s) (λ j u. refl) r (omega arith))

module _ (v : Env) (n : ℕ) (ih : Sim v n) (c : Fun) (d pc : ℕ) (ps : Places) (st : List Saved) (s : State) (pre : Pre v c d ps s) where
  abbrev Goal : Expr → Type 0
  Goal e = WfE v c e → At c.G.code pc (gen_e c.Γ e d pc) → Out v.P v.W (QE c.j (pc + size_e c.Γ e) d ps st s) (suc n - w_e e) (mk c.j pc ps st s) (run v.p (suc n) c.file (t_e e) s)

  pub sim_num : (k : ℕ) → Goal (num k)
  sim_num k w at = r_num pre.here at.0 (e-done _ _ (omega arith) (stays_refl s) (keeps-upd d ps k) (upd_same ps d k))

  pub sim_un : (o : ℕ) (a : Expr) → Goal (un o a)
  sim_un o a w at =
      on_operand v n ih c d pc ps st s pre _ a _ (omega arith) w (front_v c.G.code c.Γ a d pc (s_un o d (at_place c.Γ a d) ∷ []) at) λ x s1 ps1 y k h la.
      r_un pre.here (behind_v c.G.code c.Γ a d pc (s_un o d (at_place c.Γ a d) ∷ []) at).0 h (e-done _ _ (omega arith) y (keeps-set _ k) (upd_same ps1 d (single o x)))

  pub sim_var : (x : Name) → Goal (var x)
  sim_var x (own k e) at = let g = var_get c.j.arrs c.ws c.Γ.slots s.vars ps x pre.vars k e in rw g.1 (r_copy pre.here (rw e at at.0) g.2 (e-done _ _ (omega arith) (stays_refl s) (keeps-upd d ps g.0) (upd_same ps d g.0)))
  sim_var x (top t i e r a z l) at = let b = var_none c.j.arrs c.ws c.Γ.slots s.vars ps x pre.vars e in let g = nth-some s.words i (omega (arith, pre.words)) in rw (b, r, a, g.1) (r_getw pre.here (rw (e, z, a) at at.0) g.1 (e-done _ _ (omega arith) (stays_refl s) (keeps-upd d ps g.0) (upd_same ps d g.0)))

  pub sim_bin : (o : ℕ) (a b : Expr) → Goal (bin o a b)
  sim_bin o a b w at =
      on_operand v n ih c d pc ps st s pre _ a _ (omega arith) w.0 (front_v c.G.code c.Γ a d pc (gen_v c.Γ b (suc d) (pc + size_v c.Γ a) ++ (step ∷ [])) at) λ x s1 ps1 y k h la.
      on_operand v n ih c (suc d) (pc + size_v c.Γ a) ps1 st s1 (pre-on (suc d) ps1 pre y k (omega arith)) _ b _ (omega arith) w.1 (front_v c.G.code c.Γ b (suc d) (pc + size_v c.Γ a) (step ∷ []) (behind_v c.G.code c.Γ a d pc (gen_v c.Γ b (suc d) (pc + size_v c.Γ a) ++ (step ∷ [])) at)) λ z s2 ps2 y2 k2 h2 lb.
      last x z s2 ps2 (stays_trans y y2) (keeps_on (omega arith) k k2) (k2 (at_place c.Γ a d) la ∙ h) h2 (div0 o z) refl
    where
      step : Step
      step = s_bin o d (at_place c.Γ a d) (at_place c.Γ b (suc d))

      code : nth c.G.code ((pc + size_v c.Γ a) + size_v c.Γ b) ≡ some step
      code = (behind_v c.G.code c.Γ b (suc d) (pc + size_v c.Γ a) (step ∷ []) (behind_v c.G.code c.Γ a d pc (gen_v c.Γ b (suc d) (pc + size_v c.Γ a) ++ (step ∷ [])) at)).0

      last : (x z : ℕ) (s2 : State) (ps2 : Places) → Stays s s2 → Keeps d ps ps2 → ps2 (at_place c.Γ a d) ≡ some x → ps2 (at_place c.Γ b (suc d)) ≡ some z → (t : Bool) → div0 o z ≡ t → Out v.P v.W (QE c.j (pc + size_e c.Γ (bin o a b)) d ps st s) (suc n - w_e (bin o a b)) (mk c.j ((pc + size_v c.Γ a) + size_v c.Γ b) ps2 st s2) (pick t (trap 2 s2) (val (word (binary o x z)) s2))
      last x z s2 ps2 y k h h2 true e = r_bin_trap pre.here code h h2 e
      last x z s2 ps2 y k h h2 false e = r_bin pre.here code h h2 e (e-done _ _ (omega arith) y (keeps-set _ k) (upd_same ps2 d (binary o x z)))

  pub sim_and : (a b : Expr) → Goal (and1 a b)
  sim_and a b w at =
      on_value _ (less _ (omega arith) (ih.e c a d pc ps st s pre w.0 (front _ _ a d pc _ at))) λ x s1 ps1 y k h.
      r_jz pre.here (behind _ _ a d pc _ at).0 h (next x s1 ps1 y k h (eqb x 0) refl)
    where
      next : (x : ℕ) (s1 : State) (ps1 : Places) → Stays s s1 → Keeps d ps ps1 → ps1 d ≡ some x → (t : Bool) → eqb x 0 ≡ t → Out v.P v.W (QE c.j (pc + size_e c.Γ (and1 a b)) d ps st s) ((suc n - w_e (and1 a b)) - v.W) (mk c.j (pick t (pc + size_e c.Γ (and1 a b)) (suc (pc + size_e c.Γ a))) ps1 st s1) (either t (val (word 0)) (λ s0. on_val (run v.p n c.file (t_e b) s0) (λ u s2. with_word u (λ z. val (word (bit (not (eqb z 0)))) s2))) s1)
      next x s1 ps1 y k h true e = e-done _ _ refl y k (h ∙ ap some (eqb-true x 0 e))
      next x s1 ps1 y k h false e =
          on_value _ (less _ (omega arith) (ih.e c b d (suc (pc + size_e c.Γ a)) ps1 st s1 (pre-on d ps1 pre y k (omega arith)) w.1 (front _ _ b d _ _ (behind _ _ a d pc _ at).1))) λ z s2 ps2 y2 k2 h2.
          r_flag pre.here (behind _ _ b d _ _ (behind _ _ a d pc _ at).1).0 h2 (e-done _ _ (omega arith) (stays_trans y y2) (keeps-set _ (keeps_on (omega arith) k k2)) (upd_same ps2 d _))

  pub sim_or : (a b : Expr) → Goal (or1 a b)
  sim_or a b w at =
      on_value _ (less _ (omega arith) (ih.e c a d pc ps st s pre w.0 (front _ _ a d pc _ at))) λ x s1 ps1 y k h.
      r_jz pre.here (behind _ _ a d pc _ at).0 h (next x s1 ps1 y k h (eqb x 0) refl)
    where
      next : (x : ℕ) (s1 : State) (ps1 : Places) → Stays s s1 → Keeps d ps ps1 → ps1 d ≡ some x → (t : Bool) → eqb x 0 ≡ t → Out v.P v.W (QE c.j (pc + size_e c.Γ (or1 a b)) d ps st s) ((suc n - w_e (or1 a b)) - v.W) (mk c.j (pick t (suc (suc (suc (pc + size_e c.Γ a)))) (suc (pc + size_e c.Γ a))) ps1 st s1) (either t (λ s0. on_val (run v.p n c.file (t_e b) s0) (λ u s2. with_word u (λ z. val (word (bit (not (eqb z 0)))) s2))) (val (word 1)) s1)
      next x s1 ps1 y k h true e =
          on_value _ (less _ (omega arith) (ih.e c b d (suc (suc (suc (pc + size_e c.Γ a)))) ps1 st s1 (pre-on d ps1 pre y k (omega arith)) w.1 (front _ _ b d _ _ (behind _ _ a d pc _ at).1.1.1))) λ z s2 ps2 y2 k2 h2.
          r_flag pre.here (behind _ _ b d _ _ (behind _ _ a d pc _ at).1.1.1).0 h2 (e-done _ _ (omega arith) (stays_trans y y2) (keeps-set _ (keeps_on (omega arith) k k2)) (upd_same ps2 d _))
      next x s1 ps1 y k h false e = r_num pre.here (behind _ _ a d pc _ at).1.0 (r_jump pre.here (behind _ _ a d pc _ at).1.1.0 (e-done _ _ refl y (keeps-set _ k) (upd_same ps1 d 1)))

  pub sim_in : Goal input
  sim_in w at = go s.ins refl
    where
      go : (xs : List ℕ) → s.ins ≡ xs → Out v.P v.W (QE c.j (pc + 1) d ps st s) (suc n - 1) (mk c.j pc ps st s) (reads_from xs s)
      go [] e = r_in_trap pre.here at.0 e
      go (x ∷ xs) e = r_in pre.here _ at.0 e refl (e-done _ _ (omega arith) (record { vars = refl; held = refl; words = refl; arrays = refl }) (keeps-upd d ps x) (upd_same ps d x))

  pub sim_len : (x : Name) → Goal (len x)
  sim_len x w at =
      let a = arr-there x w.0 pre w.1 in let cs = cells-there pre a in
      rw (a.got, cs.1) (r_len pre.here (rw a.op at at.0) a.at cs.1 (e-done _ _ (omega arith) (stays_refl s) (keeps-upd d ps _) (upd_same ps d _)))

  pub sim_idx : (x : Name) (e : Expr) → Goal (idx x e)
  sim_idx x e w at =
      on_operand v n ih c d pc ps st s pre _ e _ (omega arith) w.1 (front_v c.G.code c.Γ e d pc (step ∷ []) at) λ i s1 ps1 y k h le.
      let q = pre-on d ps1 pre y k (omega arith) in let a = arr-there x w.0.0 q w.0.1 in let cs = cells-there q a in
      rw (a.got, cs.1) (last i s1 ps1 y k h a cs.0 cs.1 (nth cs.0.cells i) refl)
    where
      step : Step
      step = s_idx d (the_arr c.Γ x) (at_place c.Γ e d)

      code : nth c.G.code (pc + size_v c.Γ e) ≡ some step
      code = (behind_v c.G.code c.Γ e d pc (step ∷ []) at).0

      last : (i : ℕ) (s1 : State) (ps1 : Places) → Stays s s1 → Keeps d ps ps1 → ps1 (at_place c.Γ e d) ≡ some i → (a : ArrAt v c x w.0.0 s1) (cs : Cells) → nth s1.arrays a.a ≡ some cs → (o : Option ℕ) → nth cs.cells i ≡ o → Out v.P v.W (QE c.j (pc + size_e c.Γ (idx x e)) d ps st s) (suc n - w_e (idx x e)) (mk c.j (pc + size_v c.Γ e) ps1 st s1) (opt o (trap 1 s1) (λ n. val (word n) s1))
      last i s1 ps1 y k h a cs hc none u = r_idx_trap pre.here (rw a.op at code) h a.at hc u
      last i s1 ps1 y k h a cs hc (some z) u = r_idx pre.here (rw a.op at code) h a.at hc u (e-done _ _ (omega arith) y (keeps-set _ k) (upd_same ps1 d z))

-- arguments
module _ (v : Env) (c : Fun) (d pc : ℕ) (ps : Places) (st : List Saved) (s : State) (vs : List Value) (pre : Pre v c d ps s) where
  abbrev Goals : ℕ → Exprs → List Kind → Type 0
  Goals n es ks = WfEs v c es ks → At c.G.code pc (gen_es c.Γ es d pc) → Out v.P v.W (QEs c.j (pc + size_es c.Γ es) d (count c.Γ es) (opnds c.Γ es) ks c.ws vs ps st s) (n - w_es es) (mk c.j pc ps st s) (run v.p n c.file (t_es es vs) s)

  pub sim_no : (n : ℕ) → Goals (suc n) no []
  sim_no n w at = subst (λ l. Out v.P v.W (QEs c.j (pc + 0) d 0 [] [] c.ws vs ps st s) (suc n - 1) (mk c.j pc ps st s) (vals l s)) (append-nil vs) (es-done _ _ [] (omega arith) tt (stays_refl s) (λ i h. refl) refl refl)

  pub sim_word_arg : (n : ℕ) → Sim v n → (a : Expr) (es : Exprs) (ks : List Kind) → Goals (suc n) (and_then a es) (k_word ∷ ks)
  sim_word_arg n ih a es ks w at0 =
      let at : At c.G.code pc (gen_e c.Γ a d pc ++ gen_es c.Γ es (suc d) (pc + size_e c.Γ a)) = rw w.0 at at0 in
      rw w.0
      (on_value _ (less _ (omega arith) (ih.e c a d pc ps st s pre w.1 (front _ _ a d pc _ at))) λ x s1 ps1 y z h.
      es-then (less _ (omega arith) (ih.es c es ks (suc d) (pc + size_e c.Γ a) ps1 st s1 (vs ++ (word x ∷ [])) (pre-on (suc d) ps1 pre y z (omega arith)) w.2 (behind _ _ a d pc _ at))) λ us s2 ps2 ha y2 z2 hx hs.
      let hd : ps2 d ≡ some x = z2 d (omega arith) ∙ h in
      rw (append_assoc vs (word x ∷ []) us) (es-done _ _ (word x ∷ us) (omega arith) (tt, ha) (stays_trans y y2) (keeps_on (omega arith) z z2) (rw (hd, hx)) hs))

  sim_arr_var : (n : ℕ) → Sim v (suc n) → (x : Name) (es : Exprs) (k : Bool) (ks : List Kind) → WfArr v c x k → WfEs v c es ks → At c.G.code pc (gen_es c.Γ (and_then (var x) es) d pc) → Out v.P v.W (QEs c.j (pc + size_es c.Γ (and_then (var x) es)) d (count c.Γ (and_then (var x) es)) (opnds c.Γ (and_then (var x) es)) (k_arr k ∷ ks) c.ws vs ps st s) (suc (suc n) - w_es (and_then (var x) es)) (mk c.j pc ps st s) (run v.p (suc (suc n)) c.file (t_es (and_then (var x) es) vs) s)
  sim_arr_var n ih x es k ks wa we at =
      let q = arr-there x k pre wa in
      rw (q.op, q.found)
      (es-then (less _ (omega arith) (ih.es c es ks d pc ps st s (vs ++ (array q.a ∷ [])) pre we (rw q.op at at))) λ us s2 ps2 ha y2 z2 hx hs.
      rw (append_assoc vs (array q.a ∷ []) us) (es-done _ _ (array q.a ∷ us) refl (q.width, ha) y2 z2 hx (rw (q.at, hs))))

  pub sim_arr_arg : (n : ℕ) → Sim v n → (a : Expr) (es : Exprs) (w : Bool) (ks : List Kind) → Goals (suc n) (and_then a es) (k_arr w ∷ ks)
  sim_arr_arg zero ih a es k ks w at = spentd (omega arith)
  sim_arr_arg (suc n) ih a es k ks w at = subst (λ e. At c.G.code pc (gen_es c.Γ (and_then e es) d pc) → Out v.P v.W (QEs c.j (pc + size_es c.Γ (and_then e es)) d (count c.Γ (and_then e es)) (opnds c.Γ (and_then e es)) (k_arr k ∷ ks) c.ws vs ps st s) (suc (suc n) - w_es (and_then e es)) (mk c.j pc ps st s) (run v.p (suc (suc n)) c.file (t_es (and_then e es) vs) s)) (sym w.0.1) (sim_arr_var n ih w.0.0 es k ks w.0.2 w.1) at

-- a call; where the meaning is followed no further its arguments aren't either
module _ (v : Env) (L : Linked v) (c : Fun) where
  -- what stands behind the name of a function
  abbrev callee : (f x : Name) (t : Top) (g : Fn) → resolve v.p f x ≡ some t → as_fn t ≡ some g → List Value → State → Fun
  callee f x t g r a us s = let k = L.fn f x t g r a in record { file = t.file; Γ = k.0; j = record { fn = v.no f x; arrs = arrs_of us ++ upto (length s.arrays) k.1.own }; G = k.1; ws = wides (s.arrays ++ new_arrs g.arrs) }

  called : {d : ℕ} {ps : Places} (s : State) (f x : Name) (t : Top) (g : Fn) (r : resolve v.p f x ≡ some t) (a : as_fn t ≡ some g) (us : List Value) (ks : List Kind) → Pre v c d ps s → HasAll c.ws us ks → kinds g.params ≡ ks → Called v g (callee f x t g r a us s) us s
  called s f x t g r a us ks pre h e = record { fn = (L.fn f x t g r a).2 _ _; words = pre.words; fits = rw (pre.arrays, e) h; base = λ u w z. ap (λ l. nth l u) pre.arrays ∙ pre.base u w z; arrs = refl; ws = refl }

module _ (v : Env) (L : Linked v) (c : Fun) (d pc : ℕ) (ps : Places) (st : List Saved) (s : State) (pre : Pre v c d ps s) where
  pub sim_call : (x : Name) (es : Exprs) → WfE v c (call x es) → At c.G.code pc (gen_e c.Γ (call x es) d pc) → (n : ℕ) → Sim v n → Out v.P v.W (QE c.j (pc + size_e c.Γ (call x es)) d ps st s) (suc n - w_e (call x es)) (mk c.j pc ps st s) (run v.p (suc n) c.file (t_e (call x es)) s)
  sim_call x es w at zero ih = spentd (omega arith)
  sim_call x es w at (suc n) ih =
      on_values _ (less _ (omega arith) (ih.es c es w.0 d pc ps st s [] pre w.3 (at_left _ pc (gen_es c.Γ es d pc) _ at))) λ us s1 ps1 ha y k hx hs.
      let t = w.1.0 in let g = w.1.1 in let r = w.1.2 in let a = w.1.3 in
      let q = pre-on d ps1 pre y k (omega arith) in
      let C = called v L c s1 c.file x t g r a us w.0 q ha w.1.4 in
      let fr : Saved = record { act = c.j; pc = suc (pc + size_es c.Γ es); places = ps1; dest = d } in
      let code = at_right _ pc (gen_es c.Γ es d pc) _ (size_es c.Γ es) (len_es es c.Γ d pc) at in
      rw (r, a) (r_call pre.here g us (rw w.2 at code.0) C.fn.here hx hs C.fn.costs (rw C.fn.own (fresh-new g.arrs))
      (on_call (less _ (omega (arith, C.fn.light)) (ih.c (omega arith) (callee v L c c.file x t g r a us s1) g us fr st s1 C)) λ z s2 y2.
      e-done _ _ (omega arith) (stays_trans y y2) (keeps-set _ k) (upd_same ps1 d z)))

  pub sim_table : (x : Name) (e : Expr) (es : Exprs) → WfE v c (by_table x e es) → At c.G.code pc (gen_e c.Γ (by_table x e es) d pc) → (n : ℕ) → Sim v n → Out v.P v.W (QE c.j (pc + size_e c.Γ (by_table x e es)) d ps st s) (suc n - w_e (by_table x e es)) (mk c.j pc ps st s) (run v.p (suc n) c.file (t_e (by_table x e es)) s)
  sim_table x e es w at zero ih = spentd (omega arith)
  sim_table x e es w at (suc n) ih =
      on_operand v (suc n) ih c d pc ps st s pre _ e _ (omega arith) w.2 (front_v c.G.code c.Γ e d pc rest at) λ i s1 ps1 y k h l.
      on_values _ (less _ (omega arith) (ih.es c es w.0 (suc d) (pc + size_v c.Γ e) ps1 st s1 [] (pre-on (suc d) ps1 pre y k (omega arith)) w.3 (at_left _ _ (gen_es c.Γ es (suc d) _) _ (behind_v c.G.code c.Γ e d pc rest at)))) λ us s2 ps2 ha y2 k2 hx hs.
      rw (w.1.2, w.1.3) (last i us s2 ps2 ha (stays_trans y y2) (keeps_on (omega arith) k k2) (k2 (at_place c.Γ e d) l ∙ h) hx hs (nth w.1.1 i) refl)
    where
      rest : List Step
      rest = gen_es c.Γ es (suc d) (pc + size_v c.Γ e) ++ (s_table d (at_place c.Γ e d) (c.Γ.table_no x) (suc d) (count c.Γ es) (opnds c.Γ es) ∷ [])

      code : nth c.G.code ((pc + size_v c.Γ e) + size_es c.Γ es) ≡ some (s_table d (at_place c.Γ e d) (c.Γ.table_no x) (suc d) (count c.Γ es) (opnds c.Γ es))
      code = (at_right _ (pc + size_v c.Γ e) (gen_es c.Γ es (suc d) (pc + size_v c.Γ e)) _ (size_es c.Γ es) (len_es es c.Γ (suc d) (pc + size_v c.Γ e)) (behind_v c.G.code c.Γ e d pc rest at)).0

      last : (i : ℕ) (us : List Value) (s2 : State) (ps2 : Places) → HasAll c.ws us w.0 → Stays s s2 → Keeps d ps ps2 → ps2 (at_place c.Γ e d) ≡ some i → args ps2 (suc d) (count c.Γ es) ≡ some (nums us) → arrs_at c.j.arrs (opnds c.Γ es) ≡ some (arrs_of us) → (o : Option Name) → nth w.1.1 i ≡ o → Out v.P v.W (QE c.j (pc + size_e c.Γ (by_table x e es)) d ps st s) (suc (suc n) - w_e (by_table x e es)) (mk c.j ((pc + size_v c.Γ e) + size_es c.Γ es) ps2 st s2) (opt o (trap 1 s2) (λ g. calls (λ g u r. run v.p (suc n) g u r) v.p w.1.0.file g us s2))
      last i us s2 ps2 ha y k h hx hs none z = r_table_trap pre.here code h w.1.4 (L.nos_none w.1.0.file w.1.1 i z)
      last i us s2 ps2 ha y k h hx hs (some f) z =
          let b = w.1.5 i f z in
          let t = b.0 in let g = b.1 in let r = b.2 in let a = b.3 in
          let q = pre-on d ps2 pre y k (omega arith) in
          let C = called v L c s2 w.1.0.file f t g r a us w.0 q ha b.4 in
          let fr : Saved = record { act = c.j; pc = suc ((pc + size_v c.Γ e) + size_es c.Γ es); places = ps2; dest = d } in
          rw (r, a) (r_table pre.here g us code h w.1.4 (L.nos w.1.0.file w.1.1 i f z) C.fn.here hx hs C.fn.costs (rw C.fn.own (fresh-new g.arrs))
          (on_call (less _ (omega (arith, C.fn.light)) (ih.c (omega arith) (callee v L c w.1.0.file f t g r a us s2) g us fr st s2 C)) λ u s3 y3.
          e-done _ _ (omega arith) (stays_trans y y3) (keeps-set _ k) (upd_same ps2 d u)))
