-- Statements, form by form; blocks; calls.
use Rattle.std.proofs.Common.{◌≡◌, ℕ, zero, suc, ◌+◌, ◌-◌, ◌%◌, ◌≤◌, Bool, true, false, eqb, List, [], ◌∷◌, ◌++◌, length, sym, refl, ap, ◌∙◌, subst, arith, length-append}
use mathlib.Core.Option.{Option, some, none}
use Rattle.language.specs.Syntax.{pick, opt, nth, put, Name, Expr, Stmt, set1, store1, ex1, out1, if1, while1, ret1, break1, next1, Block, end, seq1}
use Rattle.language.specs.Meaning.{on_fine, on_round, either, with_arrays, Cells, assigns, State, Result, fine, broke, goes_on, gives, trap, Value, word, t_s, t_b, run}
use Rattle.steps.specs.Steps.{Step, s_jump, s_jz, s_out, s_put, s_ret, Places, Saved}
use Rattle.steps.specs.Generate.{at_place, size_v, gen_v, Scope, wide_of, the_arr, gen_set, size_e, size_s, size_b, gen_e, gen_s, gen_b}
use Rattle.steps.proofs.Outcome.{At, at_left, at_right, Cfg, mk, Out, done, less, bind, Passes}
use Rattle.steps.proofs.Rules.{r_set, r_setw, r_jump, r_jz, r_out, r_put, r_put_trap}
use Rattle.steps.proofs.Variables.{var_get, var_none, var_set, wides-put}
use Rattle.steps.proofs.Match.{Env, Fun, w_s, w_b, WfVar, own, top, ArrAt, arr-there, cells-there, WfS, WfB, Pre, pre-on, stays_trans, on_value, QS, q_fine, q_broke, q_next, q_gives, Sim}
use Rattle.steps.proofs.Expressions.{len-e, front, behind, keeps_on, len_v, front_v, behind_v, on_operand}

mutual
  pub len_s : (a : Stmt) (Γ : Scope) (d k m pc : ℕ) → length (gen_s Γ a d k m pc) ≡ size_s Γ a
  len_s (set1 x e) Γ d k m pc = simp (length-append, len-e) (omega arith)
  len_s (store1 x i e) Γ d k m pc = let a = len_v i Γ d pc in let b = len_v e Γ (suc d) (pc + size_v Γ i) in simp (length-append, a, b) (omega arith)
  len_s (ex1 e) Γ d k m pc = simp len-e
  len_s (out1 e) Γ d k m pc = let a = len_v e Γ d pc in simp (length-append, a) (omega arith)
  len_s (if1 e a b) Γ d k m pc = simp (length-append, len-e, len_b a, len_b b) (omega arith)
  len_s (while1 e b) Γ d k m pc = simp (length-append, len-e, len_b b) (omega arith)
  len_s (ret1 e) Γ d k m pc = let a = len_v e Γ d pc in simp (length-append, a) (omega arith)
  len_s break1 Γ d k m pc = refl
  len_s next1 Γ d k m pc = refl

  pub len_b : (b : Block) (Γ : Scope) (d k m pc : ℕ) → length (gen_b Γ b d k m pc) ≡ size_b Γ b
  len_b end Γ d k m pc = refl
  len_b (seq1 a b) Γ d k m pc = simp (length-append, len_s a, len_b b)

pub s-fine : {v : Env} {c : Fun} {l : Bool} {D d brk nxt : ℕ} {st : List Saved} {s s1 : State} {ps1 : Places} (i q : ℕ) → i ≡ q → Pre v c d ps1 s1 → s1.held ≡ s.held → Out v.P v.W (QS v c l d q brk nxt st s) D (mk c.j i ps1 st s1) (fine s1)
s-fine i q e h k = rw e (done (q_fine _ _ h k))

-- behind statements that began later in the same frame
pub s-later : {v : Env} {c : Fun} {l : Bool} {D d brk nxt : ℕ} {st : List Saved} {s s1 : State} {m : Cfg} {r : Result} (i q : ℕ) → i ≡ q → s1.held ≡ s.held → Out v.P v.W (QS v c l d i brk nxt st s1) D m r → Out v.P v.W (QS v c l d q brk nxt st s) D m r
s-later {v} {c} {l} {D} {d} {brk} {nxt} {st} {s} {s1} i q e k o = bind (λ r. r) (record { traps = λ c s. refl; spents = λ s. refl }) go o
  where
    go : (m1 : Cfg) (r1 : Result) → QS v c l d i brk nxt st s1 m1 r1 → Out v.P v.W (QS v c l d q brk nxt st s) D m1 r1
    go m1 r1 (q_fine s2 ps2 h z) = s-fine _ _ e h (z ∙ k)
    go m1 r1 (q_broke s2 ps2 a h z) = done (q_broke s2 ps2 a h (z ∙ k))
    go m1 r1 (q_next s2 ps2 a h z) = done (q_next s2 ps2 a h (z ∙ k))
    go m1 r1 (q_gives x a u s2 ps2 hc hx h z) = done (q_gives x a u s2 ps2 hc hx h (z ∙ k))

-- then: what follows where they are through; F passes the rest on
pub record PassesS (F : Result → Result) : Type 0 where
  pub pass : Passes F
  pub brokes : (s : State) → F (broke s) ≡ broke s
  pub nexts : (s : State) → F (goes_on s) ≡ goes_on s
  pub giveses : (x : Value) (s : State) → F (gives x s) ≡ gives x s

pub on_through : {v : Env} {c : Fun} {l : Bool} {D d brk nxt : ℕ} {st : List Saved} {s s1 : State} {m : Cfg} {r : Result} (i q : ℕ) (F : Result → Result) → PassesS F → s1.held ≡ s.held → Out v.P v.W (QS v c l d i brk nxt st s1) D m r → ((s2 : State) (ps2 : Places) → Pre v c d ps2 s2 → s2.held ≡ s.held → Out v.P v.W (QS v c l d q brk nxt st s) D (mk c.j i ps2 st s2) (F (fine s2))) → Out v.P v.W (QS v c l d q brk nxt st s) D m (F r)
on_through {v} {c} {l} {D} {d} {brk} {nxt} {st} {s} {s1} i q F pf k o f = bind F pf.pass go o
  where
    go : (m1 : Cfg) (r1 : Result) → QS v c l d i brk nxt st s1 m1 r1 → Out v.P v.W (QS v c l d q brk nxt st s) D m1 (F r1)
    go m1 r1 (q_fine s2 ps2 h z) = f s2 ps2 h (z ∙ k)
    go m1 r1 (q_broke s2 ps2 a h z) = rw (pf.brokes s2) (done (q_broke s2 ps2 a h (z ∙ k)))
    go m1 r1 (q_next s2 ps2 a h z) = rw (pf.nexts s2) (done (q_next s2 ps2 a h (z ∙ k)))
    go m1 r1 (q_gives x a u s2 ps2 hc hx h z) = rw (pf.giveses (word x) s2) (done (q_gives x a u s2 ps2 hc hx h (z ∙ k)))

pub id_passes : PassesS (λ r. r)
id_passes = record { pass = record { traps = λ c s. refl; spents = λ s. refl }; brokes = λ s. refl; nexts = λ s. refl; giveses = λ x s. refl }

pub fine_passes : (f : State → Result) → PassesS (λ r. on_fine r f)
fine_passes f = record { pass = record { traps = λ c s. refl; spents = λ s. refl }; brokes = λ s. refl; nexts = λ s. refl; giveses = λ x s. refl }

pub length-put : {A : Type 0} (ws : List A) (i : ℕ) (x : A) → length (put ws i x) ≡ length ws
length-put [] i x = refl
length-put (w ∷ ws) zero x = refl
length-put (w ∷ ws) (suc i) x = ap suc (length-put ws i x)

pub behind_b : (c : List Step) (Γ : Scope) (b : Block) (d k m pc : ℕ) (ys : List Step) → At c pc (gen_b Γ b d k m pc ++ ys) → At c (pc + size_b Γ b) ys
behind_b c Γ b d k m pc ys h = at_right c pc (gen_b Γ b d k m pc) ys (size_b Γ b) (len_b b Γ d k m pc) h

pub front_b : (c : List Step) (Γ : Scope) (b : Block) (d k m pc : ℕ) (ys : List Step) → At c pc (gen_b Γ b d k m pc ++ ys) → At c pc (gen_b Γ b d k m pc)
front_b c Γ b d k m pc ys h = at_left c pc (gen_b Γ b d k m pc) ys h

module _ (v : Env) (n : ℕ) (ih : Sim v n) (c : Fun) (l : Bool) (d brk nxt pc : ℕ) (ps : Places) (st : List Saved) (s : State) (pre : Pre v c d ps s) where
  abbrev Goal : Stmt → Type 0
  Goal a = WfS v c l a → At c.G.code pc (gen_s c.Γ a d brk nxt pc) → Out v.P v.W (QS v c l d (pc + size_s c.Γ a) brk nxt st s) (suc n - w_s a) (mk c.j pc ps st s) (run v.p (suc n) c.file (t_s a) s)

  pub sim_ex : (e : Expr) → Goal (ex1 e)
  sim_ex e w at =
      on_value _ (less _ (omega arith) (ih.e c e d pc ps st s pre w at)) λ x s1 ps1 y k h.
      s-fine _ _ refl (pre-on d ps1 pre y k (omega arith)) y.held

  pub sim_out : (e : Expr) → Goal (out1 e)
  sim_out e w at =
      on_operand v n ih c d pc ps st s pre _ e _ (omega arith) w (front_v c.G.code c.Γ e d pc (s_out (at_place c.Γ e d) ∷ []) at) λ x s1 ps1 y k h le.
      let q = pre-on d ps1 pre y k (omega arith) in
      r_out pre.here (behind_v c.G.code c.Γ e d pc (s_out (at_place c.Γ e d) ∷ []) at).0 h (s-fine _ _ (omega arith) (record { here = q.here; room = q.room; vars = q.vars; words = q.words; arrays = q.arrays; base = q.base }) y.held)

  pub sim_ret : (e : Expr) → Goal (ret1 e)
  sim_ret e w at =
      on_operand v n ih c d pc ps st s pre _ e _ (omega arith) w (front_v c.G.code c.Γ e d pc (s_ret (at_place c.Γ e d) ∷ []) at) λ x s1 ps1 y k h le.
      done (q_gives x (at_place c.Γ e d) _ s1 ps1 (behind_v c.G.code c.Γ e d pc (s_ret (at_place c.Γ e d) ∷ []) at).0 h (pre-on d ps1 pre y k (omega arith)) y.held)

  pub sim_break : Goal break1
  sim_break w at = r_jump pre.here at.0 (done (q_broke s ps w pre refl))

  pub sim_next : Goal next1
  sim_next w at = r_jump pre.here at.0 (done (q_next s ps w pre refl))

  sets : (x : Name) (z i q : ℕ) (s1 : State) (ps1 : Places) → Pre v c d ps1 s1 → s1.held ≡ s.held → ps1 d ≡ some z → WfVar v c x → nth c.G.code i ≡ some (gen_set c.Γ x d) → suc i ≡ q → (D : ℕ) → Out v.P v.W (QS v c l d q brk nxt st s) D (mk c.j i ps1 st s1) (assigns v.p c.file x (word z) s1)
  sets x z i q s1 ps1 p1 y h (own k e) hc u D =
      let g = var_get c.j.arrs c.ws c.Γ.slots s1.vars ps1 x p1.vars k e in
      let a = var_set c.j.arrs c.ws c.Γ.slots s1.vars 0 0 ps1 x k z e p1.vars in
      rw g.1 (r_set pre.here _ (rw e at hc) h (s-fine _ _ u (record { here = p1.here; room = p1.room; vars = a; words = p1.words; arrays = p1.arrays; base = p1.base }) y))
  sets x z i q s1 ps1 p1 y h (top t k e r a f m) hc u D =
      let b = var_none c.j.arrs c.ws c.Γ.slots s1.vars ps1 x p1.vars e in
      rw (b, r, a) (r_setw pre.here (rw (e, f, a) at hc) h (s-fine _ _ u (record { here = p1.here; room = p1.room; vars = p1.vars; words = length-put s1.words k z ∙ p1.words; arrays = p1.arrays; base = p1.base }) y))

  pub sim_set : (x : Name) (e : Expr) → Goal (set1 x e)
  sim_set x e w at =
      on_value _ (less _ (omega arith) (ih.e c e d pc ps st s pre w.1 (front _ _ e d pc _ at))) λ z s1 ps1 y k h.
      sets x z _ _ s1 ps1 (pre-on d ps1 pre y k (omega arith)) y.held h w.0 (behind _ _ e d pc _ at).0 (omega arith) _

  pub sim_store : (x : Name) (i e : Expr) → Goal (store1 x i e)
  sim_store x i e w at =
      on_operand v n ih c d pc ps st s pre _ i _ (omega arith) w.1 (front_v c.G.code c.Γ i d pc (gen_v c.Γ e (suc d) (pc + size_v c.Γ i) ++ (step ∷ [])) at) λ j s1 ps1 y k h li.
      on_operand v n ih c (suc d) (pc + size_v c.Γ i) ps1 st s1 (pre-on (suc d) ps1 pre y k (omega arith)) _ e _ (omega arith) w.2 (front_v c.G.code c.Γ e (suc d) (pc + size_v c.Γ i) (step ∷ []) (behind_v c.G.code c.Γ i d pc (gen_v c.Γ e (suc d) (pc + size_v c.Γ i) ++ (step ∷ [])) at)) λ z s2 ps2 y2 k2 h2 le.
      let q = pre-on d ps2 pre (stays_trans y y2) (keeps_on (omega arith) k k2) (omega arith) in
      let a = arr-there x w.0.0 q w.0.1 in let cs = cells-there q a in
      rw (a.got, cs.1) (last j z s2 ps2 q (y2.held ∙ y.held) (k2 (at_place c.Γ i d) li ∙ h) h2 a cs.0 cs.1 (a.wide ∙ sym cs.2) (nth cs.0.cells j) refl)
    where
      step : Step
      step = s_put (wide_of c.Γ x) (the_arr c.Γ x) (at_place c.Γ i d) (at_place c.Γ e (suc d))

      code : nth c.G.code ((pc + size_v c.Γ i) + size_v c.Γ e) ≡ some step
      code = (behind_v c.G.code c.Γ e (suc d) (pc + size_v c.Γ i) (step ∷ []) (behind_v c.G.code c.Γ i d pc (gen_v c.Γ e (suc d) (pc + size_v c.Γ i) ++ (step ∷ [])) at)).0

      last : (j z : ℕ) (s2 : State) (ps2 : Places) → Pre v c d ps2 s2 → s2.held ≡ s.held → ps2 (at_place c.Γ i d) ≡ some j → ps2 (at_place c.Γ e (suc d)) ≡ some z → (a : ArrAt v c x w.0.0 s2) (cs : Cells) → nth s2.arrays a.a ≡ some cs → wide_of c.Γ x ≡ cs.wide → (o : Option ℕ) → nth cs.cells j ≡ o → Out v.P v.W (QS v c l d (pc + size_s c.Γ (store1 x i e)) brk nxt st s) (suc n - w_s (store1 x i e)) (mk c.j ((pc + size_v c.Γ i) + size_v c.Γ e) ps2 st s2) (opt o (trap 1 s2) (λ old. fine (with_arrays s2 (put s2.arrays a.a (record { wide = cs.wide; cells = put cs.cells j (pick cs.wide z (z % 256)) })))))
      last j z s2 ps2 q y h h2 a cs hc hw none u = r_put_trap pre.here (rw a.op at code) h h2 a.at hc u
      last j z s2 ps2 q y h h2 a cs hc hw (some o) u = r_put pre.here (rw (hw, a.op) at code) h h2 a.at hc u (s-fine _ _ (omega arith) (record { here = q.here; room = q.room; vars = q.vars; words = q.words; arrays = wides-put s2.arrays a.a cs _ hc refl ∙ q.arrays; base = q.base }) y)

  pub sim_if : (e : Expr) (a b : Block) → Goal (if1 e a b)
  sim_if e a b w at =
      on_value _ (less _ (omega arith) (ih.e c e d pc ps st s pre w.0 (front _ _ e d pc _ at))) λ x s1 ps1 y k h.
      r_jz pre.here (behind _ _ e d pc _ at).0 h (next x s1 ps1 (pre-on d ps1 pre y k (omega arith)) y.held (eqb x 0))
    where
      next : (x : ℕ) (s1 : State) (ps1 : Places) → Pre v c d ps1 s1 → s1.held ≡ s.held → (t : Bool) → Out v.P v.W (QS v c l d (pc + size_s c.Γ (if1 e a b)) brk nxt st s) ((suc n - w_s (if1 e a b)) - v.W) (mk c.j (pick t (suc (suc (pc + size_e c.Γ e + size_b c.Γ a))) (suc (pc + size_e c.Γ e))) ps1 st s1) (either t (run v.p n c.file (t_b b)) (run v.p n c.file (t_b a)) s1)
      next x s1 ps1 p1 y true = s-later _ _ (omega arith) y (less _ (omega arith) (ih.b c b l d brk nxt _ ps1 st s1 p1 w.2 (rw z at (behind_b _ _ a d brk nxt _ _ (behind _ _ e d pc _ at).1).1)))
        where
          z : suc (suc (pc + size_e c.Γ e) + size_b c.Γ a) ≡ suc (suc (pc + size_e c.Γ e + size_b c.Γ a))
          z = omega arith
      next x s1 ps1 p1 y false =
          on_through _ _ (λ r. r) id_passes y (less _ (omega arith) (ih.b c a l d brk nxt _ ps1 st s1 p1 w.1 (front_b _ _ a d brk nxt _ _ (behind _ _ e d pc _ at).1))) λ s2 ps2 p2 y2.
          r_jump pre.here (behind_b _ _ a d brk nxt _ _ (behind _ _ e d pc _ at).1).0 (s-fine _ _ refl p2 y2)

  pub sim_head : 1 ≤ v.W → (e : Expr) (b : Block) → WfS v c l (while1 e b) → At c.G.code pc (gen_s c.Γ (while1 e b) d brk nxt pc) → Out v.P v.W (QS v c l d (pc + size_s c.Γ (while1 e b)) brk nxt st s) (suc n - w_s (while1 e b)) (mk c.j (pc + 2) ps st s) (run v.p (suc n) c.file (t_s (while1 e b)) s)
  sim_head lw e b w at =
      on_value _ (less _ (omega arith) (ih.e c e d (pc + 2) ps st s pre w.0 (front _ _ e d (pc + 2) _ at2))) λ x s1 ps1 y k h.
      r_jz pre.here (behind _ _ e d (pc + 2) _ at2).0 h (next x s1 ps1 (pre-on d ps1 pre y k (omega arith)) y.held (eqb x 0))
    where
      at2 : At c.G.code (pc + 2) (gen_e c.Γ e d (pc + 2) ++ (s_jz d (pc + 1) ∷ (gen_b c.Γ b d (pc + 1) (pc + 2) (suc (pc + 2 + size_e c.Γ e)) ++ (s_jump (pc + 2) ∷ []))))
      at2 = let z : suc (suc pc) ≡ pc + 2 = omega arith in subst (λ i. At c.G.code i (gen_e c.Γ e d (pc + 2) ++ (s_jz d (pc + 1) ∷ (gen_b c.Γ b d (pc + 1) (pc + 2) (suc (pc + 2 + size_e c.Γ e)) ++ (s_jump (pc + 2) ∷ []))))) z at.1.1

      -- the step before the head leads to the end
      out : nth c.G.code (pc + 1) ≡ some (s_jump (pc + size_s c.Γ (while1 e b)))
      out = let z : suc pc ≡ pc + 1 = omega arith in subst (λ i. nth c.G.code i ≡ some (s_jump (pc + size_s c.Γ (while1 e b)))) z at.1.0

      again : (m1 : Cfg) (r1 : Result) (s1 : State) → s1.held ≡ s.held → QS v c true d (suc (pc + 2 + size_e c.Γ e) + size_b c.Γ b) (pc + 1) (pc + 2) st s1 m1 r1 → Out v.P v.W (QS v c l d (pc + size_s c.Γ (while1 e b)) brk nxt st s) ((suc n - w_s (while1 e b)) - v.W) m1 (on_round r1 (λ s2. run v.p n c.file (t_s (while1 e b)) s2))
      again m1 r1 s1 y (q_fine s2 ps2 p2 z) = r_jump pre.here (behind_b _ _ b d _ _ _ _ (behind _ _ e d (pc + 2) _ at2).1).0 (s-later _ _ refl (z ∙ y) (less _ (omega arith) (ih.w c e b l d brk nxt pc ps2 st s2 p2 w at)))
      again m1 r1 s1 y (q_broke s2 ps2 a p2 z) = r_jump pre.here out (s-fine _ _ refl p2 (z ∙ y))
      again m1 r1 s1 y (q_next s2 ps2 a p2 z) = s-later _ _ refl (z ∙ y) (less _ (omega arith) (ih.w c e b l d brk nxt pc ps2 st s2 p2 w at))
      again m1 r1 s1 y (q_gives x a i s2 ps2 hc hx p2 z) = done (q_gives x a i s2 ps2 hc hx p2 (z ∙ y))

      next : (x : ℕ) (s1 : State) (ps1 : Places) → Pre v c d ps1 s1 → s1.held ≡ s.held → (t : Bool) → Out v.P v.W (QS v c l d (pc + size_s c.Γ (while1 e b)) brk nxt st s) ((suc n - w_s (while1 e b)) - v.W) (mk c.j (pick t (pc + 1) (suc (pc + 2 + size_e c.Γ e))) ps1 st s1) (either t fine (λ s0. on_round (run v.p n c.file (t_b b) s0) (λ s2. run v.p n c.file (t_s (while1 e b)) s2)) s1)
      next x s1 ps1 p1 y true = r_jump pre.here out (s-fine _ _ refl p1 y)
      next x s1 ps1 p1 y false = bind (λ r. on_round r (λ s2. run v.p n c.file (t_s (while1 e b)) s2)) (record { traps = λ c s. refl; spents = λ s. refl }) (λ m1 r1 q. again m1 r1 s1 y q) (less _ (omega arith) (ih.b c b true d _ _ _ ps1 st s1 p1 w.1 (front_b _ _ b d _ _ _ _ (behind _ _ e d (pc + 2) _ at2).1)))

  pub sim_while : 1 ≤ v.W → (e : Expr) (b : Block) → Goal (while1 e b)
  sim_while lw e b w at = r_jump pre.here at.0 (less _ (omega arith) (sim_head lw e b w at))

  abbrev GoalB : Block → Type 0
  GoalB b = WfB v c l b → At c.G.code pc (gen_b c.Γ b d brk nxt pc) → Out v.P v.W (QS v c l d (pc + size_b c.Γ b) brk nxt st s) (suc n - w_b b) (mk c.j pc ps st s) (run v.p (suc n) c.file (t_b b) s)

  pub sim_end : GoalB end
  sim_end w at = s-fine _ _ (omega arith) pre refl

  pub sim_seq : (a : Stmt) (b : Block) → GoalB (seq1 a b)
  sim_seq a b w at =
      on_through _ _ (λ r. on_fine r (λ s1. run v.p n c.file (t_b b) s1)) (fine_passes _) refl (less _ (omega arith) (ih.s c a l d brk nxt pc ps st s pre w.0 (at_left _ pc (gen_s c.Γ a d brk nxt pc) _ at))) λ s2 ps2 p2 y2.
      s-later _ _ (omega arith) y2 (less _ (omega arith) (ih.b c b l d brk nxt _ ps2 st s2 p2 w.1 (at_right _ pc (gen_s c.Γ a d brk nxt pc) _ (size_s c.Γ a) (len_s a c.Γ d brk nxt pc) at)))
