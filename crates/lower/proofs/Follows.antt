-- The whole back end: a run of the middle language is a run of the processor.
use mathlib.Core.Path.{◌≡◌, refl, sym, ap, subst, ◌∙◌}
use mathlib.Core.Logic.{◌⊎◌, inl, inr}
use mathlib.Core.Option.{some}
use Prim.Native.Nat.{ℕ, zero, suc, ◌+◌, ◌-◌, ◌≤◌, ◌<◌}
use native.Mathlib.Omega.{arith}
use native.Mathlib.Nat.{add-zero, add-suc}
use native.Mathlib.Decide.{dec_lt}
use Rattle.language.specs.Syntax.{opt, nth}
use Rattle.processor.specs.Machine.{Machine, goes, halts, step, then, after}
use Rattle.lower.specs.Promise.{Among}
use Rattle.steps.specs.Steps.{Step, s_num, s_copy, s_bin, s_un, s_flag, s_getw, s_setw, s_jump, s_jz, s_call, s_out, s_ret, s_table, s_in, s_idx, s_put, s_len, MProg, MSt, MNext, m_goes, m_ends, m_traps, m_stuck, exec, leaves, m_step, m_then, m_after}
use Rattle.lower.proofs.Instructions.{Env, V, here, ◌▸◌, d_num}
use Rattle.lower.proofs.Realized.{Sees, x_end, x_trap, x_full}
use Rattle.lower.proofs.Runs.{Runs, runs, all_of, some-long, steps_in}
use Rattle.lower.specs.Lower.{stub}
use Rattle.lower.proofs.InRow.{Seg, fun_nth}
use Rattle.lower.proofs.Match.{mark_of, Ctx, Match, Over, inside, over, full, Does, by-opt}
use Rattle.lower.proofs.StepWords.{sim_num, sim_copy, sim_bin, sim_un, sim_flag, sim_getw, sim_setw, sim_jump, sim_jz, sim_out, sim_ret}
use Rattle.lower.proofs.StepCalls.{sim_call}
use Rattle.lower.proofs.StepTables.{sim_table}
use Rattle.lower.proofs.StepArrays.{sim_in, sim_idx, sim_put, sim_len}

-- any step, and the end of the program
sim_does : (c : Ctx) (s : MSt) (v : V) (h : Match c s v) (t : Step) → nth h.f.code s.pc ≡ some t → Does c v (exec c.prog h.f t s)
sim_does c s v h (s_num d n) k = sim_num c s v h d n k
sim_does c s v h (s_copy d a) k = sim_copy c s v h d a k
sim_does c s v h (s_bin o d a b) k = sim_bin c s v h o d a b k
sim_does c s v h (s_un o d a) k = sim_un c s v h o d a k
sim_does c s v h (s_flag d a) k = sim_flag c s v h d a k
sim_does c s v h (s_getw d j) k = sim_getw c s v h d j k
sim_does c s v h (s_setw j a) k = sim_setw c s v h j a k
sim_does c s v h (s_jump t) k = sim_jump c s v h t k
sim_does c s v h (s_jz a t) k = sim_jz c s v h a t k
sim_does c s v h (s_call d g a n os) k = sim_call c s v h d g a n os k
sim_does c s v h (s_out a) k = sim_out c s v h a k
sim_does c s v h (s_ret a) k = sim_ret c s v h a k
sim_does c s v h (s_table d i t a n os) k = sim_table c s v h d i t a n os k
sim_does c s v h (s_in d) k = sim_in c s v h d k
sim_does c s v h (s_idx d o i) k = sim_idx c s v h d o i k
sim_does c s v h (s_put w o i b) k = sim_put c s v h w o i b k
sim_does c s v h (s_len d o) k = sim_len c s v h d o k

pub sim : (c : Ctx) (s : MSt) (v : V) → Match c s v → Does c v (m_step c.prog s)
sim c s v h = subst (λ o. Does c v (opt o m_stuck (λ g. opt (nth g.code s.pc) m_stuck (λ t. exec c.prog g t s)))) (sym (fun_nth c.prog s.act.fn h.f h.is_fn)) (by-opt (Does c v) (nth h.f.code s.pc) _ tt (λ t k. sim_does c s v h t k))

pub sim_over : (c : Ctx) (s : MSt) (v : V) → Over c s v → Does c v (m_step c.prog s)
sim_over c s v h =
    let q : Seg c.env.row v.pc stub = subst (λ p. Seg c.env.row p stub) (sym h.at_exit) c.laid.ends in
    let e : m_step c.prog s ≡ m_ends h.x s = ap (λ j. opt (nth c.prog.funs j) m_stuck (λ g. opt (nth g.code s.pc) m_stuck (λ t. exec c.prog g t s))) h.is_fn ∙ (ap (λ o. opt o m_stuck (λ g. opt (nth g.code s.pc) m_stuck (λ t. exec c.prog g t s))) c.is_boot ∙ (ap (λ j. opt (nth c.boot.code j) m_stuck (λ t. exec c.prog c.boot t s)) h.is_pc ∙ (ap (λ o. opt o m_stuck (λ t. exec c.prog c.boot t s)) c.boot_ends ∙ (ap (λ o. opt o m_stuck (λ x. leaves c.boot x s.stack s)) h.is_place ∙ ap (λ l. leaves c.boot h.x l s) h.is_stack)))) in
    subst (Does c v) (sym e) (_, d_num q.0 tt (omega arith) ▸ here, record { calls = q.1.0; number = refl; with = h.with; is_ins = h.is_ins; is_outs = h.is_outs })

sim_at : (c : Ctx) (s : MSt) (v : V) → Match c s v ⊎ Over c s v → Does c v (m_step c.prog s)
sim_at c s v (inl h) = sim c s v h
sim_at c s v (inr h) = sim_over c s v h

-- one more step of the middle language
then-goes : (r : MNext) → m_then r (λ x. m_goes x) ≡ r
then-goes (m_goes s) = refl
then-goes (m_ends x s) = refl
then-goes (m_traps x s) = refl
then-goes m_stuck = refl

pub last_step : (p : MProg) (n : ℕ) (s : MSt) → m_after p (suc n) s ≡ m_then (m_after p n s) (λ x. m_step p x)
last_step p zero s = then-goes (m_step p s)
last_step p (suc n) s = go (m_step p s) (λ x. last_step p n x)
  where
    go : (r : MNext) → ((x : MSt) → m_after p (suc n) x ≡ m_then (m_after p n x) (λ y. m_step p y)) → m_then r (λ x. m_after p (suc n) x) ≡ m_then (m_then r (λ x. m_after p n x)) (λ y. m_step p y)
    go (m_goes x) k = k x
    go (m_ends y x) k = refl
    go (m_traps y x) k = refl
    go m_stuck k = refl

-- runs behind one another
pub after_more : (j k : ℕ) (m n : Machine) → after k m ≡ goes n → after (k + j) m ≡ after j n
after_more zero k m n h = ap (λ i. after i m) (add-zero k) ∙ h
after_more (suc j) k m n h = ap (λ i. after i m) (add-suc k j) ∙ ap (λ x. then x step) (after_more j k m n h)

-- the processor, after k steps, is where the middle language is
pub record Ended (c x k : ℕ) (m : Machine) (s : MSt) : Type 0 where
  pub last : Machine
  pub comes : after k m ≡ halts c x last
  pub is_ins : last.ins ≡ s.ins
  pub is_outs : last.outs ≡ s.outs

abbrev pub Is : Ctx → Machine → ℕ → ℕ → MNext → Type 0
Is c m n k (m_goes s) = (x : Machine) × (v : V) × (after k m ≡ goes x) × Sees c.env x v × (Match c s v ⊎ Over c s v) × (n ≤ k)
Is c m n k (m_ends x s) = Ended 0 x k m s
Is c m n k (m_traps x s) = Ended 3 x k m s
Is c m n k m_stuck = Unit {0}

-- or it ended for want of room at a call that the middle language came to
pub record Short (c : Ctx) (m : Machine) (k n : ℕ) (s0 : MSt) : Type 0 where
  pub s : MSt
  pub steps : ℕ
  pub by : steps ≤ n
  pub at : m_after c.prog steps s0 ≡ m_goes s
  pub ended : Ended 4 0 k m s
  pub short : c.env.total - c.env.floor < s.held
  pub marked : Among (mark_of s) s.calls

pub record Follows (c : Ctx) (m : Machine) (s : MSt) (n : ℕ) : Type 0 where
  pub k : ℕ
  pub is : Is c m n k (m_after c.prog n s) ⊎ Short c m k n s
  pub between : (j : ℕ) → j < k → (x : Machine) × (v : V) × (after j m ≡ goes x) × Sees c.env x v

-- the states on the way
abbrev Way : Env → Machine → ℕ → Type 0
Way e m k = (j : ℕ) → j < k → (x : Machine) × (v : V) × (after j m ≡ goes x) × Sees e x v

way-more : (e : Env) (m x : Machine) (k i : ℕ) → after k m ≡ goes x → Way e m k → Way e x i → Way e m (k + i)
way-more e m x k i h a b j l = go (dec_lt j k)
  where
    go : Dec (j < k) → (y : Machine) × (v : V) × (after j m ≡ goes y) × Sees e y v
    go (yes d) = a j d
    go (no d) = let (y, v, p, q) = b (j - k) (omega arith) in let z : k + (j - k) ≡ j = omega arith in (y, v, ap (λ n. after n m) (sym z) ∙ after_more (j - k) k m x h ∙ p, q)

way-last : (e : Env) (m x : Machine) (v : V) (k : ℕ) → after k m ≡ goes x → Sees e x v → Way e m k → Way e m (suc k)
way-last e m x v k h q a j l = go (dec_lt j k)
  where
    go : Dec (j < k) → (y : Machine) × (v : V) × (after j m ≡ goes y) × Sees e y v
    go (yes d) = a j d
    go (no d) = let z : j ≡ k = omega arith in (x, v, ap (λ n. after n m) z ∙ h, q)

pub halts_then : (m x : Machine) (k c y : ℕ) → after k m ≡ goes x → step x ≡ halts c y x → after (suc k) m ≡ halts c y x
halts_then m x k c y h q = ap (λ z. then z step) h ∙ q

module _ (c : Ctx) (m : Machine) (s : MSt) (n k : ℕ) (way : Way c.env m k) (s1 : MSt) (x : Machine) (v : V) (h : after k m ≡ goes x) (e : Sees c.env x v) (q : Match c s1 v ⊎ Over c s1 v) (l : n ≤ k) (at : m_after c.prog n s ≡ m_goes s1) where
  -- the ways of one more step
  one_more : (r : MNext) → m_step c.prog s1 ≡ r → m_after c.prog (suc n) s ≡ r → Does c v r → Follows c m s (suc n)
  one_more (m_goes s2) i z (w, t, inside o) =
      let r : Runs c.env (steps_in (all_of t)) x w = runs c.env w v (all_of t) x e in
      record {
        k = k + steps_in (all_of t);
        is = inl (rw z (r.last, w, after_more (steps_in (all_of t)) k m x h ∙ r.comes, r.seen, inl o, omega (arith, some-long t)));
        between = way-more c.env m x k (steps_in (all_of t)) h way r.between;
      }
  one_more (m_goes s2) i z (w, t, over o) =
      let r : Runs c.env (steps_in (all_of t)) x w = runs c.env w v (all_of t) x e in
      record {
        k = k + steps_in (all_of t);
        is = inl (rw z (r.last, w, after_more (steps_in (all_of t)) k m x h ∙ r.comes, r.seen, inr o, omega (arith, some-long t)));
        between = way-more c.env m x k (steps_in (all_of t)) h way r.between;
      }
  one_more (m_goes s2) i z (w, t, full o) =
      let r : Runs c.env (steps_in (all_of t)) x w = runs c.env w v (all_of t) x e in
      let a : after (k + steps_in (all_of t)) m ≡ goes r.last = after_more (steps_in (all_of t)) k m x h ∙ r.comes in
      record {
        k = suc (k + steps_in (all_of t));
        is = inr (record { s = s2; steps = suc n; by = omega arith; at = z; ended = record { last = r.last; comes = halts_then m r.last (k + steps_in (all_of t)) 4 0 a (x_full c.env r.last w r.seen o.calls o.number); is_ins = r.seen.is_ins ∙ o.is_ins; is_outs = r.seen.is_outs ∙ o.is_outs }; short = o.short; marked = o.marked });
        between = way-last c.env m r.last w (k + steps_in (all_of t)) a r.seen (way-more c.env m x k (steps_in (all_of t)) h way r.between);
      }
  one_more (m_ends y s2) i z (w, t, o) =
      let r : Runs c.env (steps_in t) x w = runs c.env w v t x e in
      let a : after (k + steps_in t) m ≡ goes r.last = after_more (steps_in t) k m x h ∙ r.comes in
      record {
        k = suc (k + steps_in t);
        is = inl (rw z (record { last = r.last; comes = halts_then m r.last (k + steps_in t) 0 y a (x_end c.env r.last w r.seen o.calls o.number ∙ ap (λ u. halts 0 u r.last) o.with); is_ins = r.seen.is_ins ∙ o.is_ins; is_outs = r.seen.is_outs ∙ o.is_outs }));
        between = way-last c.env m r.last w (k + steps_in t) a r.seen (way-more c.env m x k (steps_in t) h way r.between);
      }
  one_more (m_traps y s2) i z (w, t, o) =
      let r : Runs c.env (steps_in t) x w = runs c.env w v t x e in
      let a : after (k + steps_in t) m ≡ goes r.last = after_more (steps_in t) k m x h ∙ r.comes in
      record {
        k = suc (k + steps_in t);
        is = inl (rw z (record { last = r.last; comes = halts_then m r.last (k + steps_in t) 3 y a (x_trap c.env r.last w r.seen o.calls o.number ∙ ap (λ u. halts 3 u r.last) o.with); is_ins = r.seen.is_ins ∙ o.is_ins; is_outs = r.seen.is_outs ∙ o.is_outs }));
        between = way-last c.env m r.last w (k + steps_in t) a r.seen (way-more c.env m x k (steps_in t) h way r.between);
      }
  one_more m_stuck i z o = record { k = k; is = inl (rw z tt); between = way }

next : (c : Ctx) (m : Machine) (s : MSt) (n : ℕ) → Follows c m s n → Follows c m s (suc n)
next c m s n r = go r.is
  where
    still : {q : MNext} → m_after c.prog n s ≡ q → m_after c.prog (suc n) s ≡ m_then q (λ y. m_step c.prog y)
    still z = last_step c.prog n s ∙ ap (λ u. m_then u (λ y. m_step c.prog y)) z

    by_case : (q : MNext) → m_after c.prog n s ≡ q → Is c m n r.k q → Follows c m s (suc n)
    by_case (m_goes s1) z (x, v, h, e, p, l) = one_more c m s n r.k r.between s1 x v h e p l z (m_step c.prog s1) refl (last_step c.prog n s ∙ ap (λ u. m_then u (λ y. m_step c.prog y)) z) (sim_at c s1 v p)
    by_case (m_ends y s1) z i = record { k = r.k; is = inl (rw (still z) i); between = r.between }
    by_case (m_traps y s1) z i = record { k = r.k; is = inl (rw (still z) i); between = r.between }
    by_case m_stuck z i = record { k = r.k; is = inl (rw (still z) tt); between = r.between }

    go : Is c m n r.k (m_after c.prog n s) ⊎ Short c m r.k n s → Follows c m s (suc n)
    go (inl i) = by_case (m_after c.prog n s) refl i
    go (inr o) = record { k = r.k; is = inr (record { s = o.s; steps = o.steps; by = omega (arith, o.by); at = o.at; ended = o.ended; short = o.short; marked = o.marked }); between = r.between }

-- from where it begins to any number of steps of the middle language
pub follows : (c : Ctx) (m : Machine) (s : MSt) → Follows c m s 0 → (n : ℕ) → Follows c m s n
follows c m s b zero = b
follows c m s b (suc n) = next c m s n (follows c m s b n)

-- where it begins: some instructions to the first step
pub begun : (c : Ctx) (m : Machine) (s : MSt) (v : V) → Sees c.env m v → Does c v (m_goes s) → Follows c m s 0
begun c m s v e (w, t, inside o) =
    let r : Runs c.env (steps_in (all_of t)) m w = runs c.env w v (all_of t) m e in
    record { k = steps_in (all_of t); is = inl (r.last, w, r.comes, r.seen, inl o, omega arith); between = r.between }
begun c m s v e (w, t, over o) =
    let r : Runs c.env (steps_in (all_of t)) m w = runs c.env w v (all_of t) m e in
    record { k = steps_in (all_of t); is = inl (r.last, w, r.comes, r.seen, inr o, omega arith); between = r.between }
begun c m s v e (w, t, full o) =
    let r : Runs c.env (steps_in (all_of t)) m w = runs c.env w v (all_of t) m e in
    record {
      k = suc (steps_in (all_of t));
      is = inr (record { s = s; steps = 0; by = omega arith; at = refl; ended = record { last = r.last; comes = halts_then m r.last (steps_in (all_of t)) 4 0 r.comes (x_full c.env r.last w r.seen o.calls o.number); is_ins = r.seen.is_ins ∙ o.is_ins; is_outs = r.seen.is_outs ∙ o.is_outs }; short = o.short; marked = o.marked });
      between = way-last c.env m r.last w (steps_in (all_of t)) r.comes r.seen r.between;
    }
