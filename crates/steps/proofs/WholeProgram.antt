-- The whole program: what its meaning comes to, its steps come to, and they go on as long as it does.
use Rattle.std.proofs.Common.{◌≡◌, ℕ, suc, ◌+◌, ◌-◌, ◌*◌, ◌<◌, ◌≤◌, ◌⊎◌, List, [], ◌∷◌, ◌++◌, replicate, sym, refl, ap, ◌∙◌, subst, inl, inr, mul-suc, arith}
use mathlib.Core.Option.{some, none}
use native.Mathlib.Nat.{lt_of_mul-lt-mul_left}
use native.Mathlib.Decide.{dec_le}
use lib.ListN.{length-replicate}
use Rattle.language.specs.Syntax.{nth, call, no as no_more}
use Rattle.language.specs.Meaning.{State, Result, val, trap, spent, word, t_e, run, means, begin, w_main, first_file, all_words, all_arrays}
use Rattle.steps.specs.Steps.{s_ret, Act, MFn, MProg, Places, MSt, MNext, m_goes, m_ends, m_traps, m_stuck, m_step, m_then, m_after, m_begin, m_shown}
use Rattle.steps.specs.Generate.{gen_e, size_e}
use Rattle.steps.proofs.Outcome.{At, Cfg, mk, mst, Out, done, stepd, trapd, spentd}
use Rattle.steps.proofs.Match.{Env, Fun, WfE, Pre, QE, q_val, Linked}
use Rattle.steps.proofs.Variables.{wides}
use Rattle.steps.proofs.Expressions.{front, behind}
use Rattle.steps.proofs.Calls.{sim}
use Rattle.language.specs.Observe.{Front}
use Rattle.steps.specs.Correct.{MidRight}
use Rattle.steps.proofs.Growth.{front_refl, Grown, stuck, goes, traps, grown, after-add}
use Rattle.language.specs.Observe.{state_of, outs_of, IsSpent, is_spent}

-- how a run from m ends, by what was meant
pub data Ends (P : MProg) (W D : ℕ) (m : MSt) : Result → Type 0 where
  with_val : (k x : ℕ) (s : State) (z : MSt) → m_after P k m ≡ m_ends x z → z.outs ≡ s.outs → z.ins ≡ s.ins → z.calls ≡ s.calls → Ends P W D m (val (word x) s)
  with_trap : (k c : ℕ) (s : State) (z : MSt) → m_after P k m ≡ m_traps c z → z.outs ≡ s.outs → z.ins ≡ s.ins → z.calls ≡ s.calls → Ends P W D m (trap c s)
  goes_far : (k : ℕ) (s : State) (z : MSt) → m_after P k m ≡ m_goes z → z.outs ≡ s.outs → z.calls ≡ s.calls → D ≤ W * k → Ends P W D m (spent s)

pub later : {P : MProg} {W D : ℕ} {m m1 : MSt} {r : Result} → m_step P m ≡ m_goes m1 → Ends P W (D - W) m1 r → Ends P W D m r
later e (with_val k x s z h a b c) = with_val (suc k) x s z (rw e h) a b c
later e (with_trap k c s z h a b d) = with_trap (suc k) c s z (rw e h) a b d
later {W = W} e (goes_far k s z h a b d) = goes_far (suc k) s z (rw e h) a b (rw (mul-suc W k) (omega arith))

module _ (P : MProg) (W : ℕ) (j : Act) (q d : ℕ) (ps : Places) (s : State) (G : MFn) (hf : nth P.funs j.fn ≡ some G) (hc : nth G.code q ≡ some (s_ret d)) where
  -- an expression behind which the program ends
  pub ends : {D : ℕ} {m : Cfg} {r : Result} → Out P W (QE j q d ps [] s) D m r → Ends P W D (mst m) r
  ends (done (q_val x s1 ps1 y k h)) = with_val 1 x s1 (mst (mk j q ps1 [] s1)) (rw (hf, hc, h)) refl refl refl
  ends (stepd e o) = later e (ends o)
  ends (trapd {j = i} {pc = pc} {ps = ps1} {st = st} {c = c} {s = s1} e) = with_trap 1 c s1 (mst (mk i pc ps1 st s1)) (rw e) refl refl refl
  ends (spentd {j = i} {pc = pc} {ps = ps1} {st = st} {s = s1} z) = goes_far 0 s1 (mst (mk i pc ps1 st s1)) refl refl refl (omega arith)

-- the function that calls main, and ends
pub record Boot (v : Env) (c : Fun) : Type 0 where
  pub first : c.j ≡ record { fn = 0; arrs = [] }
  pub here : nth v.P.funs c.j.fn ≡ some c.G
  pub slots : c.Γ.slots ≡ []
  pub ws : c.ws ≡ wides v.P.arrays
  pub file : c.file ≡ first_file v.p
  pub code : At c.G.code 0 (gen_e c.Γ (call w_main no_more) 0 0 ++ (s_ret 0 ∷ []))
  pub wf : WfE v c (call w_main no_more)
  pub words : v.P.words ≡ all_words v.p
  pub arrays : v.P.arrays ≡ all_arrays v.p

pub comes : (v : Env) → Linked v → (c : Fun) → Boot v c → (ins : List ℕ) (n : ℕ) → Ends v.P v.W (n - 2) (m_begin v.P ins) (means v.p ins n)
comes v L c b ins n = subst (λ m. Ends v.P v.W (n - 2) m (means v.p ins n)) start (subst (λ f. Ends v.P v.W (n - 2) (mst (mk c.j 0 (λ i. none) [] (begin v.p ins))) (run v.p n f (t_e (call w_main no_more)) (begin v.p ins))) b.file base)
  where
    start : mst (mk c.j 0 (λ i. none) [] (begin v.p ins)) ≡ m_begin v.P ins
    start = λ i. record { act = b.first i; pc = 0; places = λ x. none; stack = []; words = replicate (sym b.words i) 0; arrays = sym b.arrays i; ins = ins; outs = []; held = 0; calls = [] }

    pre : Pre v c 0 (λ i. none) (begin v.p ins)
    pre = record { here = b.here; room = rw b.slots (omega arith); vars = rw b.slots tt; words = length-replicate (all_words v.p) 0 ∙ sym b.words; arrays = ap wides (sym b.arrays) ∙ sym b.ws; base = λ a w e. ap (λ l. nth l a) b.ws ∙ e }

    base : Ends v.P v.W (n - 2) (mst (mk c.j 0 (λ i. none) [] (begin v.p ins))) (run v.p n c.file (t_e (call w_main no_more)) (begin v.p ins))
    base = ends v.P v.W c.j (0 + size_e c.Γ (call w_main no_more)) 0 (λ i. none) (begin v.p ins) c.G b.here (behind c.G.code c.Γ (call w_main no_more) 0 0 (s_ret 0 ∷ []) b.code).0 ((sim v L n).e c (call w_main no_more) 0 0 (λ i. none) [] (begin v.p ins) pre b.wf (front c.G.code c.Γ (call w_main no_more) 0 0 (s_ret 0 ∷ []) b.code))

-- what the steps have come to after k of them, by what is meant
data View (P : MProg) (m : MSt) (k : ℕ) (r : Result) : Type 0 where
  before : (s : State) (z : MSt) → m_after P k m ≡ m_goes z → state_of r ≡ some s → Front z.outs s.outs → Front z.calls s.calls → View P m k r
  ended : (x : ℕ) (s : State) (z : MSt) → m_after P k m ≡ m_ends x z → r ≡ val (word x) s → z.outs ≡ s.outs → z.ins ≡ s.ins → View P m k r
  trapped : (c : ℕ) (s : State) (z : MSt) → m_after P k m ≡ m_traps c z → r ≡ trap c s → z.outs ≡ s.outs → z.ins ≡ s.ins → View P m k r

grown-goes : {y z : MSt} → Grown y (m_goes z) → Front y.outs z.outs × Front y.calls z.calls
grown-goes (goes a b) = (a, b)

grown-ends : {x : ℕ} {y z : MSt} → Grown y (m_ends x z) → Front y.outs z.outs × Front y.calls z.calls
grown-ends (Rattle.steps.proofs.Growth.ends a b) = (a, b)

grown-traps : {x : ℕ} {y z : MSt} → Grown y (m_traps x z) → Front y.outs z.outs × Front y.calls z.calls
grown-traps (traps a b) = (a, b)

split : (P : MProg) (k n : ℕ) (m : MSt) → k ≤ n → m_after P n m ≡ m_then (m_after P k m) (λ x. m_after P (n - k) x)
split P k n m h = let e : n ≡ k + (n - k) = omega arith in ap (λ i. m_after P i m) e ∙ after-add P k (n - k) m

module _ (P : MProg) (W : ℕ) (m : MSt) where
  view : (k : ℕ) (r : Result) → Ends P W (suc (W * k)) m r → View P m k r
  view k r (with_val n x s z e a b c) = by (dec_le k n)
    where
      go : (y : MNext) → m_after P k m ≡ y → m_then y (λ u. m_after P (n - k) u) ≡ m_ends x z → View P m k (val (word x) s)
      go (m_goes y) h q = let f = grown-ends (subst (Grown y) q (grown P (n - k) y)) in before s y h refl (rw (← a) f.0) (rw (← c) f.1)
      go (m_ends u y) h q = ended x s z (h ∙ q) refl a b
      go (m_traps u y) h q = absurd (let o : ◌≡◌ {A = ℕ} 0 1 = cc in omega arith)
      go m_stuck h q = absurd (let o : ◌≡◌ {A = ℕ} 0 1 = cc in omega arith)

      by : Dec (k ≤ n) → View P m k (val (word x) s)
      by (yes h) = go (m_after P k m) refl (sym (split P k n m h) ∙ e)
      by (no h) = ended x s z (split P n k m (omega arith) ∙ ap (λ y. m_then y (λ u. m_after P (k - n) u)) e) refl a b
  view k r (with_trap n x s z e a b c) = by (dec_le k n)
    where
      go : (y : MNext) → m_after P k m ≡ y → m_then y (λ u. m_after P (n - k) u) ≡ m_traps x z → View P m k (trap x s)
      go (m_goes y) h q = let f = grown-traps (subst (Grown y) q (grown P (n - k) y)) in before s y h refl (rw (← a) f.0) (rw (← c) f.1)
      go (m_traps u y) h q = trapped x s z (h ∙ q) refl a b
      go (m_ends u y) h q = absurd (let o : ◌≡◌ {A = ℕ} 0 1 = cc in omega arith)
      go m_stuck h q = absurd (let o : ◌≡◌ {A = ℕ} 0 1 = cc in omega arith)

      by : Dec (k ≤ n) → View P m k (trap x s)
      by (yes h) = go (m_after P k m) refl (sym (split P k n m h) ∙ e)
      by (no h) = trapped x s z (split P n k m (omega arith) ∙ ap (λ y. m_then y (λ u. m_after P (k - n) u)) e) refl a b
  view k r (goes_far n s z e a b d) = go (m_after P k m) refl (sym (split P k n m (omega (arith, lt))) ∙ e)
    where
      lt : k < n
      lt = lt_of_mul-lt-mul_left W d

      go : (y : MNext) → m_after P k m ≡ y → m_then y (λ x. m_after P (n - k) x) ≡ m_goes z → View P m k (spent s)
      go (m_goes y) h q = let f = grown-goes (subst (Grown y) q (grown P (n - k) y)) in before s y h refl (rw (← a) f.0) (rw (← b) f.1)
      go (m_ends x y) h q = absurd (let u : ◌≡◌ {A = ℕ} 0 1 = cc in omega arith)
      go (m_traps x y) h q = absurd (let u : ◌≡◌ {A = ℕ} 0 1 = cc in omega arith)
      go m_stuck h q = absurd (let u : ◌≡◌ {A = ℕ} 0 1 = cc in omega arith)

outs-some : (r : Result) (s : State) → state_of r ≡ some s → outs_of r ≡ s.outs
outs-some r s e = rw e

module _ {P : MProg} {m : MSt} {k : ℕ} {r : Result} where
  view_stuck : View P m k r → m_after P k m ≡ m_stuck → ⊥
  view_stuck (before s z h q f g) e = let o : ◌≡◌ {A = ℕ} 0 1 = cc in omega arith
  view_stuck (ended x s z h q f g) e = let o : ◌≡◌ {A = ℕ} 0 1 = cc in omega arith
  view_stuck (trapped x s z h q f g) e = let o : ◌≡◌ {A = ℕ} 0 1 = cc in omega arith

  view_shows : View P m k r → Front (m_shown (m_after P k m)) (outs_of r)
  view_shows (before s z h q f g) = rw (h, outs-some r s q) f
  view_shows (ended x s z h q f g) = rw (h, q, f) (front_refl _)
  view_shows (trapped x s z h q f g) = rw (h, q, f) (front_refl _)

  view_ends : (x : ℕ) (z : MSt) → View P m k r → m_after P k m ≡ m_ends x z → (s : State) × (r ≡ val (word x) s) × (z.outs ≡ s.outs) × (z.ins ≡ s.ins)
  view_ends x z (before s y h q f g) e = absurd (let o : ◌≡◌ {A = ℕ} 0 1 = cc in omega arith)
  view_ends x z (ended u s y h q f g) e = let a : u ≡ x = cc in let d : z ≡ y = cc in (s, cc, ap (λ w. w.outs) d ∙ f, ap (λ w. w.ins) d ∙ g)
  view_ends x z (trapped u s y h q f g) e = absurd (let o : ◌≡◌ {A = ℕ} 0 1 = cc in omega arith)

  view_traps : (x : ℕ) (z : MSt) → View P m k r → m_after P k m ≡ m_traps x z → (s : State) × (r ≡ trap x s) × (z.outs ≡ s.outs) × (z.ins ≡ s.ins)
  view_traps x z (before s y h q f g) e = absurd (let o : ◌≡◌ {A = ℕ} 0 1 = cc in omega arith)
  view_traps x z (ended u s y h q f g) e = absurd (let o : ◌≡◌ {A = ℕ} 0 1 = cc in omega arith)
  view_traps x z (trapped u s y h q f g) e = let a : u ≡ x = cc in let d : z ≡ y = cc in (s, cc, ap (λ w. w.outs) d ∙ f, ap (λ w. w.ins) d ∙ g)

  view_marks : (z : MSt) → View P m k r → m_after P k m ≡ m_goes z → (s : State) × (state_of r ≡ some s) × Front z.calls s.calls
  view_marks z (before s y h q f g) e = let d : z ≡ y = cc in (s, q, rw d g)
  view_marks z (ended u s y h q f g) e = absurd (let o : ◌≡◌ {A = ℕ} 0 1 = cc in omega arith)
  view_marks z (trapped u s y h q f g) e = absurd (let o : ◌≡◌ {A = ℕ} 0 1 = cc in omega arith)

module _ {P : MProg} {W D : ℕ} {m : MSt} where
  ends_follow : {r : Result} → Ends P W D m r → (k : ℕ) × Front (outs_of r) (m_shown (m_after P k m))
  ends_follow (with_val k x s z e a b c) = (k, rw (e, a) (front_refl _))
  ends_follow (with_trap k x s z e a b c) = (k, rw (e, a) (front_refl _))
  ends_follow (goes_far k s z e a b d) = (k, rw (e, a) (front_refl _))

  ends_come : {r : Result} → Ends P W D m r → (IsSpent r → ⊥) → (k x : ℕ) × (z : MSt) × ((m_after P k m ≡ m_ends x z) ⊎ (m_after P k m ≡ m_traps x z))
  ends_come (with_val k x s z e a b c) h = (k, x, z, inl e)
  ends_come (with_trap k x s z e a b c) h = (k, x, z, inr e)
  ends_come (goes_far k s z e a b d) h = absurd (h is_spent)

module _ (v : Env) (L : Linked v) (c : Fun) (b : Boot v c) (ins : List ℕ) where
  seen : (k : ℕ) → (n : ℕ) × View v.P (m_begin v.P ins) k (means v.p ins n)
  seen k = let n = suc (v.W * k) + 2 in let e : n - 2 ≡ suc (v.W * k) = omega arith in (n, view v.P v.W _ k _ (rw e at (comes v L c b ins n)))

  pub mid_right : MidRight v.p v.P ins
  mid_right = record {
    never_stuck = λ k e. view_stuck (seen k).1 e;
    shows = λ k. ((seen k).0, view_shows (seen k).1);
    follows = λ n. ends_follow (comes v L c b ins n);
    ends = λ k x z e. let g = view_ends x z (seen k).1 e in ((seen k).0, g.0, g.1, g.2, g.3);
    traps = λ k x z e. let g = view_traps x z (seen k).1 e in ((seen k).0, g.0, g.1, g.2, g.3);
    comes_to = λ n h. ends_come (comes v L c b ins n) h;
    marks = λ k z e. let g = view_marks z (seen k).1 e in ((seen k).0, g.0, g.1, g.2);
  }
