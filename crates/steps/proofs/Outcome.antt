-- What the steps of a task come to, and how such runs are put together.
use Rattle.std.proofs.Common.{◌≡◌, ℕ, suc, ◌+◌, ◌-◌, ◌≤◌, List, [], ◌∷◌, ◌++◌, length, refl, subst, arith}
use mathlib.Core.Option.{some}
use Rattle.language.specs.Syntax.{nth}
use Rattle.language.specs.Meaning.{State, Result, trap, spent}
use Rattle.steps.specs.Steps.{Step, Act, MProg, Places, Saved, MSt, m_goes, m_traps, m_step}

-- code c has the steps at pc
abbrev pub At : List Step → ℕ → List Step → Type 0
At c pc [] = Unit {0}
At c pc (x ∷ xs) = (nth c pc ≡ some x) × At c (suc pc) xs

pub at_left : (c : List Step) (pc : ℕ) (xs ys : List Step) → At c pc (xs ++ ys) → At c pc xs
at_left c pc [] ys h = tt
at_left c pc (x ∷ xs) ys h = (h.0, at_left c (suc pc) xs ys h.1)

pub at_right : (c : List Step) (pc : ℕ) (xs ys : List Step) (n : ℕ) → length xs ≡ n → At c pc (xs ++ ys) → At c (pc + n) ys
at_right c pc [] ys n e h = let z : pc ≡ pc + n = omega arith in subst (λ i. At c i ys) z h
at_right c pc (x ∷ xs) ys n e h = let z : suc pc + length xs ≡ pc + n = omega arith in subst (λ i. At c i ys) z (at_right c (suc pc) xs ys (length xs) refl h.1)

-- a middle state that agrees with a state of the meaning in all that isn't a function's own
pub record Cfg : Type 0 where
  pub act : Act
  pub pc : ℕ
  pub places : Places
  pub stack : List Saved
  pub world : State

abbrev pub mk : Act → ℕ → Places → List Saved → State → Cfg
mk j pc ps st s = record { act = j; pc = pc; places = ps; stack = st; world = s }

abbrev pub mst : Cfg → MSt
mst c = record { act = c.act; pc = c.pc; places = c.places; stack = c.stack; words = c.world.words; arrays = c.world.arrays; ins = c.world.ins; outs = c.world.outs; held = c.world.held; calls = c.world.calls }

-- from m the steps come to what Q says of the result, or to the same trap in the same state; where the meaning was spent, to the state at which it was, after at least d / W steps
pub data Out (P : MProg) (W : ℕ) (Q : Cfg → Result → Type 0) : ℕ → Cfg → Result → Type 0 where
  done : {d : ℕ} {m : Cfg} {r : Result} → Q m r → Out P W Q d m r
  stepd : {d : ℕ} {m m1 : Cfg} {r : Result} → m_step P (mst m) ≡ m_goes (mst m1) → Out P W Q (d - W) m1 r → Out P W Q d m r
  trapd : {d : ℕ} {j : Act} {pc : ℕ} {ps : Places} {st : List Saved} {c : ℕ} {s : State} → m_step P (mst (mk j pc ps st s)) ≡ m_traps c (mst (mk j pc ps st s)) → Out P W Q d (mk j pc ps st s) (trap c s)
  spentd : {d : ℕ} {j : Act} {pc : ℕ} {ps : Places} {st : List Saved} {s : State} → d ≡ 0 → Out P W Q d (mk j pc ps st s) (spent s)

pub less : {P : MProg} {W : ℕ} {Q : Cfg → Result → Type 0} {d : ℕ} {m : Cfg} {r : Result} (k : ℕ) → k ≤ d → Out P W Q d m r → Out P W Q k m r
less k h (done q) = done q
less {W = W} k h (stepd {d = d} e o) = stepd e (less (k - W) (omega arith) o)
less k h (trapd e) = trapd e
less k h (spentd z) = spentd (omega arith)

-- one run behind another; F passes traps and spent runs on
pub record Passes (F : Result → Result) : Type 0 where
  pub traps : (c : ℕ) (s : State) → F (trap c s) ≡ trap c s
  pub spents : (s : State) → F (spent s) ≡ spent s

pub bind : {P : MProg} {W : ℕ} {Q1 Q : Cfg → Result → Type 0} {d : ℕ} {m : Cfg} {r : Result} (F : Result → Result) → Passes F → ((m1 : Cfg) (r1 : Result) → Q1 m1 r1 → Out P W Q d m1 (F r1)) → Out P W Q1 d m r → Out P W Q d m (F r)
bind F pf k (done {m = m} {r = r} q) = k m r q
bind {W = W} F pf k (stepd {d = d} e o) = stepd e (bind F pf (λ m1 r1 q. less (d - W) (omega arith) (k m1 r1 q)) o)
bind F pf k (trapd {c = c} {s = s} e) = rw (pf.traps c s) (trapd e)
bind F pf k (spentd {s = s} z) = rw (pf.spents s) (spentd z)
