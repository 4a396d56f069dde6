-- What follows of the processor for every number of its steps.
use mathlib.Core.Path.{◌≡◌, refl, ap, ◌∙◌}
use mathlib.Core.Logic.{◌⊎◌, inl, inr}
use mathlib.Core.List.{List, ◌++◌}
use Prim.Native.Nat.{ℕ, zero, suc, ◌+◌, ◌-◌, ◌≤◌, ◌<◌}
use native.Mathlib.Omega.{arith}
use native.Mathlib.Nat.{add_assoc}
use native.Mathlib.Decide.{dec_lt}
use lib.ListN.{length, take, drop}
use lib.Seq.{take-append_seam, drop-append_seam, drop-append-add}
use Rattle.processor.specs.Machine.{Machine, Next, goes, halts, faults, step, then, after}
use Rattle.steps.specs.Steps.{MSt, MNext, m_goes, m_ends, m_traps, m_stuck, m_after}
use Rattle.lower.proofs.Instructions.{Env, V, base}
use Rattle.lower.proofs.Realized.{Sees}
use Rattle.lower.proofs.Match.{Ctx}
use Rattle.lower.proofs.Follows.{Ended, Is, Short, Follows, follows}

-- what has ended stays so
pub stays-ended : (j k c y : ℕ) (m z : Machine) → after k m ≡ halts c y z → after (k + j) m ≡ halts c y z
stays-ended zero k c y m z h = let i : k + 0 ≡ k = omega arith in ap (λ n. after n m) i ∙ h
stays-ended (suc j) k c y m z h = let i : k + suc j ≡ suc (k + j) = omega arith in ap (λ n. after n m) i ∙ ap (λ n. then n step) (stays-ended j k c y m z h)

abbrev pub At : Env → Next → Type 0
At e (goes x) = (v : V) × Sees e x v
At e (halts c y z) = Unit {0}
At e faults = ⊥

parts_of : (pre code cs post mem : List ℕ) (n : ℕ) → mem ≡ pre ++ (code ++ (cs ++ post)) → length cs ≡ n → (take (length pre) mem ≡ pre) × (drop ((length pre + length code) + n) mem ≡ post)
parts_of pre code cs post mem n p l = (rw p (take-append_seam pre (code ++ (cs ++ post))), rw (p, ← l, add_assoc, drop-append-add, drop-append-add) (drop-append_seam cs post))

module _ (c : Ctx) (m : Machine) (s : MSt) (start : Follows c m s 0) (well : (n : ℕ) → m_after c.prog n s ≡ m_stuck → ⊥) where
  ended_at : (k j : ℕ) (a y : ℕ) (t : MSt) → Ended a y k m t → At c.env (after (k + j) m)
  ended_at k j a y t r = rw (stays-ended j k a y m r.last r.comes) tt

  at_every : (k : ℕ) → At c.env (after k m)
  at_every k = go (follows c m s start (suc k))
    where
      go : Follows c m s (suc k) → At c.env (after k m)
      go r = by (dec_lt k r.k)
        where
          late : (r.k ≤ k) → (q : MNext) → m_after c.prog (suc k) s ≡ q → Is c m (suc k) r.k q → At c.env (after k m)
          late l (m_goes t) z (x, w, p, u, o, i) = absurd (let b : ⊥ = omega arith in b)
          late l (m_ends y t) z i = let b : r.k + (k - r.k) ≡ k = omega arith in rw b at (ended_at r.k (k - r.k) 0 y t i)
          late l (m_traps y t) z i = let b : r.k + (k - r.k) ≡ k = omega arith in rw b at (ended_at r.k (k - r.k) 3 y t i)
          late l m_stuck z i = absurd (well (suc k) z)

          either : (r.k ≤ k) → Is c m (suc k) r.k (m_after c.prog (suc k) s) ⊎ Short c m r.k (suc k) s → At c.env (after k m)
          either l (inl i) = late l (m_after c.prog (suc k) s) refl i
          either l (inr o) = let b : r.k + (k - r.k) ≡ k = omega arith in rw b at (ended_at r.k (k - r.k) 4 0 o.s o.ended)

          by : Dec (k < r.k) → At c.env (after k m)
          by (yes d) = let (x, w, p, q) = r.between k d in rw p (w, q)
          by (no d) = either (omega arith) r.is

  pub never_faults : (k : ℕ) → after k m ≡ faults → ⊥
  never_faults k z = rw z at (at_every k)

  pub outside : (k : ℕ) (x : Machine) → after k m ≡ goes x → (take (length c.env.pre) x.mem ≡ c.env.pre) × (drop (base c.env + c.env.total) x.mem ≡ c.env.post)
  outside k x z =
      let q : At c.env (goes x) = rw z at (at_every k) in
      parts_of c.env.pre c.env.code q.0.cells c.env.post x.mem c.env.total q.1.is_mem q.1.long
