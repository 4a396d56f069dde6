-- A run of instructions is a run of the processor, and on the way what isn't the image's is left alone.
use mathlib.Core.Path.{◌≡◌, refl, ap, subst, ◌∙◌}
use mathlib.Core.Bool.{true, false, not}
use mathlib.Core.Option.{some}
use Prim.Native.Nat.{ℕ, zero, suc, ◌≤◌, ◌<◌}
use native.Mathlib.Omega.{arith}
use lib.Dec.{T, eqb, ltb}
use Rattle.language.specs.Syntax.{pick, nth}
use Rattle.processor.specs.Machine.{Machine, goes, step, then, after}
use Rattle.lower.proofs.Instructions.{Env, V, l_bnz, l_bge, gp, jumps, One, Steps, here, ◌▸◌, Some, ◌▹◌, d_lw, d_sw, d_num, d_lui, d_alui, d_alu, d_bz, d_bnz, d_mul, d_bge, d_j, d_jal, d_ret, d_callr, d_sp, d_room, d_down, d_up, d_out, d_in, d_none, d_addg, d_lwr, d_lwc, d_swr}
use Rattle.lower.proofs.Realized.{Sees, Goes, x_lw, x_sw, x_num, x_lui, x_alui, x_alu, x_bz, x_bnz, x_mul, x_bge, x_j, x_jal, x_ret, x_callr, x_sp, x_room, x_down, x_up, x_out, x_in, x_none, x_addg, x_lwr, x_lwc, x_swr}

-- one step first
pub after_first : (k : ℕ) (m n : Machine) → step m ≡ goes n → after (suc k) m ≡ after k n
after_first zero m n h = h
after_first (suc k) m n h = ap (λ x. then x step) (after_first k m n h)

-- how many instructions a run has
abbrev pub steps_in : {e : Env} {w v : V} → Steps e w v → ℕ
steps_in here = 0
steps_in (i ▸ t) = suc (steps_in t)

-- one run behind another
unfoldable pub and_on : {e : Env} {u w v : V} → Steps e w v → Steps e u w → Steps e u v
and_on here k = k
and_on (i ▸ t) k = i ▸ and_on t k

abbrev pub all_of : {e : Env} {w v : V} → Some e w v → Steps e w v
all_of (i ▹ t) = i ▸ t

pub and_first : {e : Env} {u w v : V} → Steps e w v → Some e u w → Some e u v
and_first here k = k
and_first (i ▸ t) k = i ▹ and_on t (all_of k)

pub some-long : {e : Env} {w v : V} (t : Some e w v) → 1 ≤ steps_in (all_of t)
some-long (i ▹ t) = omega arith

one_real : (e : Env) (m : Machine) (v u : V) → Sees e m v → One e v u → Goes e m u
one_real e m v u s (d_lw i g c) = x_lw e m v s i g c
one_real e m v u s (d_sw i g c) = x_sw e m v s i g c
one_real e m v u s (d_num i g c) = x_num e m v s i g c
one_real e m v u s (d_lui i g) = x_lui e m v s i g
one_real e m v u s (d_alui i g h) = x_alui e m v s i g h
one_real e m v u s (d_alu i g h k) = x_alu e m v s i g h k
one_real e m v u s (d_bz i g) = x_bz e m v s i g
one_real e m v u s (d_bnz i g) = x_bnz e m v s i g
one_real e m v u s (d_mul i g h k) = x_mul e m v s i g h k
one_real e m v u s (d_bge i g h) = x_bge e m v s i g h
one_real e m v u s (d_j i) = x_j e m v s i
one_real e m v u s (d_jal i) = x_jal e m v s i
one_real e m v u s (d_ret p i h) = x_ret e m v s p i h
one_real e m v u s (d_callr t i g h) = x_callr e m v s t i g h
one_real e m v u s (d_sp i g) = x_sp e m v s i g
one_real e m v u s (d_room i g f c h k) = x_room e m v s i g f c h k
one_real e m v u s (d_down n i g c l h) = x_down e m v s n i g c l h
one_real e m v u s (d_up n t i g c h) = x_up e m v s n t i g c h
one_real e m v u s (d_out i h) = x_out e m v s i h
one_real e m v u s (d_in i h k) = x_in e m v s i h k
one_real e m v u s (d_none i h k) = x_none e m v s i h k
one_real e m v u s (d_addg i g h) = x_addg e m v s i g h
one_real e m v u s (d_lwr j i g h a c) = x_lwr e m v s j i g h a c
one_real e m v u s (d_lwc j i g h a c) = x_lwc e m v s j i g h a c
one_real e m v u s (d_swr j i g h a c) = x_swr e m v s j i g h a c

-- k steps, each state on the way seen as some state with the same surroundings
pub record Runs (e : Env) (k : ℕ) (m : Machine) (w : V) : Type 0 where
  pub last : Machine
  pub comes : after k m ≡ goes last
  pub seen : Sees e last w
  pub between : (j : ℕ) → j < k → (x : Machine) × (u : V) × (after j m ≡ goes x) × Sees e x u

pub runs : (e : Env) (w v : V) (t : Steps e w v) (m : Machine) → Sees e m v → Runs e (steps_in t) m w
unfolding Goes
runs e w v here m s = record { last = m; comes = refl; seen = s; between = λ j k. absurd (let z : ⊥ = omega arith in z) }
runs e w v (◌▸◌ {u = u} i t) m s = let (n, h, q) = one_real e m v u s i in put_first n h (runs e w u t n q)
  where
    put_first : (n : Machine) → step m ≡ goes n → Runs e (steps_in t) n w → Runs e (suc (steps_in t)) m w
    put_first n h r = record { last = r.last; comes = after_first (steps_in t) m n h ∙ r.comes; seen = r.seen; between = way }
      where
        way : (j : ℕ) → j < suc (steps_in t) → (x : Machine) × (u : V) × (after j m ≡ goes x) × Sees e x u
        way zero k = (m, v, refl, s)
        way (suc j) k = let (x, u, c, d) = r.between j (omega arith) in (x, u, after_first j m n h ∙ c, d)

-- branches whose way is known
pub taken_bnz : {e : Env} {v : V} {s t : ℕ} → nth e.row v.pc ≡ some (l_bnz s t) → T (gp s) → eqb (v.r s) 0 ≡ false → One e v (jumps v t)
taken_bnz {e} {v} {s} {t} i g h = subst (λ b. One e v (jumps v (pick (not b) t (suc v.pc)))) h (d_bnz i g)

pub left_bnz : {e : Env} {v : V} {s t : ℕ} → nth e.row v.pc ≡ some (l_bnz s t) → T (gp s) → eqb (v.r s) 0 ≡ true → One e v (jumps v (suc v.pc))
left_bnz {e} {v} {s} {t} i g h = subst (λ b. One e v (jumps v (pick (not b) t (suc v.pc)))) h (d_bnz i g)

pub taken_bge : {e : Env} {v : V} {x y t : ℕ} → nth e.row v.pc ≡ some (l_bge x y t) → T (gp x) → T (gp y) → ltb (v.r x) (v.r y) ≡ false → One e v (jumps v t)
taken_bge {e} {v} {x} {y} {t} i g f h = subst (λ b. One e v (jumps v (pick (not b) t (suc v.pc)))) h (d_bge i g f)

pub left_bge : {e : Env} {v : V} {x y t : ℕ} → nth e.row v.pc ≡ some (l_bge x y t) → T (gp x) → T (gp y) → ltb (v.r x) (v.r y) ≡ true → One e v (jumps v (suc v.pc))
left_bge {e} {v} {x} {y} {t} i g f h = subst (λ b. One e v (jumps v (pick (not b) t (suc v.pc)))) h (d_bge i g f)
