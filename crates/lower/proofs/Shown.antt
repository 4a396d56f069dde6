-- What the processor has put out is never taken back, and what has ended stays so.
use mathlib.Core.Path.{◌≡◌, sym, ap, subst, ◌∙◌}
use mathlib.Core.Bool.{Bool, true, false, ◌&&◌}
use mathlib.Core.List.{List, [], ◌∷◌, ◌++◌}
use mathlib.Core.Option.{Option, some, none}
use Prim.Native.Nat.{ℕ, zero, suc, ◌+◌, ◌-◌, ◌≤◌}
use native.Mathlib.Omega.{arith}
use native.Mathlib.Decide.{dec_le}
use lib.Dec.{eqb}
use Rattle.language.specs.Syntax.{pick, opt}
use Rattle.language.specs.Words.{add}
use Rattle.processor.specs.Machine.{Machine, Next, goes, halts, faults, does, step, then, after, shown, load, envs, reads, branch, muls, f_op, f_3, f_1, f_2, f_7, imm_i_of, imm_s_of, ok_i, ok_r, reg}
use Rattle.language.specs.Observe.{Front, none_yet, and_so}
use Rattle.lower.proofs.AtEveryStep.{stays-ended}

pub front_refl : (s : List ℕ) → Front s s
front_refl [] = none_yet
front_refl (x ∷ s) = and_so (front_refl s)

pub front_trans : {s t u : List ℕ} → Front s t → Front t u → Front s u
front_trans none_yet g = none_yet
front_trans (and_so f) (and_so g) = and_so (front_trans f g)

front-more : (s t : List ℕ) → Front s (s ++ t)
front-more [] t = none_yet
front-more (x ∷ s) t = and_so (front-more s t)

data Grows (o : List ℕ) : Next → Type 0 where
  on_goes : {x : Machine} → Front o x.outs → Grows o (goes x)
  on_halts : {c y : ℕ} {x : Machine} → Front o x.outs → Grows o (halts c y x)
  no_more : Grows o faults

either : {o : List ℕ} (b : Bool) {x y : Next} → Grows o x → Grows o y → Grows o (pick b x y)
either true a c = a
either false a c = c

if_some : {A : Type 0} {o : List ℕ} (t : Option A) {f : A → Next} → ((x : A) → Grows o (f x)) → Grows o (opt t faults f)
if_some none a = no_more
if_some (some x) a = a x

grows_reads : (m : Machine) (l : List ℕ) → Grows m.outs (reads m l)
grows_reads m [] = on_goes (front_refl m.outs)
grows_reads m (n ∷ ns) = on_goes (front_refl m.outs)

grows_envs : (m : Machine) (c : ℕ) → Grows m.outs (envs m c)
grows_envs m c = let r : Front m.outs m.outs = front_refl m.outs in either (eqb c 0) (on_halts r) (either (eqb c 1) (on_goes (front-more m.outs _)) (either (eqb c 2) (grows_reads m m.ins) (either (eqb c 3) (on_halts r) (either (eqb c 4) (on_halts r) no_more))))

grows_branch : (m x y : Machine) (b : Bool) → Front m.outs x.outs → Front m.outs y.outs → Grows m.outs (goes (pick b x y))
grows_branch m x y true f g = on_goes f
grows_branch m x y false f g = on_goes g

grows_does : (m : Machine) (w : ℕ) → Grows m.outs (does m w)
grows_does m w =
    let r : Front m.outs m.outs = front_refl m.outs in
    either (eqb (f_op w) 55) (on_goes r) (either (eqb (f_op w) 23) (on_goes r) (either (eqb (f_op w) 111) (on_goes r) (either (eqb (f_op w) 103 && eqb (f_3 w) 0) (on_goes r)
    (either (eqb (f_op w) 99) (if_some (branch (f_3 w) (reg m (f_1 w)) (reg m (f_2 w))) (λ b. grows_branch m _ _ b r r))
    (either (eqb (f_op w) 3 && eqb (f_3 w) 2) (if_some (load m (add (reg m (f_1 w)) (imm_i_of w))) (λ x. on_goes r))
    (either (eqb (f_op w) 35 && eqb (f_3 w) 2) (if_some (load m (add (reg m (f_1 w)) (imm_s_of w))) (λ x. on_goes r))
    (either (eqb (f_op w) 19 && ok_i w) (on_goes r)
    (either (eqb (f_op w) 51 && eqb (f_7 w) 1) (if_some (muls (f_3 w) (reg m (f_1 w)) (reg m (f_2 w))) (λ x. on_goes r))
    (either (eqb (f_op w) 51 && ok_r w) (on_goes r) (either (eqb w 115) (grows_envs m (reg m 17)) no_more))))))))))

grows_step : (m : Machine) → Grows m.outs (step m)
grows_step m = if_some (load m m.pc) (λ w. grows_does m w)

abbrev On : Next → Next → Type 0
On r faults = Unit {0}
On r (goes x) = Front (shown r) x.outs
On r (halts c y x) = Front (shown r) x.outs

-- one more step
one_on : (r s : Next) → On r s → On r (then s step)
one_on r (goes x) f = go (step x) (grows_step x)
  where
    go : (t : Next) → Grows x.outs t → On r t
    go (goes y) (on_goes g) = front_trans f g
    go (halts c n y) (on_halts g) = front_trans f g
    go faults g = tt
one_on r (halts c n y) f = f
one_on r faults f = tt

self_on : (r : Next) → On r r
self_on (goes x) = front_refl x.outs
self_on (halts c y x) = front_refl x.outs
self_on faults = tt

on-after : (k j : ℕ) (m : Machine) → On (after k m) (after (k + j) m)
on-after k zero m = let e : k + 0 ≡ k = omega arith in subst (λ n. On (after k m) (after n m)) (sym e) (self_on (after k m))
on-after k (suc j) m = let e : k + suc j ≡ suc (k + j) = omega arith in subst (λ n. On (after k m) (after n m)) (sym e) (one_on (after k m) (after (k + j) m) (on-after k j m))

pub shown-goes : (k j : ℕ) (m x : Machine) → k ≤ j → after j m ≡ goes x → Front (shown (after k m)) x.outs
shown-goes k j m x l e = let z : k + (j - k) ≡ j = omega arith in subst (On (after k m)) (ap (λ n. after n m) z ∙ e) (on-after k (j - k) m)

pub shown-halts : (k j c y : ℕ) (m x : Machine) → after j m ≡ halts c y x → Front (shown (after k m)) x.outs
shown-halts k j c y m x e = go (dec_le k j)
  where
    go : Dec (k ≤ j) → Front (shown (after k m)) x.outs
    go (yes l) = let z : k + (j - k) ≡ j = omega arith in subst (On (after k m)) (ap (λ n. after n m) z ∙ e) (on-after k (j - k) m)
    go (no l) = let z : j + (k - j) ≡ k = omega arith in subst (λ r. Front (shown r) x.outs) (sym (sym (ap (λ n. after n m) z) ∙ stays-ended (k - j) j c y m x e)) (front_refl x.outs)

-- two ends are one
pub one_end : (k j c d x y : ℕ) (m z w : Machine) → after k m ≡ halts c x z → after j m ≡ halts d y w → ◌≡◌ {A = Next} (halts c x z) (halts d y w)
one_end k j c d x y m z w e f = let q : k + j ≡ j + k = omega arith in sym (stays-ended j k c x m z e) ∙ (ap (λ n. after n m) q ∙ stays-ended k j d y m w f)

pub no_end : (k j c x : ℕ) (m z w : Machine) → k ≤ j → after k m ≡ halts c x z → after j m ≡ goes w → ⊥
no_end k j c x m z w l e f = let q : k + (j - k) ≡ j = omega arith in let r : ◌≡◌ {A = Next} (halts c x z) (goes w) = sym (stays-ended (j - k) k c x m z e) ∙ (ap (λ n. after n m) q ∙ f) in let y : ◌≡◌ {A = ℕ} 0 1 = cc in omega arith
