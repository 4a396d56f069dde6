-- The numbers of the instructions fit their fields: what the encoding asks of the code.
use mathlib.Core.Path.{◌≡◌}
use mathlib.Core.Bool.{true, false}
use mathlib.Core.List.{List, [], ◌∷◌, ◌++◌}
use mathlib.Core.Option.{some}
use Prim.Native.Nat.{ℕ, zero, suc, ◌+◌, ◌*◌, ◌≤◌, ◌<◌}
use native.Mathlib.Omega.{arith}
use lib.ListN.{length}
use Rattle.language.specs.Syntax.{nth}
use Rattle.lower.proofs.Lists.{nth_in}
use Rattle.language.specs.Words.{all}
use Rattle.lower.specs.Lower.{lens, size_of, array_at, tab_long, tab_at, top, Op, Op1, word_no, frame_size, fun_of, loads, low, lower, o_add, o_and, o_div, o_eq, o_ge, o_gt, o_le, o_lt, o_mul, o_ne, o_or, o_rem, o_shl, o_shr, o_sub, o_xor, op_of, op1_of, ops, ops1, prologue, slots, stores, u_flag, u_inv, u_neg, u_not}
use Rattle.lower.proofs.InRow.{Firm, Neat, past}
use Rattle.steps.specs.Steps.{Step, s_num, s_copy, s_bin, s_un, s_flag, s_getw, s_setw, s_jump, s_jz, s_call, s_out, s_ret, s_table, s_in, s_idx, s_put, s_len, o_top, o_own, MFn, MProg}
use Rattle.processor.specs.Instr.{Near, Wf}
use Rattle.lower.specs.Code.{LI, l_sw, l_jal, l_callr, l_num, to_real}
use Rattle.lower.proofs.Operators.{past_both}

abbrev pub RowFits : ℕ → List LI → Type 0
RowFits p [] = Unit {0}
RowFits p (i ∷ is) = Wf (to_real p i) × RowFits (suc p) is

pub both_fit : (p : ℕ) (xs ys : List LI) → RowFits p xs → RowFits (past p xs) ys → RowFits p (xs ++ ys)
both_fit p [] ys a b = b
both_fit p (x ∷ xs) ys a b = (a.0, both_fit (suc p) xs ys a.1 b)

-- an operator's instructions
ops-fit : (p : ℕ) (o : Op) → RowFits p (ops p o)
ops-fit p o_add = omega arith
ops-fit p o_sub = omega arith
ops-fit p o_mul = omega arith
ops-fit p o_div = omega arith
ops-fit p o_rem = omega arith
ops-fit p o_eq = omega arith
ops-fit p o_ne = omega arith
ops-fit p o_lt = omega arith
ops-fit p o_le = omega arith
ops-fit p o_gt = omega arith
ops-fit p o_ge = omega arith
ops-fit p o_and = omega arith
ops-fit p o_or = omega arith
ops-fit p o_xor = omega arith
ops-fit p o_shl = omega arith
ops-fit p o_shr = omega arith

ops1-fit : (p : ℕ) (o : Op1) → RowFits p (ops1 o)
ops1-fit p u_neg = omega arith
ops1-fit p u_not = omega arith
ops1-fit p u_inv = omega arith
ops1-fit p u_flag = omega arith

low_fits : (n : ℕ) → n < all → Near 2048 (low n)
low_fits n h = omega arith

high_fits : (n : ℕ) → n < all → top n < 1048576
high_fits n h = omega arith

loads-fit : (n q k p : ℕ) → q + n ≤ 32 → k + n ≤ 1023 → RowFits p (loads q k n)
loads-fit zero q k p h l = tt
loads-fit (suc n) q k p h l = (omega arith, loads-fit n (suc q) (suc k) (suc p) (omega arith) (omega arith))

stores-fit : (rg : ℕ → ℕ) (n k p : ℕ) → ((j : ℕ) → j < k + n → rg j < 32) → k + n ≤ 1023 → RowFits p (stores rg k n)
stores-fit rg zero k p h l = tt
stores-fit rg (suc n) k p h l = let z : rg k < 32 = h k (omega arith) in (omega arith, stores-fit rg n (suc k) (suc p) (λ j i. h j (omega arith)) (omega arith))

past_low : (p : ℕ) (xs : List LI) → p ≤ past p xs
past_low p [] = omega arith
past_low p (x ∷ xs) = omega (arith, past_low (suc p) xs)

module _ (en at : ℕ → ℕ) (m : MProg) (f : MFn) (neat : Neat m f) (in_reach : (g : ℕ) → en g < 262144) (at-reach : (t : ℕ) → at t < 262144) (all-few : (g : ℕ) (h : MFn) → fun_of m g ≡ some h → h.params ≤ 8) where
  small : 4 * frame_size f < all
  small = omega (arith, neat.fits)

  pub step_fits : (p : ℕ) (s : Step) → past p (lower en at m f p s) ≤ 262144 → Firm m (slots f) s → RowFits p (lower en at m f p s)
  step_fits p (s_num d n) h k = omega (arith, low_fits n k.1, high_fits n k.1)
  step_fits p (s_copy d a) h k = omega arith
  step_fits p (s_bin o d a b) h k = (omega arith, (omega arith, both_fit (suc (suc p)) (ops (suc (suc p)) (op_of o)) _ (ops-fit (suc (suc p)) (op_of o)) (omega arith)))
  step_fits p (s_un o d a) h k = (omega arith, both_fit (suc p) (ops1 (op1_of o)) _ (ops1-fit (suc p) (op1_of o)) (omega arith))
  step_fits p (s_flag d a) h k = omega arith
  step_fits p (s_getw d i) h k = let z : word_no m i < all = omega arith in omega (arith, low_fits (word_no m i) z, high_fits (word_no m i) z)
  step_fits p (s_setw i a) h k = let z : word_no m i < all = omega arith in omega (arith, low_fits (word_no m i) z, high_fits (word_no m i) z)
  step_fits p (s_jump t) h k = let z : at t < 262144 = at-reach t in omega arith
  step_fits p (s_jz a t) h k = let z : at t < 262144 = at-reach t in omega arith
  step_fits p (s_call d g k n os) h l =
      let q : ℕ = past p (loads 10 k n) in
      let z : suc (suc q) ≤ 262144 = rw past_both at h in
      let e : en g < 262144 = in_reach g in
      let w : n ≤ 8 = by l.3 in
      both_fit p (loads 10 k n) (l_jal (en g) ∷ l_sw 10 (suc d) ∷ []) (loads-fit n 10 k p (omega arith) (omega (arith, neat.fits))) (omega (arith, neat.fits))
    where
      by : (x : MFn) × (fun_of m g ≡ some x) × (x.params ≡ n) → n ≤ 8
      by (x, u, y) = omega (arith, all-few g x u)
  step_fits p (s_out a) h k = omega arith
  step_fits p (s_ret a) h k = omega (arith, low_fits (4 * frame_size f) small, high_fits (4 * frame_size f) small)
  step_fits p (s_table d i t k n os) h l =
      let a : tab_long m t < all = omega arith in
      let b : tab_at m t < all = omega arith in
      let w : n ≤ 8 = by l.4 in (
        omega (arith, neat.fits),
        (
          omega (arith, low_fits (tab_long m t) a, high_fits (tab_long m t) a),
          (
            omega (arith, low_fits (tab_long m t) a, high_fits (tab_long m t) a),
            (
              omega arith,
              (
                omega arith,
                (
                  omega arith,
                  (
                    omega arith,
                    (
                      tt,
                      (
                        omega (arith, high_fits (tab_at m t) b),
                        (
                          omega arith,
                          (
                            omega arith,
                            (
                              omega arith,
                              (
                                omega arith,
                                (
                                  omega (arith, low_fits (tab_at m t) b),
                                  (
                                    omega arith,
                                    both_fit _ (loads 10 k n) (l_callr 6 ∷ l_sw 10 (suc d) ∷ []) (loads-fit n 10 k _ (omega arith) (omega (arith, neat.fits))) (omega (arith, neat.fits)),
                                  ),
                                ),
                              ),
                            ),
                          ),
                        ),
                      ),
                    ),
                  ),
                ),
              ),
            ),
          ),
        ),
      )
    where
      by : (hs : List ℕ) × (nth m.tables t ≡ some hs) × (1 ≤ length hs) × ((l g : ℕ) → nth hs l ≡ some g → (x : MFn) × (fun_of m g ≡ some x) × (x.params ≡ n)) → n ≤ 8
      by (hs, e, o, q) = let (g, z) = nth_in hs 0 (omega arith) in let (x, u, y) = q 0 g z in omega (arith, all-few g x u)
  step_fits p (s_in d) h k = omega (arith, neat.fits)
  step_fits p (s_idx d (o_top a) i) h k = let z : array_at m a < all = omega arith in (omega (arith, neat.fits), (omega (arith, low_fits (size_of (lens m.arrays) a) k.2.1, high_fits (size_of (lens m.arrays) a) k.2.1), (omega (arith, low_fits (size_of (lens m.arrays) a) k.2.1, high_fits (size_of (lens m.arrays) a) k.2.1), (omega arith, (omega arith, (omega arith, (omega arith, (tt, omega (arith, neat.fits, low_fits (array_at m a) z, high_fits (array_at m a) z)))))))))
  step_fits p (s_idx d (o_own j) i) h k = tt
  step_fits p (s_put true (o_top a) i b) h k = let z : array_at m a < all = omega arith in (omega (arith, neat.fits), (omega (arith, low_fits (size_of (lens m.arrays) a) k.2.1, high_fits (size_of (lens m.arrays) a) k.2.1), (omega (arith, low_fits (size_of (lens m.arrays) a) k.2.1, high_fits (size_of (lens m.arrays) a) k.2.1), (omega arith, (omega arith, (omega arith, (omega arith, (tt, omega (arith, neat.fits, low_fits (array_at m a) z, high_fits (array_at m a) z)))))))))
  step_fits p (s_put false (o_top a) i b) h k = let z : array_at m a < all = omega arith in (omega (arith, neat.fits), (omega (arith, low_fits (size_of (lens m.arrays) a) k.2.1, high_fits (size_of (lens m.arrays) a) k.2.1), (omega (arith, low_fits (size_of (lens m.arrays) a) k.2.1, high_fits (size_of (lens m.arrays) a) k.2.1), (omega arith, (omega arith, (omega arith, (omega arith, (tt, omega (arith, neat.fits, low_fits (array_at m a) z, high_fits (array_at m a) z)))))))))
  step_fits p (s_put w (o_own j) i b) h k = tt
  step_fits p (s_len d (o_top a)) h k = omega (arith, neat.fits, low_fits (size_of (lens m.arrays) a) k.1.1, high_fits (size_of (lens m.arrays) a) k.1.1)
  step_fits p (s_len d (o_own j)) h k = tt

  pub pro_fits : (p : ℕ) → past p (prologue p f) ≤ 262144 → RowFits p (prologue p f)
  pro_fits p h =
      let k : f.params ≤ 8 = neat.few in
      let l : slots f ≤ 1022 = neat.fits in
      let y : f.params + f.vars ≤ slots f = neat.some_places in
      let n : Near 2048 (low (4 * frame_size f)) = low_fits (4 * frame_size f) small in
      let o : top (4 * frame_size f) < 1048576 = high_fits (4 * frame_size f) small in (
        omega arith,
        (
          omega arith,
          (
            omega arith,
            (
              omega arith,
              (
                omega arith,
                (
                  omega arith,
                  (
                    tt,
                    (
                      omega arith,
                      (
                        omega arith,
                        both_fit _ (stores (λ j. 10 + j) 0 f.params) (l_num 5 0 ∷ stores (λ j. 5) f.params f.vars) (stores-fit (λ j. 10 + j) f.params 0 _ (λ j i. omega arith) (omega arith)) (omega arith, stores-fit (λ j. 5) f.vars f.params _ (λ j i. omega arith) (omega arith)),
                      ),
                    ),
                  ),
                ),
              ),
            ),
          ),
        ),
      )
