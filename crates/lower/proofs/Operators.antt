-- The operators by instructions.
use mathlib.Core.Path.{◌≡◌, refl, sym, ap, ◌∙◌}
use mathlib.Core.Bool.{Bool, true, false, ◌&&◌, ◌||◌, not}
use mathlib.Core.List.{List, [], ◌∷◌, ◌++◌}
use mathlib.Core.Option.{some}
use Prim.Native.Nat.{ℕ, zero, suc, ◌+◌, ◌*◌, ◌/◌, ◌%◌, ◌^◌, ◌<◌}
use native.Mathlib.Omega.{arith}
use native.Mathlib.Nat.{div-le_self, mod-le, two-pow-succ}
use lib.Dec.{eqb, ltb, leb}
use borrow.Author.Tests.{ne_eqb, eqb-true, eqb-false, ltb-true, ltb-false, lt-ltb, le-ltb, le-leb, lt-leb, both_ways}
use Rattle.language.specs.Syntax.{pick, nth}
use Rattle.language.specs.Meaning.{single, div0, binary}
use Rattle.language.specs.Words.{all, bit, odd, bits, xor1, and_w, or_w, xor_w, add, sub, mul, shl, shr}
use Rattle.lower.specs.Lower.{Op, Op1, bin_of, high, low, no_bin, o_add, o_and, o_div, o_eq, o_ge, o_gt, o_le, o_lt, o_mul, o_ne, o_or, o_rem, o_shl, o_shr, o_sub, o_xor, op_of, op1_of, ops, ops1, u_flag, u_inv, u_neg, u_not, un_of}
use Rattle.lower.proofs.InRow.{Seg, past}
use Rattle.lower.proofs.Instructions.{Env, V, LI, l_ecall, Steps, here, ◌▸◌, d_num, d_alui, d_alu, d_mul}
use Rattle.lower.proofs.Runs.{taken_bnz, left_bnz}

-- facts on words
pub num-is : (n : ℕ) → n < all → add (high n) (low n) ≡ n
num-is n h = omega arith

eq_is : (x y : ℕ) → x < all → y < all → ltb (sub x y) 1 ≡ eqb x y
eq_is x y h k = go (eqb x y) refl
  where
    go : (b : Bool) → eqb x y ≡ b → ltb (sub x y) 1 ≡ eqb x y
    go true e = let i : x ≡ y = eqb-true x y e in lt-ltb (sub x y) 1 (omega arith) ∙ sym e
    go false e = let i : x ≡ y → ⊥ = eqb-false x y e in le-ltb (sub x y) 1 (omega arith) ∙ sym e

not_is : (b : Bool) → xor_w (bit b) 1 ≡ bit (not b)
not_is true = refl
not_is false = refl

le_is : (x y : ℕ) → not (ltb y x) ≡ leb x y
le_is x y = go (ltb y x) refl
  where
    go : (b : Bool) → ltb y x ≡ b → not (ltb y x) ≡ leb x y
    go true e = ap not e ∙ sym (lt-leb x y (ltb-true y x e))
    go false e = ap not e ∙ sym (le-leb x y (ltb-false y x e))

bit-lt : (b : Bool) → bit b < all
bit-lt true = omega arith
bit-lt false = omega arith

bits-lt : (f : Bool → Bool → Bool) (n x y : ℕ) → bits f n x y < 2 ^ n
bits-lt f zero x y = omega arith
bits-lt f (suc n) x y = let i : bits f n (x / 2) (y / 2) < 2 ^ n = bits-lt f n (x / 2) (y / 2) in rw two-pow-succ (by (f (odd x) (odd y)) (bits f n (x / 2) (y / 2)) (2 ^ n) i)
  where
    by : (b : Bool) (u z : ℕ) → u < z → bit b + 2 * u < z + z
    by true u z k = omega arith
    by false u z k = omega arith

pub bin-lt : (o : Op) (x y : ℕ) → x < all → y < all → bin_of o x y < all
bin-lt o_add x y h k = omega arith
bin-lt o_sub x y h k = omega arith
bin-lt o_mul x y h k = omega arith
bin-lt o_div x y h k = omega (arith, div-le_self x y)
bin-lt o_rem x y h k = omega (arith, mod-le x y)
bin-lt o_eq x y h k = bit-lt (eqb x y)
bin-lt o_ne x y h k = bit-lt (not (eqb x y))
bin-lt o_lt x y h k = bit-lt (ltb x y)
bin-lt o_le x y h k = bit-lt (leb x y)
bin-lt o_gt x y h k = bit-lt (ltb y x)
bin-lt o_ge x y h k = bit-lt (leb y x)
bin-lt o_and x y h k = bits-lt (λ a b. a && b) 32 x y
bin-lt o_or x y h k = bits-lt (λ a b. a || b) 32 x y
bin-lt o_xor x y h k = bits-lt xor1 32 x y
bin-lt o_shl x y h k = by (ltb y 32)
  where
    by : (b : Bool) → pick b ((x * 2 ^ (y % 32)) % all) 0 < all
    by true = omega arith
    by false = omega arith
bin-lt o_shr x y h k = by (ltb y 32)
  where
    by : (b : Bool) → pick b (x / 2 ^ (y % 32)) 0 < all
    by true = omega (arith, div-le_self x (2 ^ (y % 32)))
    by false = omega arith

-- a shift by what is left of 32, or nothing
once : (x : ℕ) → x < all → mul x 1 ≡ x
once x h = omega arith

never : (x : ℕ) → mul x 0 ≡ 0
never x = omega arith

shl_is : (x y : ℕ) → x < all → mul (shl x (y % 32)) (bit (ltb y 32)) ≡ shl x y
shl_is x y h = go (ltb y 32) refl
  where
    go : (b : Bool) → ltb y 32 ≡ b → mul (shl x (y % 32)) (bit (ltb y 32)) ≡ shl x y
    go true e = let i : y % 32 ≡ y = omega (arith, ltb-true y 32 e) in ap (λ b. mul (shl x (y % 32)) (bit b)) e ∙ once (shl x (y % 32)) (bin-lt o_shl x (y % 32) h (omega arith)) ∙ ap (shl x) i
    go false e = ap (λ b. mul (shl x (y % 32)) (bit b)) e ∙ never (shl x (y % 32)) ∙ ap (λ b. pick b ((x * 2 ^ (y % 32)) % all) 0) (sym e)

shr_is : (x y : ℕ) → x < all → mul (shr x (y % 32)) (bit (ltb y 32)) ≡ shr x y
shr_is x y h = go (ltb y 32) refl
  where
    go : (b : Bool) → ltb y 32 ≡ b → mul (shr x (y % 32)) (bit (ltb y 32)) ≡ shr x y
    go true e = let i : y % 32 ≡ y = omega (arith, ltb-true y 32 e) in ap (λ b. mul (shr x (y % 32)) (bit b)) e ∙ once (shr x (y % 32)) (bin-lt o_shr x (y % 32) h (omega arith)) ∙ ap (shr x) i
    go false e = ap (λ b. mul (shr x (y % 32)) (bit b)) e ∙ never (shr x (y % 32)) ∙ ap (λ b. pick b (x / 2 ^ (y % 32)) 0) (sym e)

abbrev pub regs_to : V → (ℕ → ℕ) → ℕ → V
regs_to v r p = record { r = r; sp = v.sp; pc = p; cells = v.cells; ins = v.ins; outs = v.outs }

abbrev pub Makes : Env → V → List LI → ℕ → Type 0
Makes e v is z = (r : ℕ → ℕ) × Steps e (regs_to v r (past v.pc is)) v × (r 7 ≡ z)

pub ops-run : (e : Env) (o : Op) (v : V) → v.r 5 < all → v.r 6 < all → no_bin o (v.r 6) ≡ false → Seg e.row v.pc (ops v.pc o) → Makes e v (ops v.pc o) (bin_of o (v.r 5) (v.r 6))
ops-run e o_add v h k n g = (_, d_alu g.0 tt tt tt ▸ here, refl)
ops-run e o_sub v h k n g = (_, d_alu g.0 tt tt tt ▸ here, refl)
ops-run e o_mul v h k n g = (_, d_mul g.0 tt tt tt ▸ here, refl)
ops-run e o_div v h k n g = (_, taken_bnz g.0 tt n ▸ d_mul g.1.1.1.1.0 tt tt tt ▸ here, ap (λ b. pick b 4294967295 (v.r 5 / v.r 6)) n)
ops-run e o_rem v h k n g = (_, taken_bnz g.0 tt n ▸ d_mul g.1.1.1.1.0 tt tt tt ▸ here, ap (λ b. pick b (v.r 5) (v.r 5 % v.r 6)) n)
ops-run e o_eq v h k n g = (_, d_alu g.0 tt tt tt ▸ d_alui g.1.0 tt tt ▸ here, ap bit (eq_is (v.r 5) (v.r 6) h k))
ops-run e o_ne v h k n g = (_, d_alu g.0 tt tt tt ▸ d_alui g.1.0 tt tt ▸ d_alui g.1.1.0 tt tt ▸ here, not_is (ltb (sub (v.r 5) (v.r 6)) 1) ∙ ap (λ b. bit (not b)) (eq_is (v.r 5) (v.r 6) h k))
ops-run e o_lt v h k n g = (_, d_alu g.0 tt tt tt ▸ here, refl)
ops-run e o_le v h k n g = (_, d_alu g.0 tt tt tt ▸ d_alui g.1.0 tt tt ▸ here, not_is (ltb (v.r 6) (v.r 5)) ∙ ap bit (le_is (v.r 5) (v.r 6)))
ops-run e o_gt v h k n g = (_, d_alu g.0 tt tt tt ▸ here, refl)
ops-run e o_ge v h k n g = (_, d_alu g.0 tt tt tt ▸ d_alui g.1.0 tt tt ▸ here, not_is (ltb (v.r 5) (v.r 6)) ∙ ap bit (le_is (v.r 6) (v.r 5)))
ops-run e o_and v h k n g = (_, d_alu g.0 tt tt tt ▸ here, refl)
ops-run e o_or v h k n g = (_, d_alu g.0 tt tt tt ▸ here, refl)
ops-run e o_xor v h k n g = (_, d_alu g.0 tt tt tt ▸ here, refl)
ops-run e o_shl v h k n g = (_, d_alu g.0 tt tt tt ▸ d_alui g.1.0 tt tt ▸ d_mul g.1.1.0 tt tt tt ▸ here, shl_is (v.r 5) (v.r 6) h)
ops-run e o_shr v h k n g = (_, d_alu g.0 tt tt tt ▸ d_alui g.1.0 tt tt ▸ d_mul g.1.1.0 tt tt tt ▸ here, shr_is (v.r 5) (v.r 6) h)

-- rows behind one another
pub seg_left : (row : List LI) (p : ℕ) (xs ys : List LI) → Seg row p (xs ++ ys) → Seg row p xs
seg_left row p [] ys g = tt
seg_left row p (x ∷ xs) ys (h, g) = (h, seg_left row (suc p) xs ys g)

pub seg_right : (row : List LI) (p : ℕ) (xs ys : List LI) → Seg row p (xs ++ ys) → Seg row (past p xs) ys
seg_right row p [] ys g = g
seg_right row p (x ∷ xs) ys (h, g) = seg_right row (suc p) xs ys g

pub past_both : (p : ℕ) (xs ys : List LI) → past p (xs ++ ys) ≡ past (past p xs) ys
past_both p [] ys = refl
past_both p (x ∷ xs) ys = past_both (suc p) xs ys

-- a division by nought
pub record Traps (e : Env) (v w : V) : Type 0 where
  pub calls : nth e.row w.pc ≡ some l_ecall
  pub number : w.r 17 ≡ 3
  pub with : w.r 10 ≡ 2
  pub is_ins : w.ins ≡ v.ins
  pub is_outs : w.outs ≡ v.outs

pub ops-trap : (e : Env) (o : Op) (v : V) → no_bin o (v.r 6) ≡ true → Seg e.row v.pc (ops v.pc o) → (w : V) × Steps e w v × Traps e v w
ops-trap e o_add v n g = absurd (both_ways false refl n)
ops-trap e o_sub v n g = absurd (both_ways false refl n)
ops-trap e o_mul v n g = absurd (both_ways false refl n)
ops-trap e o_div v n g = (_, left_bnz g.0 tt n ▸ d_num g.1.0 tt (omega arith) ▸ d_num g.1.1.0 tt (omega arith) ▸ here, record { calls = g.1.1.1.0; number = refl; with = refl; is_ins = refl; is_outs = refl })
ops-trap e o_rem v n g = (_, left_bnz g.0 tt n ▸ d_num g.1.0 tt (omega arith) ▸ d_num g.1.1.0 tt (omega arith) ▸ here, record { calls = g.1.1.1.0; number = refl; with = refl; is_ins = refl; is_outs = refl })
ops-trap e o_eq v n g = absurd (both_ways false refl n)
ops-trap e o_ne v n g = absurd (both_ways false refl n)
ops-trap e o_lt v n g = absurd (both_ways false refl n)
ops-trap e o_le v n g = absurd (both_ways false refl n)
ops-trap e o_gt v n g = absurd (both_ways false refl n)
ops-trap e o_ge v n g = absurd (both_ways false refl n)
ops-trap e o_and v n g = absurd (both_ways false refl n)
ops-trap e o_or v n g = absurd (both_ways false refl n)
ops-trap e o_xor v n g = absurd (both_ways false refl n)
ops-trap e o_shl v n g = absurd (both_ways false refl n)
ops-trap e o_shr v n g = absurd (both_ways false refl n)

-- operators before one
pub un-lt : (o : Op1) (x : ℕ) → x < all → un_of o x < all
un-lt u_neg x h = omega arith
un-lt u_not x h = bit-lt (eqb x 0)
un-lt u_inv x h = omega arith
un-lt u_flag x h = bit-lt (not (eqb x 0))

nought_is : (x : ℕ) → ltb x 1 ≡ eqb x 0
nought_is zero = refl
nought_is (suc x) = le-ltb (suc x) 1 (omega arith) ∙ sym (ne_eqb (suc x) 0 (omega arith))

pub ops1-run : (e : Env) (o : Op1) (v : V) → Seg e.row v.pc (ops1 o) → Makes e v (ops1 o) (un_of o (v.r 5))
ops1-run e u_neg v g = (_, d_num g.0 tt (omega arith) ▸ d_alu g.1.0 tt tt tt ▸ here, refl)
ops1-run e u_not v g = (_, d_alui g.0 tt tt ▸ here, ap bit (nought_is (v.r 5)))
ops1-run e u_inv v g = (_, d_num g.0 tt (omega arith) ▸ d_alu g.1.0 tt tt tt ▸ here, refl)
ops1-run e u_flag v g = (_, d_alui g.0 tt tt ▸ d_alui g.1.0 tt tt ▸ here, not_is (ltb (v.r 5) 1) ∙ ap (λ b. bit (not b)) (nought_is (v.r 5)))

-- by their numbers
pub binary-is : (o x y : ℕ) → binary o x y ≡ bin_of (op_of o) x y
unfolding binary
binary-is o x y = go (eqb o 0) (eqb o 1) (eqb o 2) (eqb o 3) (eqb o 4) (eqb o 5) (eqb o 6) (eqb o 7) (eqb o 8) (eqb o 9) (eqb o 10) (eqb o 11) (eqb o 12) (eqb o 13) (eqb o 14)
  where
    go : (b0 b1 b2 b3 b4 b5 b6 b7 b8 b9 b10 b11 b12 b13 b14 : Bool) → pick b0 (add x y) (pick b1 (sub x y) (pick b2 (mul x y) (pick b3 (x / y) (pick b4 (x % y) (pick b5 (bit (eqb x y)) (pick b6 (bit (not (eqb x y))) (pick b7 (bit (ltb x y)) (pick b8 (bit (leb x y)) (pick b9 (bit (ltb y x)) (pick b10 (bit (leb y x)) (pick b11 (and_w x y) (pick b12 (or_w x y) (pick b13 (xor_w x y) (pick b14 (shl x y) (shr x y))))))))))))))) ≡ bin_of (pick b0 o_add (pick b1 o_sub (pick b2 o_mul (pick b3 o_div (pick b4 o_rem (pick b5 o_eq (pick b6 o_ne (pick b7 o_lt (pick b8 o_le (pick b9 o_gt (pick b10 o_ge (pick b11 o_and (pick b12 o_or (pick b13 o_xor (pick b14 o_shl o_shr))))))))))))))) x y
    go true b1 b2 b3 b4 b5 b6 b7 b8 b9 b10 b11 b12 b13 b14 = refl
    go false true b2 b3 b4 b5 b6 b7 b8 b9 b10 b11 b12 b13 b14 = refl
    go false false true b3 b4 b5 b6 b7 b8 b9 b10 b11 b12 b13 b14 = refl
    go false false false true b4 b5 b6 b7 b8 b9 b10 b11 b12 b13 b14 = refl
    go false false false false true b5 b6 b7 b8 b9 b10 b11 b12 b13 b14 = refl
    go false false false false false true b6 b7 b8 b9 b10 b11 b12 b13 b14 = refl
    go false false false false false false true b7 b8 b9 b10 b11 b12 b13 b14 = refl
    go false false false false false false false true b8 b9 b10 b11 b12 b13 b14 = refl
    go false false false false false false false false true b9 b10 b11 b12 b13 b14 = refl
    go false false false false false false false false false true b10 b11 b12 b13 b14 = refl
    go false false false false false false false false false false true b11 b12 b13 b14 = refl
    go false false false false false false false false false false false true b12 b13 b14 = refl
    go false false false false false false false false false false false false true b13 b14 = refl
    go false false false false false false false false false false false false false true b14 = refl
    go false false false false false false false false false false false false false false true = refl
    go false false false false false false false false false false false false false false false = refl

pub div0-is : (o y : ℕ) → div0 o y ≡ no_bin (op_of o) y
unfolding div0
div0-is zero y = refl
div0-is (suc zero) y = refl
div0-is (suc (suc zero)) y = refl
div0-is (suc (suc (suc zero))) y = refl
div0-is (suc (suc (suc (suc zero)))) y = refl
div0-is (suc (suc (suc (suc (suc o))))) y = rw (ne_eqb (suc (suc (suc (suc (suc o))))) 0 (omega arith), ne_eqb (suc (suc (suc (suc (suc o))))) 1 (omega arith), ne_eqb (suc (suc (suc (suc (suc o))))) 2 (omega arith), ne_eqb (suc (suc (suc (suc (suc o))))) 3 (omega arith), ne_eqb (suc (suc (suc (suc (suc o))))) 4 (omega arith)) (sym (go (eqb (suc (suc (suc (suc (suc o))))) 5) (eqb (suc (suc (suc (suc (suc o))))) 6) (eqb (suc (suc (suc (suc (suc o))))) 7) (eqb (suc (suc (suc (suc (suc o))))) 8) (eqb (suc (suc (suc (suc (suc o))))) 9) (eqb (suc (suc (suc (suc (suc o))))) 10) (eqb (suc (suc (suc (suc (suc o))))) 11) (eqb (suc (suc (suc (suc (suc o))))) 12) (eqb (suc (suc (suc (suc (suc o))))) 13) (eqb (suc (suc (suc (suc (suc o))))) 14)))
  where
    go : (b5 b6 b7 b8 b9 b10 b11 b12 b13 b14 : Bool) → no_bin (pick b5 o_eq (pick b6 o_ne (pick b7 o_lt (pick b8 o_le (pick b9 o_gt (pick b10 o_ge (pick b11 o_and (pick b12 o_or (pick b13 o_xor (pick b14 o_shl o_shr)))))))))) y ≡ false
    go true b6 b7 b8 b9 b10 b11 b12 b13 b14 = refl
    go false true b7 b8 b9 b10 b11 b12 b13 b14 = refl
    go false false true b8 b9 b10 b11 b12 b13 b14 = refl
    go false false false true b9 b10 b11 b12 b13 b14 = refl
    go false false false false true b10 b11 b12 b13 b14 = refl
    go false false false false false true b11 b12 b13 b14 = refl
    go false false false false false false true b12 b13 b14 = refl
    go false false false false false false false true b13 b14 = refl
    go false false false false false false false false true b14 = refl
    go false false false false false false false false false true = refl
    go false false false false false false false false false false = refl

pub single-is : (o x : ℕ) → single o x ≡ un_of (op1_of o) x
unfolding single
single-is o x = go (eqb o 0) (eqb o 1)
  where
    go : (a b : Bool) → pick a (sub 0 x) (pick b (bit (eqb x 0)) (sub 4294967295 x)) ≡ un_of (pick a u_neg (pick b u_not u_inv)) x
    go true b = refl
    go false true = refl
    go false false = refl
