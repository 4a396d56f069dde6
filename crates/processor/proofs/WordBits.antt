-- The bit by bit operations are those of the code.
use Rattle.std.proofs.Common.{◌≡◌, ℕ, ℤ, pos, negsuc, zero, suc, ◌+◌, ◌-◌, ◌*◌, ◌/◌, ◌%◌, ◌^◌, ◌<◌, ◌≤◌, min, max, Bool, true, false, ◌&&◌, ◌||◌, ltb, sym, refl, ap, ◌∙◌, subst, suc-le-suc, le_trans, mod-eq_of_lt, add_comm, arith, lit<, le-ltb, lt-ltb, ltb-true, ltb-false}
use Rattle.std.proofs.lemmas.Nat.{one_shl}
use lib.Arith.{lt-one}
use lib.Pow.{split, shr_le}
use Rattle.language.specs.Syntax.{pick}
use Rattle.processor.specs.Machine.{sar}
use lib.Bits.{or_shifted, and_mask, bit_and, bit_or, bit_xor, and_step, or_step, xor_step, and_zero_l, and_comm, xor_add_and, differ}
use Rattle.processor.specs.Instr.{word, Fit}
use Rattle.std.specs.Int.{cast_unsigned, cast_signed, int_shr, w32}
use Rattle.language.specs.Words.{bit, odd, bits, xor1, and_w, or_w, xor_w, shl, shr}

half : (n x : ℕ) → x < 2 ^ suc n → x / 2 < 2 ^ n
half n x h = omega arith

low_and : (x y : ℕ) → bit (odd x && odd y) ≡ min (x % 2) (y % 2)
low_and x y = grind arith

low_or : (x y : ℕ) → bit (odd x || odd y) ≡ max (x % 2) (y % 2)
low_or x y = grind arith

low_xor : (x y : ℕ) → bit (xor1 (odd x) (odd y)) ≡ differ (x % 2) (y % 2)
low_xor x y = grind arith

bits_and : (n x y : ℕ) → x < 2 ^ n → y < 2 ^ n → bits (λ a b. a && b) n x y ≡ bit_and x y
bits_and zero x y h k = rw (lt-one h) (sym (and_zero_l y))
bits_and (suc n) x y h k =
    let ih = bits_and n (x / 2) (y / 2) (half n x h) (half n y k) in
    omega (arith, ih, low_and x y, and_step x y)

bits_or : (n x y : ℕ) → x < 2 ^ n → y < 2 ^ n → bits (λ a b. a || b) n x y ≡ bit_or x y
bits_or zero x y h k = rw (lt-one h, lt-one k)
bits_or (suc n) x y h k =
    let ih = bits_or n (x / 2) (y / 2) (half n x h) (half n y k) in
    omega (arith, ih, low_or x y, or_step x y)

bits_xor : (n x y : ℕ) → x < 2 ^ n → y < 2 ^ n → bits xor1 n x y ≡ bit_xor x y
bits_xor zero x y h k = rw (lt-one h, lt-one k)
bits_xor (suc n) x y h k =
    let ih = bits_xor n (x / 2) (y / 2) (half n x h) (half n y k) in
    omega (arith, ih, low_xor x y, xor_step x y)

pub and_is : (x y : ℕ) → x < 2 ^ 32 → y < 2 ^ 32 → and_w x y ≡ bit_and x y
and_is x y h k = bits_and 32 x y h k

pub or_is : (x y : ℕ) → x < 2 ^ 32 → y < 2 ^ 32 → or_w x y ≡ bit_or x y
or_is x y h k = bits_or 32 x y h k

pub xor_is : (x y : ℕ) → x < 2 ^ 32 → y < 2 ^ 32 → xor_w x y ≡ bit_xor x y
xor_is x y h k = bits_xor 32 x y h k

-- what has no bit below k, with what has none from k on
pub or_add : (k a b : ℕ) → a % 2 ^ k ≡ 0 → b < 2 ^ k → bit_or a b ≡ a + b
or_add k a b e h =
    let s : a / 2 ^ k * 2 ^ k ≡ a = omega (arith, split a k) in
    subst (λ (z : ℕ). bit_or z b ≡ z + b) s (or_shifted (a / 2 ^ k) k b h)

pub laid_or : (op rd f3 r1 r2 f7 : ℕ) → Fit op rd f3 r1 r2 f7
    → bit_or (bit_or (bit_or (bit_or (bit_or (f7 * 33554432 % 4294967296) (r2 * 1048576 % 4294967296)) (r1 * 32768 % 4294967296)) (f3 * 4096 % 4294967296)) (rd * 128 % 4294967296)) op ≡ word op rd f3 r1 r2 f7
laid_or op rd f3 r1 r2 f7 h =
    let a = f7 * 33554432 % 4294967296 in
    let b = r2 * 1048576 % 4294967296 in
    let c = r1 * 32768 % 4294967296 in
    let d = f3 * 4096 % 4294967296 in
    let e = rd * 128 % 4294967296 in
    let e1 = or_add 25 a b (omega arith) (omega arith) in
    let e2 = or_add 20 (a + b) c (omega arith) (omega arith) in
    let e3 = or_add 15 (a + b + c) d (omega arith) (omega arith) in
    let e4 = or_add 12 (a + b + c + d) e (omega arith) (omega arith) in
    let e5 = or_add 7 (a + b + c + d + e) op (omega arith) (omega arith) in
    rw (e1, e2, e3, e4, e5) (omega arith)

pub above-is : (high k low : ℕ) → low < 2 ^ k → high * 2 ^ k < 4294967296 → bit_or (high * 2 ^ k % 4294967296) low ≡ low + high * 2 ^ k
above-is high k low h l = ap (λ (z : ℕ). bit_or z low) (mod-eq_of_lt l) ∙ or_shifted high k low h ∙ add_comm (high * 2 ^ k) low

pub part-is : (y count : ℕ) → count < 32 → bit_and y (1 * 2 ^ count % 4294967296 - 1) ≡ y % 2 ^ count
part-is y count h = ap (λ (z : ℕ). bit_and y (z - 1)) (one_shl count 32 h) ∙ and_mask y count

-- the shifts, by less than 32
pub shl_is : (x n : ℕ) → n < 32 → shl x n ≡ x * 2 ^ n % 4294967296
shl_is x n h = rw (lt-ltb n 32 h, mod-eq_of_lt h)

pub shr_is : (x n : ℕ) → n < 32 → shr x n ≡ x / 2 ^ n
shr_is x n h = rw (lt-ltb n 32 h, mod-eq_of_lt h)

-- the bits that are not set
ones_xor : (x : ℕ) → x < 2 ^ 32 → bit_xor 4294967295 x ≡ 4294967295 - x
ones_xor x h = omega (arith, xor_add_and 4294967295 x, and_comm 4294967295 x, and_mask x 32)

sar_low : (x n : ℕ) → x < 2147483648 → n < 32 → sar x n ≡ x / 2 ^ n
sar_low x n l h = ap (λ (b : Bool). pick b (shr x n) (xor_w 4294967295 (shr (xor_w 4294967295 x) n))) (lt-ltb x 2147483648 l) ∙ shr_is x n h

sar_high : (x n : ℕ) → 2147483648 ≤ x → x < 2 ^ 32 → n < 32 → sar x n ≡ 4294967295 - (4294967295 - x) / 2 ^ n
sar_high x n l k h =
    let y = 4294967295 - x in
    let z_lt : y / 2 ^ n < 2 ^ 32 = le_trans (suc-le-suc (shr_le y n)) (omega arith) in
    ap (λ (b : Bool). pick b (shr x n) (xor_w 4294967295 (shr (xor_w 4294967295 x) n))) (le-ltb x 2147483648 l)
    ∙ ap (λ (z : ℕ). xor_w 4294967295 (shr z n)) (xor_is 4294967295 x (lit< tt) k ∙ ones_xor x k)
    ∙ ap (λ (z : ℕ). xor_w 4294967295 z) (shr_is y n h)
    ∙ xor_is 4294967295 (y / 2 ^ n) (lit< tt) z_lt
    ∙ ones_xor (y / 2 ^ n) z_lt

signed_low : (x : ℕ) → x < 2147483648 → cast_signed w32 x ≡ pos x
signed_low x l = rw (lt-ltb x 2147483648 l)

signed_high : (x : ℕ) → 2147483648 ≤ x → x < 2 ^ 32 → cast_signed w32 x ≡ negsuc (4294967295 - x)
signed_high x l k = rw (le-ltb x 2147483648 l) (ap negsuc (omega arith))

-- a shift of the number with a sign
pub sar_is : (x n : ℕ) → x < 2 ^ 32 → n < 32 → cast_unsigned w32 (int_shr (cast_signed w32 x) n) ≡ sar x n
sar_is x n k h = go (ltb x 2147483648) refl
  where
    go : (b : Bool) → ltb x 2147483648 ≡ b → cast_unsigned w32 (int_shr (cast_signed w32 x) n) ≡ sar x n
    go true e =
        let l = ltb-true x 2147483648 e in
        ap (λ (z : ℤ). cast_unsigned w32 (int_shr z n)) (signed_low x l) ∙ sym (sar_low x n l h)
    go false e =
        let l = ltb-false x 2147483648 e in
        let q : 4294967296 - suc ((4294967295 - x) / 2 ^ n) ≡ 4294967295 - (4294967295 - x) / 2 ^ n = omega arith in
        ap (λ (z : ℤ). cast_unsigned w32 (int_shr z n)) (signed_high x l k) ∙ q ∙ sym (sar_high x n l k h)
