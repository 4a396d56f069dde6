-- What operators give is a word where their operands are: below 2^32. For Safe.
use mathlib.Core.Bool.{Bool, true, false, ◌&&◌, ◌||◌, not}
use Prim.Native.Nat.{ℕ, zero, suc, ◌+◌, ◌-◌, ◌*◌, ◌/◌, ◌%◌, ◌^◌, ◌≤◌, ◌<◌}
use native.Mathlib.Omega.{arith}
use native.Mathlib.Nat.{mod-lt, mod-le, div-le_self, pow-suc}
use lib.Dec.{eqb, ltb, leb, lit<, lit≤}
use Rattle.language.specs.Words.{all, bit, odd, bits, xor1}
use Rattle.language.specs.Meaning.{binary, single}
use Rattle.language.proofs.WellTyped.{pick1, Small}

bit_le : (b : Bool) → bit b ≤ 1
bit_le true = lit≤ tt
bit_le false = lit≤ tt

bit-lt : (b : Bool) → bit b < all
bit-lt true = lit< tt
bit-lt false = lit< tt

bits-lt : (f : Bool → Bool → Bool) (n x y : ℕ) → bits f n x y < 2 ^ n
bits-lt f zero x y = lit< tt
bits-lt f (suc n) x y = rw pow-suc (omega (arith, bit_le (f (odd x) (odd y)), bits-lt f n (x / 2) (y / 2)))

low : (x : ℕ) → x % all < all
low x = mod-lt x (lit< tt)

pub binary-lt : (o x y : ℕ) → x < all → y < all → binary o x y < all
unfolding binary
binary-lt o x y h g =
    let P : ℕ → Type 0 = λ n. n < all in
    pick1 P (eqb o 0) (low (x + y)) (pick1 P (eqb o 1) (low ((x + all) - y)) (pick1 P (eqb o 2) (low (x * y))
    (pick1 P (eqb o 3) (omega (arith, div-le_self x y)) (pick1 P (eqb o 4) (omega (arith, mod-le x y))
    (pick1 P (eqb o 5) (bit-lt (eqb x y)) (pick1 P (eqb o 6) (bit-lt (not (eqb x y))) (pick1 P (eqb o 7) (bit-lt (ltb x y)) (pick1 P (eqb o 8) (bit-lt (leb x y)) (pick1 P (eqb o 9) (bit-lt (ltb y x)) (pick1 P (eqb o 10) (bit-lt (leb y x))
    (pick1 P (eqb o 11) (bits-lt (λ a b. a && b) 32 x y) (pick1 P (eqb o 12) (bits-lt (λ a b. a || b) 32 x y) (pick1 P (eqb o 13) (bits-lt xor1 32 x y)
    (pick1 P (eqb o 14) (pick1 P (ltb y 32) (low (x * 2 ^ (y % 32))) (lit< tt)) (pick1 P (ltb y 32) (omega (arith, div-le_self x (2 ^ (y % 32)))) (lit< tt))))))))))))))))

pub single-lt : (o x : ℕ) → x < all → single o x < all
unfolding single
single-lt o x h =
    let P : ℕ → Type 0 = λ n. n < all in
    pick1 P (eqb o 0) (low ((0 + all) - x)) (pick1 P (eqb o 1) (bit-lt (eqb x 0)) (low ((4294967295 + all) - x)))

pub binary-small : (q : Bool) (o x y : ℕ) → Small q x → Small q y → Small q (binary o x y)
binary-small true o x y h g = binary-lt o x y h g
binary-small false o x y h g = tt

pub single-small : (q : Bool) (o x : ℕ) → Small q x → Small q (single o x)
single-small true o x h = single-lt o x h
single-small false o x h = tt

pub bit-small : (q : Bool) (b : Bool) → Small q (bit b)
bit-small true b = bit-lt b
bit-small false b = tt
