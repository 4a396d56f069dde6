-- Words: numbers of 32 bits without sign, and what is worked out from them. The meaning and the processor share these.
use Rattle.std.specs.Prelude.{Bool, true, false, ◌&&◌, ◌||◌, not, ℕ, zero, suc, ◌+◌, ◌-◌, ◌*◌, ◌/◌, ◌%◌, ◌^◌, eqb, ltb}
use Rattle.language.specs.Syntax.{pick}

-- how many words there are, 2^32
abbrev pub all : ℕ
all = 4294967296

-- a test as a word
abbrev pub bit : Bool → ℕ
bit b = pick b 1 0

abbrev pub odd : ℕ → Bool
odd x = eqb (x % 2) 1

-- an operation bit by bit, on the lowest n bits
abbrev pub bits : (Bool → Bool → Bool) → ℕ → ℕ → ℕ → ℕ
bits f zero x y = 0
bits f (suc n) x y = bit (f (odd x) (odd y)) + 2 * bits f n (x / 2) (y / 2)

abbrev pub xor1 : Bool → Bool → Bool
xor1 true b = not b
xor1 false b = b

abbrev pub and_w : ℕ → ℕ → ℕ
and_w x y = bits (λ a b. a && b) 32 x y

abbrev pub or_w : ℕ → ℕ → ℕ
or_w x y = bits (λ a b. a || b) 32 x y

abbrev pub xor_w : ℕ → ℕ → ℕ
xor_w x y = bits xor1 32 x y

-- sums, differences and products lose what passes 2^32
abbrev pub add : ℕ → ℕ → ℕ
add x y = (x + y) % all

abbrev pub sub : ℕ → ℕ → ℕ
sub x y = ((x + all) - y) % all

abbrev pub mul : ℕ → ℕ → ℕ
mul x y = (x * y) % all

-- shifts lose what passes either end: by 32 and more, all
abbrev pub shl : ℕ → ℕ → ℕ
shl x n = pick (ltb n 32) ((x * 2 ^ (n % 32)) % all) 0

abbrev pub shr : ℕ → ℕ → ℕ
shr x n = pick (ltb n 32) (x / 2 ^ (n % 32)) 0

-- words with a sign are compared after their top bit is turned
abbrev pub up : ℕ → ℕ
up x = (x + 2147483648) % all

-- a number of n bits with a sign, as a word
abbrev pub signed : ℕ → ℕ → ℕ
signed n x = pick (ltb x (2 ^ (n - 1))) x ((x + all) - 2 ^ n)
