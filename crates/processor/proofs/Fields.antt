-- The fields of a word, and numbers of few bits with a sign.
use Rattle.std.proofs.Common.{◌≡◌, ℕ, ◌+◌, ◌*◌, ◌/◌, ◌%◌, ◌<◌, ◌∙◌, ap₂, arith}
use lib.Pow.{mod-pow-add}
use Rattle.language.specs.Words.{signed}
use Rattle.processor.specs.Machine.{f_op, f_rd, f_3, f_1, f_2, f_7}
use Rattle.processor.specs.Instr.{word, Near, Even}

-- the six fields of a word that is put together of fields
pub record Six (w op rd f3 r1 r2 f7 : ℕ) : Type 0 where
  pub at_op : f_op w ≡ op
  pub at_rd : f_rd w ≡ rd
  pub at_3 : f_3 w ≡ f3
  pub at_1 : f_1 w ≡ r1
  pub at_2 : f_2 w ≡ r2
  pub at_7 : f_7 w ≡ f7
  pub at_i : w / 1048576 ≡ f7 * 32 + r2

pub six : (op rd f3 r1 r2 f7 : ℕ) → op < 128 → rd < 32 → f3 < 8 → r1 < 32 → r2 < 32 → Six (word op rd f3 r1 r2 f7) op rd f3 r1 r2 f7
six op rd f3 r1 r2 f7 h1 h2 h3 h4 h5 = record { at_op = omega arith; at_rd = omega arith; at_3 = omega arith; at_1 = omega arith; at_2 = omega arith; at_7 = omega arith; at_i = omega arith }

pub near_12 : (x : ℕ) → Near 2048 x → signed 12 (x % 4096) ≡ x
near_12 x h = grind arith

pub near_13 : (x : ℕ) → Near 4096 x → signed 13 (x % 8192) ≡ x
near_13 x h = grind arith

pub near_21 : (x : ℕ) → Near 1048576 x → signed 21 (x % 2097152) ≡ x
near_21 x h = grind arith

-- the numbers of the formats, from the fields' numbers
pub join-i : (x : ℕ) → x / 32 % 128 * 32 + x % 32 ≡ x % 4096
join-i x = omega arith

-- two digits, of which the lower is first
pub fst_64 : (c a : ℕ) → c < 64 → (c + a * 64) % 64 ≡ c
fst_64 c a h = omega arith

pub snd_64 : (c a : ℕ) → c < 64 → (c + a * 64) / 64 ≡ a
snd_64 c a h = omega arith

pub fst_2 : (c a : ℕ) → c < 2 → (c + a * 2) % 2 ≡ c
fst_2 c a h = omega arith

pub snd_2 : (c a : ℕ) → c < 2 → (c + a * 2) / 2 ≡ a
snd_2 c a h = omega arith

sum-b : (x : ℕ) → Even x → x / 4096 % 2 * 4096 + (x / 2048 % 2 * 2048 + (x / 32 % 64 * 32 + x / 2 % 16 * 2)) ≡ x % 8192
sum-b x h = omega (arith, mod-pow-add x 1 12, mod-pow-add x 1 11, mod-pow-add x 6 5, mod-pow-add x 4 1)

sum-j : (x : ℕ) → Even x → x / 1048576 % 2 * 1048576 + (x / 4096 % 256 * 4096 + (x / 2048 % 2 * 2048 + x / 2 % 1024 * 2)) ≡ x % 2097152
sum-j x h = omega (arith, mod-pow-add x 1 20, mod-pow-add x 8 12, mod-pow-add x 1 11, mod-pow-add x 10 1)

pub join-b : (x : ℕ) → Even x → (x / 32 % 64 + x / 4096 % 2 * 64) / 64 * 4096 + ((x / 2048 % 2 + x / 2 % 16 * 2) % 2 * 2048 + ((x / 32 % 64 + x / 4096 % 2 * 64) % 64 * 32 + (x / 2048 % 2 + x / 2 % 16 * 2) / 2 * 2)) ≡ x % 8192
join-b x h =
    let h64 : x / 32 % 64 < 64 = omega arith in
    let h2 : x / 2048 % 2 < 2 = omega arith in
    rw (snd_64, fst_64, fst_2, snd_2) (sum-b x h)

-- the four parts of a jump's number, by the fields
pub record Parts (w f3 r1 r2 f7 : ℕ) : Type 0 where
  pub part_8 : w / 4096 % 256 ≡ r1 * 8 + f3
  pub part_1 : w / 1048576 % 2 ≡ r2 % 2
  pub part_10 : w / 2097152 % 1024 ≡ f7 % 64 * 16 + r2 / 2
  pub part_top : w / 2147483648 ≡ f7 / 64

pub parts : (op rd f3 r1 r2 f7 : ℕ) → op < 128 → rd < 32 → f3 < 8 → r1 < 32 → r2 < 32 → Parts (word op rd f3 r1 r2 f7) f3 r1 r2 f7
parts op rd f3 r1 r2 f7 h1 h2 h3 h4 h5 =
    let hi : word op rd f3 r1 r2 f7 / 1048576 ≡ f7 * 32 + r2 = omega arith in
    record { part_8 = omega arith; part_1 = omega (arith, hi); part_10 = omega (arith, hi); part_top = omega arith }

j_8 : (x : ℕ) → x / 32768 % 32 * 8 + x / 4096 % 8 ≡ x / 4096 % 256
j_8 x = omega arith

j_10 : (x : ℕ) → x / 32 % 64 * 16 + x / 2 % 16 ≡ x / 2 % 1024
j_10 x = omega arith

pub join-j : (w x : ℕ) → Even x → Parts w (x / 4096 % 8) (x / 32768 % 32) (x / 2048 % 2 + x / 2 % 16 * 2) (x / 32 % 64 + x / 1048576 % 2 * 64)
    → w / 2147483648 * 1048576 + (w / 4096 % 256 * 4096 + (w / 1048576 % 2 * 2048 + w / 2097152 % 1024 * 2)) ≡ x % 2097152
join-j w x e p =
    let h64 : x / 32 % 64 < 64 = omega arith in
    let h2 : x / 2048 % 2 < 2 = omega arith in
    let e_8 : w / 4096 % 256 ≡ x / 4096 % 256 = p.part_8 ∙ j_8 x in
    let e_1 : w / 1048576 % 2 ≡ x / 2048 % 2 = p.part_1 ∙ fst_2 _ _ h2 in
    let e_10 : w / 2097152 % 1024 ≡ x / 2 % 1024 = p.part_10 ∙ ap₂ (λ (a b : ℕ). a * 16 + b) (fst_64 _ _ h64) (snd_2 _ _ h2) ∙ j_10 x in
    let e_top : w / 2147483648 ≡ x / 1048576 % 2 = p.part_top ∙ snd_64 _ _ h64 in
    rw (e_8, e_1, e_10, e_top) (sum-j x e)
