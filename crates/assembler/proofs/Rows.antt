-- The instructions of some rows: words passed and stored one after another, and rows that do not depend on their place.
use Rattle.std.proofs.Common.{◌≡◌, ℕ, zero, suc, ◌+◌, ◌*◌, ◌%◌, List, [], ◌∷◌, ◌++◌, length, sym, refl, ap, ◌∙◌, ap₂, arith}
use Rattle.language.specs.Words.{all}
use Rattle.processor.specs.declared.instr.Imm.TheVariants.{Addi}
use Rattle.processor.specs.declared.instr.Instr.{Instr}
use Rattle.processor.specs.declared.instr.Instr.TheVariants.{Lui, Lw, Sw, OpImm}
use Rattle.lower.specs.Code.{off, l_sw, l_num, l_sp, l_room, l_bge, l_ecall, l_downr}
use Rattle.lower.specs.Lower.{loads, stores, top, low, number, prologue}
use Rattle.assembler.specs.Emission.{reals}
use Rattle.assembler.proofs.Putting.{reals-append}

-- a frame's place and a number without what passes 2^32
pub off_wraps : (k : ℕ) → off (suc (k % all)) ≡ off (suc k)
off_wraps k = omega arith

top_wraps : (n : ℕ) → top (n % all) ≡ top n
top_wraps n = omega arith

low_wraps : (n : ℕ) → low (n % all) ≡ low n
low_wraps n = omega arith

pub number_wraps : (r n : ℕ) → reals 0 (number r (n % all)) ≡ reals 0 (number r n)
number_wraps r n = ap₂ (λ (a b : ℕ). Lui r a ∷ OpImm Addi r r b ∷ []) (top_wraps n) (low_wraps n)

pub frame-number : (r k n : ℕ) → n ≡ (k + 1) % all * 4 % all → reals 0 (number r n) ≡ reals 0 (number r (4 * suc k))
frame-number r k n e = let z : n ≡ 4 * suc k % all = omega arith in ap (λ x. reals 0 (number r x)) z ∙ number_wraps r (4 * suc k)

-- words one after another
pub loads-next : (p q k n : ℕ) → reals p (loads q k (suc n)) ≡ reals p (loads q k n) ++ (Lw (q + n) 2 (off (suc (k + n))) ∷ [])
loads-next p q k zero = let y : q ≡ q + 0 = omega arith in let z : k ≡ k + 0 = omega arith in ap₂ (λ (a c : ℕ). Lw a 2 (off (suc c)) ∷ []) y z
loads-next p q k (suc n) =
    let y : suc q + n ≡ q + suc n = omega arith in
    let z : suc k + n ≡ k + suc n = omega arith in
    ap {B = List Instr} (λ r. Lw q 2 (off (suc k)) ∷ r) (loads-next (suc p) (suc q) (suc k) n ∙ ap₂ (λ (a c : ℕ). reals (suc p) (loads (suc q) (suc k) n) ++ (Lw a 2 (off (suc c)) ∷ [])) y z)

pub stores-next : (p : ℕ) (rg : ℕ → ℕ) (k n : ℕ) → reals p (stores rg k (suc n)) ≡ reals p (stores rg k n) ++ (Sw 2 (rg (k + n)) (off (suc (k + n))) ∷ [])
stores-next p rg k zero = let z : k ≡ k + 0 = omega arith in ap (λ (c : ℕ). Sw 2 (rg c) (off (suc c)) ∷ []) z
stores-next p rg k (suc n) =
    let z : suc k + n ≡ k + suc n = omega arith in
    ap {B = List Instr} (λ r. Sw 2 (rg k) (off (suc k)) ∷ r) (stores-next (suc p) rg (suc k) n ∙ ap (λ (c : ℕ). reals (suc p) (stores rg (suc k) n) ++ (Sw 2 (rg c) (off (suc c)) ∷ [])) z)

pub loads-long : (q k n : ℕ) → length (loads q k n) ≡ n
loads-long q k zero = refl
loads-long q k (suc n) = ap suc (loads-long (suc q) (suc k) n)

-- anywhere
pub loads-any : (p r q k n : ℕ) → reals p (loads q k n) ≡ reals r (loads q k n)
loads-any p r q k zero = refl
loads-any p r q k (suc n) = ap {B = List Instr} (λ l. Lw q 2 (off (suc k)) ∷ l) (loads-any (suc p) (suc r) (suc q) (suc k) n)

pub stores-any : (p r : ℕ) (rg : ℕ → ℕ) (k n : ℕ) → reals p (stores rg k n) ≡ reals r (stores rg k n)
stores-any p r rg k zero = refl
stores-any p r rg k (suc n) = ap {B = List Instr} (λ l. Sw 2 (rg k) (off (suc k)) ∷ l) (stores-any (suc p) (suc r) rg (suc k) n)

-- a function's beginning
pub entered : (s n v : ℕ) →
    reals 0 (l_sp 5 ∷ l_room 5 5 ∷ []) ++ (reals 0 (number 6 (4 * suc s)) ++ (reals 4 (l_bge 5 6 7 ∷ l_num 17 4 ∷ l_ecall ∷ []) ++ (reals 7 (l_downr 6 ∷ l_sw 1 0 ∷ [])
    ++ (reals 0 (stores (λ j. 10 + j) 0 n) ++ (reals 0 (l_num 5 0 ∷ []) ++ reals 0 (stores (λ j. 5) n v))))))
    ≡ reals 0 (prologue 0 (record { params = n; arrays = 0; vars = v; own = []; places = s; cost = 0; code = [] }))
entered s n v =
    ap (λ (l : List Instr). reals 0 (l_sp 5 ∷ l_room 5 5 ∷ []) ++ (reals 0 (number 6 (4 * suc s)) ++ (reals 4 (l_bge 5 6 7 ∷ l_num 17 4 ∷ l_ecall ∷ []) ++ (reals 7 (l_downr 6 ∷ l_sw 1 0 ∷ []) ++ l))))
    (ap₂ (λ (x y : List Instr). x ++ (OpImm Addi 5 0 0 ∷ y)) (stores-any 0 9 (λ j. 10 + j) 0 n) (stores-any 0 _ (λ j. 5) n v)
    ∙ sym (reals-append 9 (stores (λ j. 10 + j) 0 n) (l_num 5 0 ∷ stores (λ j. 5) n v)))
