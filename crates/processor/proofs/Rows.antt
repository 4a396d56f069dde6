-- The lists of the definitions are those of the code.
use Rattle.std.proofs.Common.{◌≡◌, ℕ, zero, suc, ◌/◌, ◌%◌, ◌<◌, ◌≤◌, Bool, true, false, eqb, List, [], ◌∷◌, length, get_or, refl, le_of_suc-le-suc, not-suc-le-zero, eq-eqb, ne_eqb, eqb-true}
use mathlib.Core.Option.{some, none}
use Rattle.processor.specs.Promise.{reg_of, load_of}
use Rattle.language.specs.Syntax.{nth, pick}

pub nth-some : {A : Type 0} (xs : List A) (n : ℕ) (d : A) → n < length xs → nth xs n ≡ some (get_or xs n d)
nth-some [] n d h = absurd (not-suc-le-zero h)
nth-some (x ∷ xs) zero d h = refl
nth-some (x ∷ xs) (suc n) d h = nth-some xs n d (le_of_suc-le-suc h)

pub nth-none : {A : Type 0} (xs : List A) (n : ℕ) → length xs ≤ n → nth xs n ≡ none
nth-none [] n h = refl
nth-none (x ∷ xs) zero h = absurd (not-suc-le-zero h)
nth-none (x ∷ xs) (suc n) h = nth-none xs n (le_of_suc-le-suc h)

pub reg-is : (rs : List ℕ) (r : ℕ) → ¬ (r ≡ 0) → r < length rs → get_or rs r 0 ≡ reg_of rs r
reg-is rs r z h = rw (ne_eqb r 0 z, nth-some rs r 0 h)

pub load_yes : (mem : List ℕ) (a : ℕ) → a % 4 ≡ 0 → a / 4 < length mem → load_of mem a ≡ some (get_or mem (a / 4) 0)
load_yes mem a e h = rw (eq-eqb (a % 4) 0 e) (nth-some mem (a / 4) 0 h)

pub load-no : (mem : List ℕ) (a : ℕ) → (a % 4 ≡ 0 → length mem ≤ a / 4) → load_of mem a ≡ none
load-no mem a f = go (eqb (a % 4) 0) refl
  where
    go : (b : Bool) → eqb (a % 4) 0 ≡ b → pick b (nth mem (a / 4)) none ≡ none
    go true e = nth-none mem (a / 4) (f (eqb-true (a % 4) 0 e))
    go false e = refl
