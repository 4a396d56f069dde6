-- The elements of arrays, item by item.
use Rattle.std.proofs.Common.{◌≡◌, ℕ, ◌+◌, min, Bool, true, false, leb, List, ◌∷◌, sym, refl, ◌∙◌, arith, le-leb, leb-false, leb-true}
use borrow.Author.Tests.{lt-leb}
use Rattle.language.specs.Syntax.{Item, i_word, i_arr, i_data, i_table, i_fn, i_use}
use Rattle.language.specs.Checks.{total}
use Rattle.limits.specs.Totals.{elements}

pub total-more : (i : Item) (is : List Item) → total (i ∷ is) ≡ elements i + total is
total-more (i_word x) is = omega arith
total-more (i_arr a) is = refl
total-more (i_data w x ns) is = refl
total-more (i_table x fs) is = omega arith
total-more (i_fn g) is = omega arith
total-more (i_use y xs) is = omega arith

-- a sum that was cut off at the largest number is as little over a limit as the sum
pub leb_uncut : (s t : ℕ) → min t 18446744073709551615 ≡ min (s + 0) 18446744073709551615 → leb s 262144 ≡ leb t 262144
leb_uncut s t e = go (leb s 262144) refl
  where
    go : (b : Bool) → leb s 262144 ≡ b → leb s 262144 ≡ leb t 262144
    go true k = k ∙ sym (le-leb t 262144 (omega (arith, leb-true s 262144 k)))
    go false k = k ∙ sym (lt-leb t 262144 (omega (arith, leb-false s 262144 k)))
