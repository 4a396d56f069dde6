-- How many noughts an image has.
use mathlib.Core.Path.{◌≡◌, refl}
use mathlib.Core.Bool.{Bool, true, false, not}
use mathlib.Core.List.{List, [], ◌∷◌, ◌++◌}
use Prim.Native.Nat.{ℕ, suc, ◌+◌, ◌≤◌}
use native.Mathlib.Omega.{arith}
use lib.ListN.{length-replicate}
use Rattle.language.specs.Syntax.{pick, Item, i_word, i_arr, i_data, i_table, i_fn, i_use, Prog}
use Rattle.language.specs.Meaning.{Cells, arrays_in, all_arrays, all_words}
use Rattle.language.specs.Checks.{total, totals}
use Rattle.steps.specs.Generate.{gen_prog}
use Rattle.lower.specs.Lower.{lens, area, plens, live_of, compile}

part-few : (fl : ℕ → Bool) (ns : List ℕ) → area (plens fl ns) ≤ area ns
part-few fl [] = omega arith
part-few fl (n ∷ ns) = go (fl 0) (part-few (λ i. fl (suc i)) ns)
  where
    go : (b : Bool) → area (plens (λ i. fl (suc i)) ns) ≤ area ns → pick b n 0 + area (plens (λ i. fl (suc i)) ns) ≤ n + area ns
    go true h = omega arith
    go false h = omega arith

area_both : (as₁ bs : List Cells) → area (lens (as₁ ++ bs)) ≡ area (lens as₁) + area (lens bs)
area_both [] bs = omega arith
area_both (c ∷ as₁) bs = omega (arith, area_both as₁ bs)

items-area : (is : List Item) → area (lens (arrays_in is)) ≡ total is
items-area [] = refl
items-area (i_word x ∷ is) = items-area is
items-area (i_arr r ∷ is) = omega (arith, items-area is, length-replicate {A = ℕ} r.size 0)
items-area (i_data w x ns ∷ is) = omega (arith, items-area is)
items-area (i_table x fs ∷ is) = items-area is
items-area (i_fn g ∷ is) = items-area is
items-area (i_use x ys ∷ is) = items-area is

files-area : (p : Prog) → area (lens (all_arrays p)) ≡ totals p
files-area [] = refl
files-area (f ∷ fs) = omega (arith, area_both (arrays_in f.items) (all_arrays fs), items-area f.items, files-area fs)

-- no more than words and elements at the top
pub few_noughts : (p : Prog) → (compile p).noughts ≤ all_words p + totals p
few_noughts p = omega (arith, part-few (λ i. not (live_of (gen_prog p) i)) (lens (all_arrays p)), files-area p)
