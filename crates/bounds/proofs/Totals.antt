-- What functions and tables cost together is no more than the whole program costs, by any costs.
use mathlib.Core.Bool.{true, false}
use mathlib.Core.List.{List, [], ◌∷◌, ◌++◌}
use mathlib.Core.Path.{◌≡◌}
use Prim.Native.Nat.{ℕ, ◌+◌, ◌≤◌}
use native.Mathlib.Omega.{arith}
use lib.ListN.{length}
use Rattle.language.specs.Syntax.{opt, Name, Item, i_word, i_arr, i_data, i_table, i_fn, i_use, Prog}
use Rattle.language.specs.Meaning.{Top, tops, all_tops, as_fn, as_table, words_in, arrays_in}
use Rattle.grammar.specs.Bounds.{Costs, each, w_fn, w_is, words}

module _ (c : Costs) where
  abbrev pub functions : List Top → ℕ
  functions [] = 0
  functions (t ∷ ts) = opt (as_fn t) 0 (λ g. w_fn c g) + functions ts

  abbrev pub tables : List Top → ℕ
  tables [] = 0
  tables (t ∷ ts) = opt (as_table t) 0 (λ fs. each c.c_entry fs + c.c_tab) + tables ts

  functions_both : (ts us : List Top) → functions (ts ++ us) ≡ functions ts + functions us
  functions_both [] us = omega arith
  functions_both (t ∷ ts) us = omega (arith, functions_both ts us)

  tables_both : (ts us : List Top) → tables (ts ++ us) ≡ tables ts + tables us
  tables_both [] us = omega arith
  tables_both (t ∷ ts) us = omega (arith, tables_both ts us)

  of-items : (f : Name) (is : List Item) (w a : ℕ) → functions (tops f is w a) + tables (tops f is w a) ≤ w_is c is
  of-items f [] w a = omega arith
  of-items f (i_word x ∷ is) w a = omega (arith, of-items f is (w + 1) a)
  of-items f (i_arr r ∷ is) w a = omega (arith, of-items f is w (a + 1))
  of-items f (i_data true x ns ∷ is) w a = omega (arith, of-items f is w (a + 1))
  of-items f (i_data false x ns ∷ is) w a = omega (arith, of-items f is w (a + 1))
  of-items f (i_table x fs ∷ is) w a = omega (arith, of-items f is w a)
  of-items f (i_fn g ∷ is) w a = omega (arith, of-items f is w a)
  of-items f (i_use x ys ∷ is) w a = omega (arith, of-items f is w a)

  pub of_files : (p : Prog) (w a : ℕ) → functions (all_tops p w a) + tables (all_tops p w a) ≤ words c p
  of_files [] w a = omega arith
  of_files (f ∷ fs) w a =
      let ts : List Top = tops f.name f.items w a in
      let us : List Top = all_tops fs (w + words_in f.items) (a + length (arrays_in f.items)) in
      omega (arith, functions_both ts us, tables_both ts us, of-items f.name f.items w a, of_files fs (w + words_in f.items) (a + length (arrays_in f.items)))
