-- A text's program has no more words at the top than the text has bytes.
use mathlib.Core.List.{List, [], ◌∷◌}
use Prim.Native.Nat.{ℕ, ◌≤◌}
use native.Mathlib.Omega.{arith}
use lib.ListN.{length}
use lib.Dec.{leb, leb→le}
use Rattle.language.specs.Syntax.{Item, i_word, i_arr, i_data, i_table, i_fn, i_use, Prog}
use Rattle.language.specs.Meaning.{words_in, all_words}
use Rattle.grammar.specs.Text.{Reads}
use Rattle.grammar.specs.Bounds.{Costs, Fair, w_is, words}
use Rattle.grammar.proofs.PieceKinds.{and_0}
use Rattle.grammar.proofs.Size.{words-bound}

-- a word for each word at the top
abbrev costs : Costs
costs = record { c_num = 0; c_var = 0; c_bin = 0; c_un = 0; c_and = 0; c_or = 0; c_idx = 0; c_len = 0; c_call = 0; c_table = 0; c_arg = 0; c_input = 0; c_set = 0; c_store = 0; c_ex = 0; c_out = 0; c_if = 0; c_while = 0; c_ret = 0; c_break = 0; c_next = 0; c_fn = 0; c_param = 0; c_local = 0; c_own = 0; c_word = 1; c_arr = 0; c_data = 0; c_value = 0; c_byte = 0; c_tab = 0; c_entry = 0; c_use = 0; c_file = 0 }

costs_fair : Fair 1 0 costs
costs_fair = omega arith

words-items : (is : List Item) → words_in is ≤ w_is costs is
words-items [] = omega arith
words-items (i_word x ∷ is) = omega (arith, words-items is)
words-items (i_arr r ∷ is) = omega (arith, words-items is)
words-items (i_data d x ns ∷ is) = omega (arith, words-items is)
words-items (i_table x fs ∷ is) = omega (arith, words-items is)
words-items (i_fn g ∷ is) = omega (arith, words-items is)
words-items (i_use x ys ∷ is) = omega (arith, words-items is)

words-files : (p : Prog) → all_words p ≤ words costs p
words-files [] = omega arith
words-files (f ∷ fs) = omega (arith, words-items f.items, words-files fs)

pub few_words : (t : List ℕ) (p : Prog) → Reads t p → all_words p ≤ 32768
few_words t p r =
    let l : length t ≤ 32768 = leb→le (length t) 32768 (and_0 (leb (length t) 32768) _ r.small) in
    omega (arith, l, words-files p, words-bound 1 0 costs costs_fair t p r)
