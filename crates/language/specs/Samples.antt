-- Three programs as trees, and how their runs end: the meaning tried on examples.
use Rattle.std.specs.Prelude.{◌≡◌, true, List, [], ◌∷◌, ℕ}
use Rattle.language.specs.Syntax.{Name, Expr, num, var, bin, idx, len, call, by_table, input, Exprs, no, and_then, set1, store1, ex1, out1, if1, while1, ret1, Block, end, seq1, k_word, k_arr, Param, Arr, Item, i_table, i_fn, i_use, Prog, stage}
use Rattle.language.specs.Meaning.{Value, word, array, Result, val, vals, fine, broke, goes_on, gives, trap, spent, wrong, means, w_main}
use Rattle.language.specs.Checks.{ok}

-- how a run ended, and what it put out
pub data Ending : Type 0 where
  with_word : ℕ → List ℕ → Ending
  with_trap : ℕ → List ℕ → Ending
  other : Ending

abbrev pub of_value : Value → List ℕ → Ending
of_value (word n) o = with_word n o
of_value (array a) o = other

abbrev pub ending : Result → Ending
ending (val v s) = of_value v s.outs
ending (vals vs s) = other
ending (fine s) = other
ending (broke s) = other
ending (goes_on s) = other
ending (gives v s) = other
ending (trap c s) = with_trap c s.outs
ending (spent s) = other
ending wrong = other

-- names by their letters
abbrev pub a_name : Name
a_name = 97 ∷ []

abbrev pub b_name : Name
b_name = 98 ∷ []

abbrev pub f_name : Name
f_name = 102 ∷ []

abbrev pub g_name : Name
g_name = 103 ∷ []

abbrev pub i_name : Name
i_name = 105 ∷ []

abbrev pub n_name : Name
n_name = 110 ∷ []

abbrev pub s_name : Name
s_name = 115 ∷ []

abbrev pub t_name : Name
t_name = 116 ∷ []

abbrev pub x_name : Name
x_name = 120 ∷ []

abbrev pub sum_name : Name
sum_name = 115 ∷ 117 ∷ 109 ∷ []

abbrev pub function : Name → List Param → List Name → List Arr → Block → Item
function x ps vs as₁ b = i_fn (record { name = x; params = ps; vars = vs; arrs = as₁; body = b })

abbrev pub word_param : Name → Param
word_param x = record { name = x; kind = k_word }

abbrev pub one : Expr → Exprs
one e = and_then e no

-- file a; fn f(n) { if n == 0 { return 1; } return n * f(n - 1); } fn main() { out f(5); return 7; }
unfoldable pub factorial : Prog
factorial = record {
  name = a_name;
  items =
      function f_name (word_param n_name ∷ []) [] []
      (seq1 (if1 (bin 5 (var n_name) (num 0)) (seq1 (ret1 (num 1)) end) end)
      (seq1 (ret1 (bin 2 (var n_name) (call f_name (one (bin 1 (var n_name) (num 1)))))) end))
      ∷ function w_main [] [] []
      (seq1 (out1 (call f_name (one (num 5)))) (seq1 (ret1 (num 7)) end))
      ∷ [];
} ∷ []

-- file a; use b: sum; fn main() { var i; array t[3]; while i < 3 { t[i] = in(); i = i + 1; } out sum(t); out t[3]; }
-- file b; fn sum(x[]) { var i, s; while i < len(x) { s = s + x[i]; i = i + 1; } return s; }
unfoldable pub sums : Prog
sums = record {
  name = a_name;
  items =
      i_use b_name (sum_name ∷ [])
      ∷ function w_main [] (i_name ∷ []) (record { name = t_name; wide = true; size = 3 } ∷ [])
      (seq1 (while1 (bin 7 (var i_name) (num 3)) (seq1 (store1 t_name (var i_name) input) (seq1 (set1 i_name (bin 0 (var i_name) (num 1))) end)))
      (seq1 (out1 (call sum_name (one (var t_name)))) (seq1 (out1 (idx t_name (num 3))) end)))
      ∷ [];
}
    ∷ record {
      name = b_name;
      items =
          function sum_name (record { name = x_name; kind = k_arr true } ∷ []) (i_name ∷ s_name ∷ []) []
          (seq1 (while1 (bin 7 (var i_name) (len x_name)) (seq1 (set1 s_name (bin 0 (var s_name) (idx x_name (var i_name)))) (seq1 (set1 i_name (bin 0 (var i_name) (num 1))) end)))
          (seq1 (ret1 (var s_name)) end))
          ∷ [];
    } ∷ []

-- file a; fn f(x) { return x + 1; } fn g(x) { return 100 / x; } table t = f, g; fn main() { out call t[0](9); out call t[1](7); call t[1](0); }
unfoldable pub tables : Prog
tables = record {
  name = a_name;
  items =
      function f_name (word_param x_name ∷ []) [] [] (seq1 (ret1 (bin 0 (var x_name) (num 1))) end)
      ∷ function g_name (word_param x_name ∷ []) [] [] (seq1 (ret1 (bin 3 (num 100) (var x_name))) end)
      ∷ i_table t_name (f_name ∷ g_name ∷ [])
      ∷ function w_main [] [] []
      (seq1 (out1 (by_table t_name (num 0) (one (num 9)))) (seq1 (out1 (by_table t_name (num 1) (one (num 7)))) (seq1 (ex1 (by_table t_name (num 1) (one (num 0)))) end)))
      ∷ [];
} ∷ []

-- each is a program of its stage, and ends as it should with the words there are to read
pub record Worked : Type 0 where
  pub factorial_ok : (ok factorial ≡ true) × (stage factorial ≡ 0)
  pub factorial_ends : ending (means factorial [] 60) ≡ with_word 7 (120 ∷ [])
  pub sums_ok : (ok sums ≡ true) × (stage sums ≡ 3)
  pub sums_ends : ending (means sums (4 ∷ 5 ∷ 6 ∷ 7 ∷ []) 60) ≡ with_trap 1 (15 ∷ [])
  pub sums_short : ending (means sums (4 ∷ []) 60) ≡ with_trap 3 []
  pub tables_ok : (ok tables ≡ true) × (stage tables ≡ 6)
  pub tables_ends : ending (means tables [] 60) ≡ with_trap 2 (10 ∷ 14 ∷ [])
