-- Programs compiled, placed in a memory full of ones, and run by the definitions.
use Rattle.std.specs.Prelude.{◌≡◌, true, false, List, [], ◌∷◌, ◌++◌, ℕ, ◌+◌, ◌*◌, replicate}
use Rattle.language.specs.Syntax.{num, var, bin, idx, len, call, by_table, input, no, set1, store1, ex1, out1, ret1, end, seq1, i_word, i_arr, i_data, i_table, Prog}
use Rattle.language.specs.Meaning.{w_main}
use Rattle.language.specs.Samples.{a_name, b_name, f_name, g_name, t_name, x_name, function, word_param, one, factorial}
use Rattle.processor.specs.Machine.{Machine, Next, goes, halts, faults, after}
use Rattle.image.specs.Image.{Image, row, loaded, size}
use Rattle.lower.specs.Lower.{compile}

-- at word a of a memory full of ones, with so many words of stack, and these words to read
abbrev pub begun : Image → ℕ → ℕ → List ℕ → Machine
begun i a room ins = record {
  regs = replicate 2 9 ++ (4 * (a + size i + room) ∷ 4 * (a + size i) ∷ replicate 28 9);
  pc = 4 * (a + i.entry);
  mem = loaded i a (replicate (a + size i + room + 3) 4294967295);
  ins = ins;
  outs = [];
}

-- how it ended: the environment call and its word, and what was put out
abbrev pub ended : Next → List ℕ
ended (goes m) = 99 ∷ []
ended (halts c x m) = c ∷ x ∷ m.outs
ended faults = 98 ∷ []

-- after so many steps
abbrev pub ran : Prog → ℕ → ℕ → ℕ → List ℕ → List ℕ
ran p steps a room ins = ended (after steps (begun (compile p) a room ins))

abbrev pub w_name : List ℕ
w_name = 119 ∷ []

-- file a; fn f() { f(); } fn main() { f(); }
unfoldable pub endless : Prog
endless = record {
  name = a_name;
  items =
      function f_name [] [] [] (seq1 (ex1 (call f_name no)) end)
      ∷ function w_main [] [] [] (seq1 (ex1 (call f_name no)) end)
      ∷ [];
} ∷ []

-- file a; array t = 3, 5; bytes b[2]; var w; fn main() { b[1] = 513 + t[1]; w = in(); out b[1]; out w; out len(t); out t[2]; }
unfoldable pub arrays : Prog
arrays = record {
  name = a_name;
  items =
      i_data true t_name (3 ∷ 5 ∷ [])
      ∷ i_arr (record { name = b_name; wide = false; size = 2 })
      ∷ i_word w_name
      ∷ function w_main [] [] []
      (seq1 (store1 b_name (num 1) (bin 0 (num 513) (idx t_name (num 1))))
      (seq1 (set1 w_name input)
      (seq1 (out1 (idx b_name (num 1))) (seq1 (out1 (var w_name)) (seq1 (out1 (len t_name)) (seq1 (out1 (idx t_name (num 2))) end))))))
      ∷ [];
} ∷ []

-- file a; table t = f, g; fn f(x) { return x + 1; } fn g(x) { return x * 2; } fn main() { out call t[1](5); out call t[0](5); out call t[in()](7); }
unfoldable pub calls : Prog
calls = record {
  name = a_name;
  items =
      i_table t_name (f_name ∷ g_name ∷ [])
      ∷ function f_name (word_param x_name ∷ []) [] [] (seq1 (ret1 (bin 0 (var x_name) (num 1))) end)
      ∷ function g_name (word_param x_name ∷ []) [] [] (seq1 (ret1 (bin 2 (var x_name) (num 2))) end)
      ∷ function w_main [] [] []
      (seq1 (out1 (by_table t_name (num 1) (one (num 5)))) (seq1 (out1 (by_table t_name (num 0) (one (num 5)))) (seq1 (out1 (by_table t_name input (one (num 7)))) end)))
      ∷ [];
} ∷ []

abbrev pub factorial_words : List ℕ
factorial_words =
    19525 ∷ 104 ∷ 0 ∷ 0 ∷ 0 ∷ 2146435731 ∷ 1213075 ∷ 5308723 ∷
    268435695 ∷ 2195 ∷ 115 ∷ 2147549843 ∷ 1077052083 ∷ 823 ∷ 21168915 ∷ 6485603 ∷
    4196499 ∷ 115 ∷ 1080099123 ∷ 2148605987 ∷ 2158043683 ∷ 659 ∷ 695 ∷ 164499 ∷
    2152801827 ∷ 2151752323 ∷ 2160141059 ∷ 1080198067 ∷ 1291155 ∷ 2154898467 ∷ 2155946627 ∷ 169059 ∷
    46137455 ∷ 695 ∷ 1213075 ∷ 2152801315 ∷ 2155947267 ∷ 2147557507 ∷ 823 ∷ 21168915 ∷
    6357299 ∷ 32871 ∷ 4194415 ∷ 695 ∷ 1213075 ∷ 2152802339 ∷ 2151752323 ∷ 2164335363 ∷
    1080198067 ∷ 2154898979 ∷ 2160141571 ∷ 4129288431 ∷ 2158044707 ∷ 2151752323 ∷ 2160141059 ∷ 40010675 ∷
    2154898467 ∷ 2155947267 ∷ 2147557507 ∷ 823 ∷ 21168915 ∷ 6357299 ∷ 32871 ∷ 695 ∷
    164499 ∷ 2152801315 ∷ 2155947267 ∷ 2147557507 ∷ 823 ∷ 21168915 ∷ 6357299 ∷ 32871 ∷
    2147549843 ∷ 1077052083 ∷ 823 ∷ 8586003 ∷ 6485603 ∷ 4196499 ∷ 115 ∷ 1080099123 ∷
    2148605987 ∷ 659 ∷ 695 ∷ 5407379 ∷ 2152800803 ∷ 2151752963 ∷ 3982487791 ∷ 2158043683 ∷
    2151752963 ∷ 1050771 ∷ 115 ∷ 695 ∷ 7504531 ∷ 2152800803 ∷ 2151752963 ∷ 2147557507 ∷
    823 ∷ 8586003 ∷ 6357299 ∷ 32871 ∷ 695 ∷ 164499 ∷ 2152800803 ∷ 2151752963 ∷
    2147557507 ∷ 823 ∷ 8586003 ∷ 6357299 ∷ 32871 ∷ []

pub record Worked : Type 0 where
  -- the factorial puts out 120 and ends with 7; with less than its frames need there is no room
  pub factorial_runs : ran factorial 500 10 7200 [] ≡ 0 ∷ 7 ∷ 120 ∷ []
  -- a function that calls itself without end comes to no room
  pub endless_full : ran endless 500 0 40 [] ≡ 4 ∷ 0 ∷ []
  -- 513 + 5 keeps its lowest 8 bits; place 2 of two is trap 1; nothing to read is trap 3
  pub arrays_run : ran arrays 300 10 1200 (9 ∷ []) ≡ 3 ∷ 1 ∷ 6 ∷ 9 ∷ 2 ∷ []
  pub arrays_short : ran arrays 300 0 1200 [] ≡ 3 ∷ 3 ∷ []
  -- number 2 is outside a table of two
  pub calls_run : ran calls 300 10 5000 (0 ∷ []) ≡ 0 ∷ 0 ∷ 10 ∷ 6 ∷ 8 ∷ []
  pub calls_outside : ran calls 300 0 5000 (2 ∷ []) ≡ 3 ∷ 1 ∷ 10 ∷ 6 ∷ []
  -- the row of the factorial's image, word by word
  pub factorial_row : row (compile factorial) ≡ factorial_words
