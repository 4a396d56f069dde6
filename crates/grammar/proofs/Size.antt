-- Code takes at most m words for each byte of the text, if its costs are fair for m: by recursion on the grammar's relations.
-- Rests on PieceBytes.
use mathlib.Core.Path.{◌≡◌}
use mathlib.Core.List.{List, [], ◌∷◌, ◌++◌}
use Prim.Native.Nat.{ℕ, ◌+◌, ◌*◌, ◌≤◌}
use native.Mathlib.Omega.{arith}
use lib.ListN.{length}
use lib.Dec.{leb, T, leb→le}
use Rattle.language.specs.Syntax.{Name, Expr, Exprs, Stmt, Block, Param, Arr, Item, Prog}
use Rattle.grammar.specs.Text.{is_name, IsNumber, Between, plus, minus, times, over, rest, is, isnt, less, most, more, least, both, any, exclusive, left, right, Before, minus_before, not_before, flip_before, AreNames, one_n, more_n, AreNumbers, one_v, more_v, IsExpr, looser, or_e, and_e, two_e, one_e, num_e, var_e, brackets_e, index_e, len_e, call_e, table_e, in_e, AreArgs, none_es, one_es, more_es, IsStmt, set_s, store_s, ex_s, out_s, if_s, ifelse_s, while_s, return_s, break_s, continue_s, IsBlock, end_s, more_s, IsParam, word_p, wide_p, byte_p, AreParams, none_ps, one_ps, more_ps, AreVars, no_vars, some_vars, AreArrays, no_arrs, wide_a, byte_a, IsItem, word_i, wide_i, byte_i, data_i, text_i, table_i, use_i, fn_i, AreItems, no_items, more_items, AreFiles, no_files, more_files, pieces, gap, Reads}
use Rattle.grammar.specs.Bounds.{Costs, Fair, each, w_e, w_es, w_s, w_b, w_i, w_is, words}
use Rattle.grammar.proofs.PieceKinds.{and_0}
use native.Mathlib.Nat.{mul-add, mul-suc, mul-zero, mul-le-mul_left}
use Rattle.grammar.proofs.PieceBytes.{bytes, pieces-bytes}

-- m for each byte: a sum, so that `omega` sees no product of two unknowns
abbrev pub paid : ℕ → List Name → ℕ
paid m [] = 0
paid m (w ∷ ws) = each m w + paid m ws

module _ (m : ℕ) where
  paid_++ : (s t : List Name) → paid m (s ++ t) ≡ paid m s + paid m t
  paid_++ [] t = omega arith
  paid_++ (w ∷ s) t = let h = paid_++ s t in omega arith

  each-is : {A : Type 0} (xs : List A) → each m xs ≡ m * length xs
  each-is [] = omega (arith, mul-zero m)
  each-is (x ∷ xs) = let h = each-is xs in omega (arith, mul-suc m (length xs))

  paid_is : (s : List Name) → paid m s ≡ m * bytes s
  paid_is [] = omega (arith, mul-zero m)
  paid_is (w ∷ s) = let h = paid_is s in let e = each-is w in omega (arith, mul-add m (length w) (bytes s))

  some_1 : (w : Name) → 1 ≤ length w → m ≤ each m w
  some_1 [] h = absurd (let z : ⊥ = omega arith in z)
  some_1 (x ∷ xs) h = omega arith

  -- a name, a number and an operator have a byte at least
  name_1 : (x : Name) → T (is_name x) → m ≤ each m x
  name_1 x h = some_1 x (leb→le 1 (length x) (and_0 (leb 1 (length x)) _ h))

  num_1 : (w : Name) (n : ℕ) → IsNumber w n → m ≤ each m w
  num_1 w n h = some_1 w (leb→le 1 (length w) (and_0 (leb 1 (length w)) _ h.0))

  between_1 : {l o : ℕ} {w : Name} → Between l w o → m ≤ each m w
  between_1 plus = omega arith
  between_1 minus = omega arith
  between_1 times = omega arith
  between_1 over = omega arith
  between_1 rest = omega arith
  between_1 is = omega arith
  between_1 isnt = omega arith
  between_1 less = omega arith
  between_1 most = omega arith
  between_1 more = omega arith
  between_1 least = omega arith
  between_1 both = omega arith
  between_1 any = omega arith
  between_1 exclusive = omega arith
  between_1 left = omega arith
  between_1 right = omega arith

  before_1 : {o : ℕ} {w : Name} → Before w o → m ≤ each m w
  before_1 minus_before = omega arith
  before_1 not_before = omega arith
  before_1 flip_before = omega arith

  each_names : (k : ℕ) {s xs : List Name} → k ≤ m → AreNames s xs → each k xs ≤ paid m s
  each_names k q (one_n {x} h) = let a = name_1 x h in omega arith
  each_names k q (more_n {x} h y) = let a = name_1 x h in let i = each_names k q y in omega arith

  each_nums : (k : ℕ) {s : List Name} {ns : List ℕ} → k ≤ m → AreNumbers s ns → each k ns ≤ paid m s
  each_nums k q (one_v {w} {n} h) = let a = num_1 w n h in omega arith
  each_nums k q (more_v {w} {n} h y) = let a = num_1 w n h in let i = each_nums k q y in omega arith

  each_len : {A : Type 0} (k : ℕ) (xs : List A) → k ≤ m → each k xs ≤ each m xs
  each_len k [] q = omega arith
  each_len k (x ∷ xs) q = let i = each_len k xs q in omega arith

  par_1 : {s : List Name} {q : Param} → IsParam s q → m ≤ paid m s
  par_1 (word_p {x} h) = let a = name_1 x h in omega arith
  par_1 (wide_p {x} h) = let a = name_1 x h in omega arith
  par_1 (byte_p {x} h) = let a = name_1 x h in omega arith

  each_pars : (k : ℕ) {s : List Name} {qs : List Param} → k ≤ m → AreParams s qs → each k qs ≤ paid m s
  each_pars k q none_ps = omega arith
  each_pars k q (one_ps x) = let a = par_1 x in omega arith
  each_pars k q (more_ps {s} x y) = let a = par_1 x in let i = each_pars k q y in simp paid_++ (omega arith)

  each_vars : (k : ℕ) {s xs : List Name} → k ≤ m → AreVars s xs → each k xs ≤ paid m s
  each_vars k q no_vars = omega arith
  each_vars k q (some_vars x) = let i = each_names k q x in simp paid_++ (omega arith)

  each_arrs : (k : ℕ) {s : List Name} {as₁ : List Arr} → k ≤ 10 * m → AreArrays s as₁ → each k as₁ ≤ paid m s
  each_arrs k q no_arrs = omega arith
  each_arrs k q (wide_a {x} {w} {n} h b y) = let a = name_1 x h in let d = num_1 w n b in let i = each_arrs k q y in omega arith
  each_arrs k q (byte_a {x} {w} {n} h b y) = let a = name_1 x h in let d = num_1 w n b in let i = each_arrs k q y in omega arith

module _ (m σ : ℕ) (c : Costs) (q : Fair m σ c) where
  -- an expression leaves σ words over, which pay for the operator before or behind it
  mutual
    size-e : {k : ℕ} {s : List Name} {e : Expr} → IsExpr k s e → w_e c e + σ ≤ paid m s
    size-e (looser h x) = size-e x
    size-e (or_e x y) = let i = size-e x in let j = size-e y in let f = q.f_or in simp (paid_++ m) (omega arith)
    size-e (and_e x y) = let i = size-e x in let j = size-e y in let f = q.f_and in simp (paid_++ m) (omega arith)
    size-e (two_e x o y) = let i = size-e x in let j = size-e y in let l = between_1 m o in let f = q.f_bin in simp (paid_++ m) (omega arith)
    size-e (one_e o x) = let i = size-e x in let l = before_1 m o in let f = q.f_un in omega arith
    size-e (num_e {w} {n} h) = let l = num_1 m w n h in let f = q.f_num in omega arith
    size-e (var_e {x} h) = let l = name_1 m x h in let f = q.f_var in omega arith
    size-e (brackets_e x) = let i = size-e x in simp (paid_++ m) (omega arith)
    size-e (index_e {x} h y) = let l = name_1 m x h in let i = size-e y in let f = q.f_idx in simp (paid_++ m) (omega arith)
    size-e (len_e {x} h) = let l = name_1 m x h in let f = q.f_len in omega arith
    size-e (call_e {x} h y) = let l = name_1 m x h in let i = size-es y in let f = q.f_call in simp (paid_++ m) (omega arith)
    size-e (table_e {x} h y z) = let l = name_1 m x h in let i = size-e y in let j = size-es z in let f = q.f_table in simp (paid_++ m) (omega arith)
    size-e in_e = let f = q.f_input in omega arith

    size-es : {s : List Name} {es : Exprs} → AreArgs s es → w_es c es ≤ paid m s + m
    size-es none_es = omega arith
    size-es (one_es x) = let i = size-e x in let f = q.f_arg in omega arith
    size-es (more_es x y) = let i = size-e x in let j = size-es y in let f = q.f_arg in simp (paid_++ m) (omega arith)

  mutual
    size-s : {s : List Name} {a : Stmt} → IsStmt s a → w_s c a ≤ paid m s
    size-s (set_s {x} h y) = let l = name_1 m x h in let i = size-e y in let f = q.f_set in simp (paid_++ m) (omega arith)
    size-s (store_s {x} h y z) = let l = name_1 m x h in let i = size-e y in let j = size-e z in let f = q.f_store in simp (paid_++ m) (omega arith)
    size-s (ex_s x) = let i = size-e x in let f = q.f_ex in simp (paid_++ m) (omega arith)
    size-s (out_s x) = let i = size-e x in let f = q.f_out in simp (paid_++ m) (omega arith)
    size-s (if_s x y) = let i = size-e x in let j = size-b y in let f = q.f_if in simp (paid_++ m) (omega arith)
    size-s (ifelse_s x y z) = let i = size-e x in let j = size-b y in let k = size-b z in let f = q.f_if in simp (paid_++ m) (omega arith)
    size-s (while_s x y) = let i = size-e x in let j = size-b y in let f = q.f_while in simp (paid_++ m) (omega arith)
    size-s (return_s x) = let i = size-e x in let f = q.f_ret in simp (paid_++ m) (omega arith)
    size-s break_s = let f = q.f_break in omega arith
    size-s continue_s = let f = q.f_next in omega arith

    size-b : {s : List Name} {b : Block} → IsBlock s b → w_b c b ≤ paid m s
    size-b end_s = omega arith
    size-b (more_s x y) = let i = size-s x in let j = size-b y in simp (paid_++ m) (omega arith)

  size_i : {s : List Name} {i : Item} → IsItem s i → w_i c i ≤ paid m s
  size_i (word_i {x} h) = let l = name_1 m x h in let f = q.f_word in omega arith
  size_i (wide_i {x} {w} {n} h b) = let l = name_1 m x h in let d = num_1 m w n b in let f = q.f_arr in omega arith
  size_i (byte_i {x} {w} {n} h b) = let l = name_1 m x h in let d = num_1 m w n b in let f = q.f_arr in omega arith
  size_i (data_i {x} h y) = let l = name_1 m x h in let i = each_nums m c.c_value q.f_value y in let f = q.f_data in simp (paid_++ m) (omega arith)
  size_i (text_i {x} {ns} h) = let l = name_1 m x h in let i = each_len m c.c_byte ns q.f_byte in let f = q.f_data in omega arith
  size_i (table_i {x} h y) = let l = name_1 m x h in let i = each_names m c.c_entry q.f_entry y in let f = q.f_tab in simp (paid_++ m) (omega arith)
  size_i (use_i {x} h y) = let l = name_1 m x h in let i = each_names m m (omega arith) y in let f = q.f_use in simp (paid_++ m) (omega arith)
  size_i (fn_i {x} h a b d e) =
      let l = name_1 m x h in let i = each_pars m c.c_param q.f_param a in let j = each_vars m c.c_local q.f_local b in
      let k = each_arrs m c.c_own q.f_own d in let n = size-b e in let f = q.f_fn in
      simp (paid_++ m) (omega arith)

  size-is : {s : List Name} {is : List Item} → AreItems s is → w_is c is ≤ paid m s
  size-is no_items = omega arith
  size-is (more_items x y) = let i = size_i x in let j = size-is y in simp (paid_++ m) (omega arith)

  size_fs : {s : List Name} {p : Prog} → AreFiles s p → words c p ≤ paid m s
  size_fs no_files = omega arith
  size_fs (more_files {x} h y z) = let l = name_1 m x h in let i = size-is y in let j = size_fs z in let f = q.f_file in simp (paid_++ m) (omega arith)

pub words-bound : (m σ : ℕ) (c : Costs) → Fair m σ c → (t : List ℕ) (p : Prog) → Reads t p → words c p ≤ m * length t
words-bound m σ c q t p r =
    let i = size_fs m σ c q r.said in
    let e = paid_is m (pieces gap t) in
    let j : m * bytes (pieces gap t) ≤ m * length t = mul-le-mul_left m (pieces-bytes t) in
    omega arith
