-- How long the code of a program is, by its tree: with the grammar's count of words for each byte, by its text.
use mathlib.Core.Path.{◌≡◌, refl, ap, ◌∙◌}
use mathlib.Core.Bool.{Bool, true, false}
use mathlib.Core.List.{List, [], ◌∷◌, ◌++◌}
use mathlib.Core.Option.{Option, some, none}
use Prim.Native.Nat.{ℕ, zero, suc, ◌+◌, ◌≤◌}
use native.Mathlib.Omega.{arith}
use lib.ListN.{length, length-append}
use Rattle.language.specs.Syntax.{opt, Name, Expr, num, var, bin, un, and1, or1, idx, len, call, by_table, input, Exprs, no, and_then, Stmt, set1, store1, ex1, out1, if1, while1, ret1, break1, next1, Block, end, seq1}
use Rattle.language.specs.Meaning.{on_some, as_word}
use Rattle.grammar.specs.Bounds.{Costs, Fair, w_e, w_es, w_s, w_b}
use Rattle.steps.specs.Steps.{Opnd, o_top, o_own, Step, s_num, s_bin, s_un, s_getw, s_setw, s_call, s_table, s_idx, s_put, s_len, MFn, MProg}
use Rattle.steps.specs.Generate.{Scope, Ref, r_word, r_arr, find, arr_arg, own_at, unless, count, opnds, the_arr, wide_of, at_place, size_e, size_v, size_s, size_b, copies, sets_to, gen_var, gen_set, gen_e, gen_es, gen_v, gen_s, gen_b}
use Rattle.lower.specs.Code.{LI, l_sw, l_num}
use Rattle.lower.specs.Lower.{Op, o_add, o_sub, o_mul, o_div, o_rem, o_eq, o_ne, o_lt, o_le, o_gt, o_ge, o_and, o_or, o_xor, o_shl, o_shr, Op1, u_neg, u_not, u_inv, u_flag, op_of, op1_of, ops, ops1, loads, stores, lower, width, code_of}
use Rattle.lower.proofs.RowPlaces.{width_is}

-- what each form's own instructions take at most
abbrev pub costs : Costs
costs = record { c_num = 3; c_var = 4; c_bin = 8; c_un = 4; c_and = 7; c_or = 11; c_idx = 15; c_len = 3; c_call = 2; c_table = 17; c_arg = 1; c_input = 7; c_set = 4; c_store = 16; c_ex = 0; c_out = 3; c_if = 4; c_while = 6; c_ret = 6; c_break = 1; c_next = 1; c_fn = 19; c_param = 1; c_local = 1; c_own = 0; c_word = 0; c_arr = 0; c_data = 0; c_value = 1; c_byte = 1; c_tab = 0; c_entry = 1; c_use = 0; c_file = 0 }

-- six words for each byte pay for the code, and each expression leaves two over
pub costs_fair : Fair 6 2 costs
costs_fair = omega arith

ops-short : (p : ℕ) (o : Op) → length (ops p o) ≤ 5
ops-short p o_add = omega arith
ops-short p o_sub = omega arith
ops-short p o_mul = omega arith
ops-short p o_div = omega arith
ops-short p o_rem = omega arith
ops-short p o_eq = omega arith
ops-short p o_ne = omega arith
ops-short p o_lt = omega arith
ops-short p o_le = omega arith
ops-short p o_gt = omega arith
ops-short p o_ge = omega arith
ops-short p o_and = omega arith
ops-short p o_or = omega arith
ops-short p o_xor = omega arith
ops-short p o_shl = omega arith
ops-short p o_shr = omega arith

ops1-short : (o : Op1) → length (ops1 o) ≤ 2
ops1-short u_neg = omega arith
ops1-short u_not = omega arith
ops1-short u_inv = omega arith
ops1-short u_flag = omega arith

loads-long : (n q k : ℕ) → length (loads q k n) ≡ n
loads-long zero q k = refl
loads-long (suc n) q k = ap suc (loads-long n (suc q) (suc k))

pub stores-long : (rg : ℕ → ℕ) (n k : ℕ) → length (stores rg k n) ≡ n
stores-long rg zero k = refl
stores-long rg (suc n) k = ap suc (stores-long rg n (suc k))

module _ (m : MProg) (f : MFn) where
  abbrev pub widths : List Step → ℕ
  widths [] = 0
  widths (s ∷ ss) = width m f s + widths ss

  pub code_long : (en at : ℕ → ℕ) (ss : List Step) (q : ℕ) → length (code_of en at m f ss q) ≡ widths ss
  code_long en at [] q = refl
  code_long en at (s ∷ ss) q = length-append (lower en at m f q s) (code_of en at m f ss (q + width m f s)) ∙ omega (arith, width_is en at m f q s, code_long en at ss (q + width m f s))

  pub widths_both : (xs ys : List Step) → widths (xs ++ ys) ≡ widths xs + widths ys
  widths_both [] ys = omega arith
  widths_both (x ∷ xs) ys = omega (arith, widths_both xs ys)

  w_bin : (o d a b : ℕ) → width m f (s_bin o d a b) ≤ 8
  w_bin o d a b = omega (arith, length-append (ops 2 (op_of o)) (l_sw 7 (suc d) ∷ []), ops-short 2 (op_of o))

  w_un : (o d a : ℕ) → width m f (s_un o d a) ≤ 4
  w_un o d a = omega (arith, length-append (ops1 (op1_of o)) (l_sw 7 (suc d) ∷ []), ops1-short (op1_of o))

  w_call : (d g k n : ℕ) (os : List Opnd) → width m f (s_call d g k n os) ≡ n + 2
  w_call d g k n os = length-append (loads 10 k n) _ ∙ ap (λ x. x + 2) (loads-long n 10 k)

  w_table : (d i t k n : ℕ) (os : List Opnd) → width m f (s_table d i t k n os) ≡ n + 17
  w_table d i t k n os = omega (arith, length-append (loads 10 k n) (Rattle.lower.specs.Code.l_callr 6 ∷ l_sw 10 (suc d) ∷ []), loads-long n 10 k)

  w_idx : (d : ℕ) (o : Opnd) (i : ℕ) → width m f (s_idx d o i) ≤ 15
  w_idx d (o_top a) i = omega arith
  w_idx d (o_own j) i = omega arith

  w_put : (w : Bool) (o : Opnd) (i b : ℕ) → width m f (s_put w o i b) ≤ 16
  w_put true (o_top a) i b = omega arith
  w_put false (o_top a) i b = omega arith
  w_put w (o_own j) i b = omega arith

  w_len : (d : ℕ) (o : Opnd) → width m f (s_len d o) ≤ 3
  w_len d (o_top a) = omega arith
  w_len d (o_own j) = omega arith

  module _ (Γ : Scope) where
    w_copies : (d : ℕ) (r : Ref) → width m f (copies d r) ≤ 4
    w_copies d (r_word k) = omega arith
    w_copies d (r_arr j w) = omega arith

    w_sets : (a : ℕ) (r : Ref) → width m f (sets_to a r) ≤ 4
    w_sets a (r_word k) = omega arith
    w_sets a (r_arr j w) = omega arith

    w_var : (x : Name) (d : ℕ) → width m f (gen_var Γ x d) ≤ 4
    w_var x d = go (find Γ.slots x 0 0) (on_some (Γ.top x) as_word)
      where
        go : (o : Option Ref) (w : Option ℕ) → width m f (opt o (opt w (s_num d 0) (s_getw d)) (copies d)) ≤ 4
        go none none = omega arith
        go none (some i) = omega arith
        go (some r) w = w_copies d r

    w_set : (x : Name) (d : ℕ) → width m f (gen_set Γ x d) ≤ 4
    w_set x d = go (find Γ.slots x 0 0) (on_some (Γ.top x) as_word)
      where
        go : (o : Option Ref) (w : Option ℕ) → width m f (opt o (opt w (s_num d 0) (λ i. s_setw i d)) (sets_to d)) ≤ 4
        go none none = omega arith
        go none (some i) = omega arith
        go (some r) w = w_sets d r

    -- an operand that stands in its place already takes nothing
    w_unless : (o : Option ℕ) (xs : List Step) (n : ℕ) → widths xs ≤ n → widths (unless o [] xs) ≤ n
    w_unless none xs n h = h
    w_unless (some k) xs n h = omega arith

    in_place : (e : Expr) (d pc : ℕ) → widths (gen_e Γ e d pc) ≤ w_e costs e → widths (gen_v Γ e d pc) ≤ w_e costs e
    in_place e d pc h = w_unless (own_at Γ e) (gen_e Γ e d pc) (w_e costs e) h

    w_arg : (o : Option Opnd) (e : Expr) (es : Exprs) (d pc : ℕ) → widths (gen_e Γ e d pc) ≤ w_e costs e → widths (gen_es Γ es d pc) + count Γ es ≤ w_es costs es → widths (gen_es Γ es (suc d) (pc + size_e Γ e)) + count Γ es ≤ w_es costs es → widths (opt o (gen_e Γ e d pc ++ gen_es Γ es (suc d) (pc + size_e Γ e)) (λ r. gen_es Γ es d pc)) + opt o (suc (count Γ es)) (λ r. count Γ es) ≤ w_es costs (and_then e es)
    w_arg none e es d pc h i j = simp widths_both (omega (arith, h, j))
    w_arg (some r) e es d pc h i j = omega (arith, i)

    mutual
      w-e : (e : Expr) (d pc : ℕ) → widths (gen_e Γ e d pc) ≤ w_e costs e
      w-e (num k) d pc = omega arith
      w-e (var x) d pc = omega (arith, w_var x d)
      w-e (bin o a b) d pc = simp widths_both (omega (arith, in_place a d pc (w-e a d pc), in_place b (suc d) (pc + size_v Γ a) (w-e b (suc d) (pc + size_v Γ a)), w_bin o d (at_place Γ a d) (at_place Γ b (suc d))))
      w-e (un o a) d pc = simp widths_both (omega (arith, in_place a d pc (w-e a d pc), w_un o d (at_place Γ a d)))
      w-e (and1 a b) d pc = simp widths_both (omega (arith, w-e a d pc, w-e b d (suc (pc + size_e Γ a))))
      w-e (or1 a b) d pc = simp widths_both (omega (arith, w-e a d pc, w-e b d (suc (suc (suc (pc + size_e Γ a))))))
      w-e (idx x e) d pc = simp widths_both (omega (arith, in_place e d pc (w-e e d pc), w_idx d (the_arr Γ x) (at_place Γ e d)))
      w-e (len x) d pc = omega (arith, w_len d (the_arr Γ x))
      w-e (call x es) d pc = simp widths_both (omega (arith, w-es es d pc, w_call d (Γ.fn_no x) d (count Γ es) (opnds Γ es)))
      w-e (by_table x e es) d pc = simp widths_both (omega (arith, in_place e d pc (w-e e d pc), w-es es (suc d) (pc + size_v Γ e), w_table d (at_place Γ e d) (Γ.table_no x) (suc d) (count Γ es) (opnds Γ es)))
      w-e input d pc = omega arith

      w-es : (es : Exprs) (d pc : ℕ) → widths (gen_es Γ es d pc) + count Γ es ≤ w_es costs es
      w-es no d pc = omega arith
      w-es (and_then e es) d pc = w_arg (arr_arg Γ e) e es d pc (w-e e d pc) (w-es es d pc) (w-es es (suc d) (pc + size_e Γ e))

    w_v : (e : Expr) (d pc : ℕ) → widths (gen_v Γ e d pc) ≤ w_e costs e
    w_v e d pc = in_place e d pc (w-e e d pc)

    mutual
      w-s : (a : Stmt) (d brk nxt pc : ℕ) → widths (gen_s Γ a d brk nxt pc) ≤ w_s costs a
      w-s (set1 x e) d brk nxt pc = simp widths_both (omega (arith, w-e e d pc, w_set x d))
      w-s (store1 x i e) d brk nxt pc = simp widths_both (omega (arith, w_v i d pc, w_v e (suc d) (pc + size_v Γ i), w_put (wide_of Γ x) (the_arr Γ x) (at_place Γ i d) (at_place Γ e (suc d))))
      w-s (ex1 e) d brk nxt pc = omega (arith, w-e e d pc)
      w-s (out1 e) d brk nxt pc = simp widths_both (omega (arith, w_v e d pc))
      w-s (if1 e a b) d brk nxt pc = simp widths_both (omega (arith, w-e e d pc, w-b a d brk nxt (suc (pc + size_e Γ e)), w-b b d brk nxt (suc (suc (pc + size_e Γ e + size_b Γ a)))))
      w-s (while1 e b) d brk nxt pc = simp widths_both (omega (arith, w-e e d (pc + 2), w-b b d (pc + 1) (pc + 2) (suc (pc + 2 + size_e Γ e))))
      w-s (ret1 e) d brk nxt pc = simp widths_both (omega (arith, w_v e d pc))
      w-s break1 d brk nxt pc = omega arith
      w-s next1 d brk nxt pc = omega arith

      pub w-b : (b : Block) (d brk nxt pc : ℕ) → widths (gen_b Γ b d brk nxt pc) ≤ w_b costs b
      w-b end d brk nxt pc = omega arith
      w-b (seq1 a b) d brk nxt pc = simp widths_both (omega (arith, w-s a d brk nxt pc, w-b b d brk nxt (pc + size_s Γ a)))
