-- Bounds that only the grammar gives, for any code made from a tree: how many values wait at once, and how many words for each byte.
-- Rests on Syntax and Text; a generator states its costs as a record `Costs` and shows them `Fair`.
use Rattle.std.specs.Prelude.{true, false, List, [], ◌∷◌, ℕ, suc, ◌+◌, ◌*◌, ◌≤◌, max, length}
use Rattle.language.specs.Syntax.{Expr, num, var, bin, un, and1, or1, idx, len, call, by_table, input, Exprs, no, and_then, Stmt, set1, store1, ex1, out1, if1, while1, ret1, break1, next1, Block, end, seq1, Fn, Item, i_word, i_arr, i_data, i_table, i_fn, i_use, Prog}
use Rattle.grammar.specs.Text.{Reads}

-- what holds of each function of a program
abbrev pub OfItem : (Fn → Type 0) → Item → Type 0
OfItem P (i_word x) = Unit {0}
OfItem P (i_arr a) = Unit {0}
OfItem P (i_data w x ns) = Unit {0}
OfItem P (i_table x fs) = Unit {0}
OfItem P (i_fn g) = P g
OfItem P (i_use y xs) = Unit {0}

abbrev pub FnsI : (Fn → Type 0) → List Item → Type 0
FnsI P [] = Unit {0}
FnsI P (i ∷ is) = OfItem P i × FnsI P is

abbrev pub AllFns : Prog → (Fn → Type 0) → Type 0
AllFns [] P = Unit {0}
AllFns (f ∷ fs) P = FnsI P f.items × AllFns fs P

-- how many arguments
abbrev pub count : Exprs → ℕ
count no = 0
count (and_then e es) = suc (count es)

-- How many values wait at once when a tree is worked out with the operands from the left, each value in a place of its own until it is
-- used. A call keeps one place besides its arguments' values, a call through a table two; a body has one at least.
abbrev mutual
  pub deep_e : Expr → ℕ
  deep_e (num n) = 1
  deep_e (var x) = 1
  deep_e (bin o a b) = max (deep_e a) (suc (deep_e b))
  deep_e (un o a) = deep_e a
  deep_e (and1 a b) = max (deep_e a) (deep_e b)
  deep_e (or1 a b) = max (deep_e a) (deep_e b)
  deep_e (idx x e) = deep_e e
  deep_e (len x) = 1
  deep_e (call x es) = suc (deep_es es)
  deep_e (by_table x e es) = max (deep_e e) (suc (suc (deep_es es)))
  deep_e input = 1

  pub deep_es : Exprs → ℕ
  deep_es no = 0
  deep_es (and_then e es) = max (deep_e e) (suc (deep_es es))

abbrev mutual
  pub deep_s : Stmt → ℕ
  deep_s (set1 x e) = deep_e e
  deep_s (store1 x i e) = max (deep_e i) (suc (deep_e e))
  deep_s (ex1 e) = deep_e e
  deep_s (out1 e) = deep_e e
  deep_s (if1 e a b) = max (deep_e e) (max (deep_b a) (deep_b b))
  deep_s (while1 e b) = max (deep_e e) (deep_b b)
  deep_s (ret1 e) = deep_e e
  deep_s break1 = 0
  deep_s next1 = 0

  pub deep_b : Block → ℕ
  deep_b end = 1
  deep_b (seq1 s b) = max (deep_s s) (deep_b b)

-- each call has at most 8 arguments
abbrev mutual
  pub FewE : Expr → Type 0
  FewE (num n) = Unit {0}
  FewE (var x) = Unit {0}
  FewE (bin o a b) = FewE a × FewE b
  FewE (un o a) = FewE a
  FewE (and1 a b) = FewE a × FewE b
  FewE (or1 a b) = FewE a × FewE b
  FewE (idx x e) = FewE e
  FewE (len x) = Unit {0}
  FewE (call x es) = (count es ≤ 8) × FewEs es
  FewE (by_table x e es) = FewE e × (count es ≤ 8) × FewEs es
  FewE input = Unit {0}

  pub FewEs : Exprs → Type 0
  FewEs no = Unit {0}
  FewEs (and_then e es) = FewE e × FewEs es

abbrev mutual
  pub FewS : Stmt → Type 0
  FewS (set1 x e) = FewE e
  FewS (store1 x i e) = FewE i × FewE e
  FewS (ex1 e) = FewE e
  FewS (out1 e) = FewE e
  FewS (if1 e a b) = FewE e × FewB a × FewB b
  FewS (while1 e b) = FewE e × FewB b
  FewS (ret1 e) = FewE e
  FewS break1 = Unit {0}
  FewS next1 = Unit {0}

  pub FewB : Block → Type 0
  FewB end = Unit {0}
  FewB (seq1 s b) = FewS s × FewB b

-- how many words code takes for each form of a tree, without its parts: for an expression, an argument, a statement; a function, each
-- parameter, variable and array of it; an item, each value, byte and entry of it; a file
pub record Costs : Type 0 where
  pub c_num : ℕ
  pub c_var : ℕ
  pub c_bin : ℕ
  pub c_un : ℕ
  pub c_and : ℕ
  pub c_or : ℕ
  pub c_idx : ℕ
  pub c_len : ℕ
  pub c_call : ℕ
  pub c_table : ℕ
  pub c_arg : ℕ
  pub c_input : ℕ
  pub c_set : ℕ
  pub c_store : ℕ
  pub c_ex : ℕ
  pub c_out : ℕ
  pub c_if : ℕ
  pub c_while : ℕ
  pub c_ret : ℕ
  pub c_break : ℕ
  pub c_next : ℕ
  pub c_fn : ℕ
  pub c_param : ℕ
  pub c_local : ℕ
  pub c_own : ℕ
  pub c_word : ℕ
  pub c_arr : ℕ
  pub c_data : ℕ
  pub c_value : ℕ
  pub c_byte : ℕ
  pub c_tab : ℕ
  pub c_entry : ℕ
  pub c_use : ℕ
  pub c_file : ℕ

-- k for each of a list
abbrev pub each : {A : Type 0} → ℕ → List A → ℕ
each k [] = 0
each k (x ∷ xs) = k + each k xs

-- how many words code takes, by its costs
abbrev mutual
  pub w_e : Costs → Expr → ℕ
  w_e c (num n) = c.c_num
  w_e c (var x) = c.c_var
  w_e c (bin o a b) = w_e c a + w_e c b + c.c_bin
  w_e c (un o a) = w_e c a + c.c_un
  w_e c (and1 a b) = w_e c a + w_e c b + c.c_and
  w_e c (or1 a b) = w_e c a + w_e c b + c.c_or
  w_e c (idx x e) = w_e c e + c.c_idx
  w_e c (len x) = c.c_len
  w_e c (call x es) = w_es c es + c.c_call
  w_e c (by_table x e es) = w_e c e + w_es c es + c.c_table
  w_e c input = c.c_input

  pub w_es : Costs → Exprs → ℕ
  w_es c no = 0
  w_es c (and_then e es) = w_e c e + w_es c es + c.c_arg

abbrev mutual
  pub w_s : Costs → Stmt → ℕ
  w_s c (set1 x e) = w_e c e + c.c_set
  w_s c (store1 x i e) = w_e c i + w_e c e + c.c_store
  w_s c (ex1 e) = w_e c e + c.c_ex
  w_s c (out1 e) = w_e c e + c.c_out
  w_s c (if1 e a b) = w_e c e + w_b c a + w_b c b + c.c_if
  w_s c (while1 e b) = w_e c e + w_b c b + c.c_while
  w_s c (ret1 e) = w_e c e + c.c_ret
  w_s c break1 = c.c_break
  w_s c next1 = c.c_next

  pub w_b : Costs → Block → ℕ
  w_b c end = 0
  w_b c (seq1 s b) = w_s c s + w_b c b

abbrev pub w_fn : Costs → Fn → ℕ
w_fn c g =
    w_b c g.body + each c.c_param g.params + each c.c_local g.vars + each c.c_own g.arrs
    + c.c_fn

abbrev pub w_i : Costs → Item → ℕ
w_i c (i_word x) = c.c_word
w_i c (i_arr a) = c.c_arr
w_i c (i_data true x ns) = each c.c_value ns + c.c_data
w_i c (i_data false x ns) = each c.c_byte ns + c.c_data
w_i c (i_table x fs) = each c.c_entry fs + c.c_tab
w_i c (i_fn g) = w_fn c g
w_i c (i_use y xs) = c.c_use

abbrev pub w_is : Costs → List Item → ℕ
w_is c [] = 0
w_is c (i ∷ is) = w_i c i + w_is c is

abbrev pub words : Costs → Prog → ℕ
words c [] = 0
words c (f ∷ fs) = w_is c f.items + words c fs + c.c_file

-- Costs that m words for each byte of the text pay for. The multiple of m is how many bytes the form has at least, without its parts: `x = e;`
-- has 3 besides e. Each expression leaves σ words over, which the form around it may use.
pub record Fair (m σ : ℕ) (c : Costs) : Type 0 where
  pub f_num : c.c_num + σ ≤ m
  pub f_var : c.c_var + σ ≤ m
  pub f_bin : c.c_bin ≤ m + σ
  pub f_un : c.c_un ≤ m
  pub f_and : c.c_and ≤ 2 * m + σ
  pub f_or : c.c_or ≤ 2 * m + σ
  pub f_idx : c.c_idx ≤ 3 * m
  pub f_len : c.c_len + σ ≤ 6 * m
  pub f_call : c.c_call + σ ≤ 2 * m
  pub f_table : c.c_table ≤ 8 * m
  pub f_arg : c.c_arg ≤ m + σ
  pub f_input : c.c_input + σ ≤ 4 * m
  pub f_set : c.c_set ≤ 3 * m + σ
  pub f_store : c.c_store ≤ 5 * m + 2 * σ
  pub f_ex : c.c_ex ≤ m + σ
  pub f_out : c.c_out ≤ 4 * m + σ
  pub f_if : c.c_if ≤ 4 * m + σ
  pub f_while : c.c_while ≤ 7 * m + σ
  pub f_ret : c.c_ret ≤ 7 * m + σ
  pub f_break : c.c_break ≤ 6 * m
  pub f_next : c.c_next ≤ 9 * m
  pub f_fn : c.c_fn ≤ 7 * m
  pub f_param : c.c_param ≤ m
  pub f_local : c.c_local ≤ m
  pub f_own : c.c_own ≤ 10 * m
  pub f_word : c.c_word ≤ 5 * m
  pub f_arr : c.c_arr ≤ 10 * m
  pub f_data : c.c_data ≤ 8 * m
  pub f_value : c.c_value ≤ m
  pub f_byte : c.c_byte ≤ m
  pub f_tab : c.c_tab ≤ 8 * m
  pub f_entry : c.c_entry ≤ m
  pub f_use : c.c_use ≤ 6 * m
  pub f_file : c.c_file ≤ 6 * m

-- no function of a text's program has more than 593 values that wait at once
abbrev pub DeepBounded : Type 0
DeepBounded = (t : List ℕ) (p : Prog) → Reads t p → AllFns p (λ g. deep_b g.body ≤ 593)

-- code whose costs are fair for m takes at most m words for each byte of the text
abbrev pub WordsBounded : Type 0
WordsBounded = (m σ : ℕ) (c : Costs) → Fair m σ c → (t : List ℕ) (p : Prog) → Reads t p → words c p ≤ m * length t
