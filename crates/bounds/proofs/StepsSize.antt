-- How long the rows of a program's steps are, by its tree, and with the grammar's count of words for each byte by its text.
use mathlib.Core.Path.{◌≡◌, refl, ap, ◌∙◌}
use mathlib.Core.List.{List, [], ◌∷◌}
use mathlib.Core.Option.{Option, some, none}
use Prim.Native.Nat.{ℕ, ◌+◌, ◌*◌, ◌≤◌}
use native.Mathlib.Omega.{arith}
use lib.ListN.{length, length-append}
use Rattle.language.specs.Syntax.{opt, Name, Expr, num, var, bin, un, and1, or1, idx, len, call, by_table, input, Exprs, no, and_then, Stmt, set1, store1, ex1, out1, if1, while1, ret1, break1, next1, Block, end, seq1, Fn, Prog}
use Rattle.language.specs.Meaning.{Top, all_tops, as_fn}
use Rattle.grammar.specs.Bounds.{Costs, Fair, w_e, w_es, w_s, w_b, w_fn}
use Rattle.grammar.proofs.Size.{words-bound}
use Rattle.rows.specs.Trees.{list_row}
use Rattle.steps.specs.Steps.{Opnd, Step, s_num, s_copy, s_bin, s_un, s_flag, s_getw, s_setw, s_jump, s_jz, s_call, s_table, s_out, s_ret, s_in, s_idx, s_put, s_len, MFn}
use Rattle.steps.specs.Generate.{Scope, arr_arg, own_at, unless, size_e, size_es, size_v, size_s, size_b, words_of, slots_of, scope, gen_b, gen_body, sorted, gen_fn}
use Rattle.steps.proofs.Statements.{len_b}
use Rattle.generator.specs.StepRows.{step_words, fn_words}
use Rattle.bounds.specs.Bounds.{steps_in, StepsShort}
use Rattle.bounds.proofs.Totals.{functions, of_files}

-- five words a step and one more for it; four a function and one more; a body ends with two steps of its own
abbrev costs : Costs
costs = record { c_num = 6; c_var = 6; c_bin = 6; c_un = 6; c_and = 12; c_or = 24; c_idx = 6; c_len = 6; c_call = 6; c_table = 6; c_arg = 0; c_input = 6; c_set = 6; c_store = 6; c_ex = 0; c_out = 6; c_if = 12; c_while = 24; c_ret = 6; c_break = 6; c_next = 6; c_fn = 17; c_param = 0; c_local = 0; c_own = 0; c_word = 0; c_arr = 0; c_data = 0; c_value = 0; c_byte = 0; c_tab = 0; c_entry = 0; c_use = 0; c_file = 0 }

-- ten words for each byte pay for them, and each expression leaves four over
costs_fair : Fair 10 4 costs
costs_fair = omega arith

module _ (Γ : Scope) where
  -- an operand that stands in its place already takes nothing
  in_place : (e : Expr) → 6 * size_e Γ e ≤ w_e costs e → 6 * size_v Γ e ≤ w_e costs e
  in_place e h = go (own_at Γ e)
    where
      go : (o : Option ℕ) → 6 * unless o 0 (size_e Γ e) ≤ w_e costs e
      go none = h
      go (some k) = omega arith

  arg_size : (e : Expr) (es : Exprs) → 6 * size_e Γ e ≤ w_e costs e → 6 * size_es Γ es ≤ w_es costs es → 6 * size_es Γ (and_then e es) ≤ w_es costs (and_then e es)
  arg_size e es h k = go (arr_arg Γ e)
    where
      go : (o : Option Opnd) → 6 * opt o (size_e Γ e + size_es Γ es) (λ a. size_es Γ es) ≤ w_es costs (and_then e es)
      go none = omega (arith, h, k)
      go (some a) = omega (arith, k)

  mutual
    expr_size : (e : Expr) → 6 * size_e Γ e ≤ w_e costs e
    expr_size (num n) = omega arith
    expr_size (var x) = omega arith
    expr_size (bin o e f) = omega (arith, in_place e (expr_size e), in_place f (expr_size f))
    expr_size (un o e) = omega (arith, in_place e (expr_size e))
    expr_size (and1 e f) = omega (arith, expr_size e, expr_size f)
    expr_size (or1 e f) = omega (arith, expr_size e, expr_size f)
    expr_size (idx x e) = omega (arith, in_place e (expr_size e))
    expr_size (len x) = omega arith
    expr_size (call x es) = omega (arith, args_size es)
    expr_size (by_table x e es) = omega (arith, in_place e (expr_size e), args_size es)
    expr_size input = omega arith

    args_size : (es : Exprs) → 6 * size_es Γ es ≤ w_es costs es
    args_size no = omega arith
    args_size (and_then e es) = arg_size e es (expr_size e) (args_size es)

  value_size : (e : Expr) → 6 * size_v Γ e ≤ w_e costs e
  value_size e = in_place e (expr_size e)

  mutual
    stmt_size : (s : Stmt) → 6 * size_s Γ s ≤ w_s costs s
    stmt_size (set1 x e) = omega (arith, expr_size e)
    stmt_size (store1 x i e) = omega (arith, value_size i, value_size e)
    stmt_size (ex1 e) = omega (arith, expr_size e)
    stmt_size (out1 e) = omega (arith, value_size e)
    stmt_size (if1 e b c) = omega (arith, expr_size e, block_size b, block_size c)
    stmt_size (while1 e b) = omega (arith, expr_size e, block_size b)
    stmt_size (ret1 e) = omega (arith, value_size e)
    stmt_size break1 = omega arith
    stmt_size next1 = omega arith

    block_size : (b : Block) → 6 * size_b Γ b ≤ w_b costs b
    block_size end = omega arith
    block_size (seq1 s b) = omega (arith, stmt_size s, block_size b)

body-long : (Γ : Scope) (body : Block) (d : ℕ) → length (gen_body Γ body d) ≡ size_b Γ body + 2
body-long Γ body d = length-append (gen_b Γ body d 0 0 0) (s_num d 0 ∷ s_ret d ∷ []) ∙ ap (λ n. n + 2) (len_b body Γ d 0 0 0)

step-long : (s : Step) → length (step_words s) ≡ 5
step-long (s_num d n) = refl
step-long (s_copy d a) = refl
step-long (s_bin o d a b) = refl
step-long (s_un o d a) = refl
step-long (s_flag d a) = refl
step-long (s_getw d i) = refl
step-long (s_setw i a) = refl
step-long (s_jump t) = refl
step-long (s_jz a t) = refl
step-long (s_call d h k n os) = refl
step-long (s_table d i t k n os) = refl
step-long (s_out a) = refl
step-long (s_ret a) = refl
step-long (s_in d) = refl
step-long (s_idx d o i) = refl
step-long (s_put w o i a) = refl
step-long (s_len d o) = refl

pub steps-long : (ss : List Step) → length (list_row step_words ss) ≡ 5 * length ss
steps-long [] = refl
steps-long (s ∷ ss) = length-append (step_words s) (list_row step_words ss) ∙ omega (arith, step-long s, steps-long ss)

fn-long : (p : Prog) (f : Name) (g : Fn) → (5 + 6 * length (gen_fn p f g).code) ≤ w_fn costs g
fn-long p f g = omega (arith, body-long (scope p f (slots_of g)) g.body (words_of (slots_of g)), block_size (scope p f (slots_of g)) g.body)

-- the words of some functions, and those besides
abbrev all_of : List MFn → ℕ
all_of fs = length (list_row fn_words fs) + (steps_in fs + length fs)

one_more : (f : MFn) (fs : List MFn) → all_of (f ∷ fs) ≡ (5 + 6 * length f.code) + all_of fs
one_more f fs = omega (arith, length-append (fn_words f) (list_row fn_words fs), steps-long f.code)

funs-long : (p : Prog) (ts : List Top) → all_of (sorted as_fn (λ t g. gen_fn p t.file g) ts) ≤ functions costs ts
funs-long p [] = omega arith
funs-long p (t ∷ ts) = go (as_fn t) (funs-long p ts)
  where
    go : (o : Option Fn) → all_of (sorted as_fn (λ t g. gen_fn p t.file g) ts) ≤ functions costs ts → all_of (opt o (sorted as_fn (λ t g. gen_fn p t.file g) ts) (λ g. gen_fn p t.file g ∷ sorted as_fn (λ t g. gen_fn p t.file g) ts)) ≤ opt o 0 (λ g. w_fn costs g) + functions costs ts
    go none h = omega (arith, h)
    go (some g) h = omega (arith, h, one_more (gen_fn p t.file g) (sorted as_fn (λ t g. gen_fn p t.file g) ts), fn-long p t.file g)

pub steps-short : StepsShort
steps-short t p r = omega (arith, funs-long p (all_tops p 0 0), of_files costs p 0 0, words-bound 10 4 costs costs_fair t p r)
