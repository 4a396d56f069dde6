-- How long the row of a resolved program is, by its tree, and with the grammar's count of words for each byte by its text.
use mathlib.Core.Path.{◌≡◌, refl, ap, ◌∙◌}
use mathlib.Core.Bool.{Bool, true, false}
use mathlib.Core.List.{List, [], ◌∷◌}
use mathlib.Core.Option.{Option, some, none}
use Prim.Native.Nat.{suc, ◌+◌, ◌*◌, ◌≤◌}
use native.Mathlib.Omega.{arith}
use lib.ListN.{length, length-append}
use Rattle.language.specs.Syntax.{opt, Name, Expr, num, var, bin, un, and1, or1, idx, len, call, by_table, input, Exprs, no, and_then, Stmt, set1, store1, ex1, out1, if1, while1, ret1, break1, next1, Block, end, seq1, Arr, Fn, Prog}
use Rattle.language.specs.Meaning.{Top, all_tops, as_fn, as_table}
use Rattle.grammar.specs.Bounds.{Costs, Fair, each, w_e, w_es, w_s, w_b, w_fn}
use Rattle.grammar.proofs.Size.{words-bound}
use Rattle.rows.specs.Nodes.{Node, n_bin, n_and, n_or, n_join, n_un, n_idx, n_call, n_by, n_set, n_store, n_ex, n_out, n_if, n_else, n_fi, n_while, n_again, n_ret, n_end, nodes_e, nodes_es, nodes_s, nodes_bs, nodes_b, count}
use Rattle.rows.specs.Trees.{list_row}
use Rattle.steps.specs.Generate.{Scope, scope, slots_of, shapes_of, sorted, fn_nos}
use Rattle.generator.specs.Resolved.{Resolved, v_num, v_own, v_copy, v_get, v_arr, v_bin, v_un, v_and, v_or, v_join, v_idx, v_len, v_call, v_by, v_in, v_set, v_setw, v_clear, v_store, v_ex, v_out, v_if, v_else, v_fi, v_loop, v_while, v_again, v_ret, v_break, v_next, v_end, resolve_nodes}
use Rattle.generator.specs.ResolvedRows.{node_words, shape_words, routine_words, table_words, resolve_fn, resolve_prog}
use Rattle.bounds.specs.Bounds.{ResolvedShort}
use Rattle.bounds.proofs.Totals.{functions, tables, of_files}

-- three words a node; five words and the last node of a function, two words for each array of its own; a word for each table and each entry
abbrev costs : Costs
costs = record { c_num = 3; c_var = 3; c_bin = 3; c_un = 3; c_and = 6; c_or = 6; c_idx = 3; c_len = 3; c_call = 3; c_table = 3; c_arg = 0; c_input = 3; c_set = 3; c_store = 3; c_ex = 3; c_out = 3; c_if = 9; c_while = 9; c_ret = 3; c_break = 3; c_next = 3; c_fn = 8; c_param = 0; c_local = 0; c_own = 2; c_word = 0; c_arr = 0; c_data = 0; c_value = 0; c_byte = 0; c_tab = 1; c_entry = 1; c_use = 0; c_file = 0 }

costs_fair : Fair 3 0 costs
costs_fair = omega arith

-- nodes before the nodes ns
mutual
  expr_nodes : (a : Bool) (e : Expr) (ns : List Node) → 3 * length (nodes_e a e ns) ≤ w_e costs e + 3 * length ns
  expr_nodes a (num n) ns = omega arith
  expr_nodes a (var x) ns = omega arith
  expr_nodes a (bin o e f) ns = omega (arith, expr_nodes false e (nodes_e false f (n_bin o ∷ ns)), expr_nodes false f (n_bin o ∷ ns))
  expr_nodes a (un o e) ns = omega (arith, expr_nodes false e (n_un o ∷ ns))
  expr_nodes a (and1 e f) ns = omega (arith, expr_nodes false e (n_and ∷ nodes_e false f (n_join ∷ ns)), expr_nodes false f (n_join ∷ ns))
  expr_nodes a (or1 e f) ns = omega (arith, expr_nodes false e (n_or ∷ nodes_e false f (n_join ∷ ns)), expr_nodes false f (n_join ∷ ns))
  expr_nodes a (idx x e) ns = omega (arith, expr_nodes false e (n_idx x ∷ ns))
  expr_nodes a (len x) ns = omega arith
  expr_nodes a (call x es) ns = omega (arith, args_nodes es (n_call (count es) x ∷ ns))
  expr_nodes a (by_table x e es) ns = omega (arith, expr_nodes false e (nodes_es es (n_by (count es) x ∷ ns)), args_nodes es (n_by (count es) x ∷ ns))
  expr_nodes a input ns = omega arith

  args_nodes : (es : Exprs) (ns : List Node) → 3 * length (nodes_es es ns) ≤ w_es costs es + 3 * length ns
  args_nodes no ns = omega arith
  args_nodes (and_then e es) ns = omega (arith, expr_nodes true e (nodes_es es ns), args_nodes es ns)

mutual
  stmt_nodes : (s : Stmt) (ns : List Node) → 3 * length (nodes_s s ns) ≤ w_s costs s + 3 * length ns
  stmt_nodes (set1 x e) ns = omega (arith, expr_nodes false e (n_set x ∷ ns))
  stmt_nodes (store1 x i e) ns = omega (arith, expr_nodes false i (nodes_e false e (n_store x ∷ ns)), expr_nodes false e (n_store x ∷ ns))
  stmt_nodes (ex1 e) ns = omega (arith, expr_nodes false e (n_ex ∷ ns))
  stmt_nodes (out1 e) ns = omega (arith, expr_nodes false e (n_out ∷ ns))
  stmt_nodes (if1 e b c) ns = omega (arith, expr_nodes false e (n_if ∷ nodes_bs b (n_else ∷ nodes_bs c (n_fi ∷ ns))), block_nodes b (n_else ∷ nodes_bs c (n_fi ∷ ns)), block_nodes c (n_fi ∷ ns))
  stmt_nodes (while1 e b) ns = omega (arith, expr_nodes false e (n_while ∷ nodes_bs b (n_again ∷ ns)), block_nodes b (n_again ∷ ns))
  stmt_nodes (ret1 e) ns = omega (arith, expr_nodes false e (n_ret ∷ ns))
  stmt_nodes break1 ns = omega arith
  stmt_nodes next1 ns = omega arith

  block_nodes : (b : Block) (ns : List Node) → 3 * length (nodes_bs b ns) ≤ w_b costs b + 3 * length ns
  block_nodes end ns = omega arith
  block_nodes (seq1 s b) ns = omega (arith, stmt_nodes s (nodes_bs b ns), block_nodes b ns)

resolved-count : (Γ : Scope) (ns : List Node) → length (resolve_nodes Γ ns) ≡ length ns
resolved-count Γ [] = refl
resolved-count Γ (n ∷ ns) = ap suc (resolved-count Γ ns)

node-long : (v : Resolved) → length (node_words v) ≡ 3
node-long (v_num n) = refl
node-long (v_own k) = refl
node-long (v_copy k) = refl
node-long (v_get i) = refl
node-long (v_arr o) = refl
node-long (v_bin o) = refl
node-long (v_un o) = refl
node-long v_and = refl
node-long v_or = refl
node-long v_join = refl
node-long (v_idx o) = refl
node-long (v_len o) = refl
node-long (v_call f n) = refl
node-long (v_by t n) = refl
node-long v_in = refl
node-long (v_set k) = refl
node-long (v_setw i) = refl
node-long v_clear = refl
node-long (v_store w o) = refl
node-long v_ex = refl
node-long v_out = refl
node-long v_if = refl
node-long v_else = refl
node-long v_fi = refl
node-long v_loop = refl
node-long v_while = refl
node-long v_again = refl
node-long v_ret = refl
node-long v_break = refl
node-long v_next = refl
node-long v_end = refl

pub nodes-long : (vs : List Resolved) → length (list_row node_words vs) ≡ 3 * length vs
nodes-long [] = refl
nodes-long (v ∷ vs) = length-append (node_words v) (list_row node_words vs) ∙ omega (arith, node-long v, nodes-long vs)

shapes-long : (as₁ : List Arr) → length (list_row shape_words (shapes_of as₁)) ≡ each 2 as₁
shapes-long [] = refl
shapes-long (a ∷ as₁) = ap (λ n. suc (suc n)) (shapes-long as₁) ∙ omega arith

fn-long : (p : Prog) (f : Name) (g : Fn) → length (routine_words (resolve_fn p f g)) ≤ w_fn costs g
fn-long p f g =
    let Γ : Scope = scope p f (slots_of g) in
    let vs : List Resolved = resolve_nodes Γ (nodes_b g.body) in
    omega (arith, length-append (list_row shape_words (shapes_of g.arrs)) (list_row node_words vs), shapes-long g.arrs, nodes-long vs, resolved-count Γ (nodes_b g.body), block_nodes g.body (n_end ∷ []))

functions-long : (p : Prog) (ts : List Top) → length (list_row routine_words (sorted as_fn (λ t g. resolve_fn p t.file g) ts)) ≤ functions costs ts
functions-long p [] = omega arith
functions-long p (t ∷ ts) = go (as_fn t) (functions-long p ts)
  where
    go : (o : Option Fn) → length (list_row routine_words (sorted as_fn (λ t g. resolve_fn p t.file g) ts)) ≤ functions costs ts → length (list_row routine_words (opt o (sorted as_fn (λ t g. resolve_fn p t.file g) ts) (λ g. resolve_fn p t.file g ∷ sorted as_fn (λ t g. resolve_fn p t.file g) ts))) ≤ opt o 0 (λ g. w_fn costs g) + functions costs ts
    go none h = omega (arith, h)
    go (some g) h = omega (arith, h, length-append (routine_words (resolve_fn p t.file g)) (list_row routine_words (sorted as_fn (λ t g. resolve_fn p t.file g) ts)), fn-long p t.file g)

entries-long : (p : Prog) (f : Name) (xs : List Name) → length (fn_nos p f xs) ≡ each 1 xs
entries-long p f [] = refl
entries-long p f (x ∷ xs) = ap suc (entries-long p f xs) ∙ omega arith

tables-long : (p : Prog) (ts : List Top) → length (list_row table_words (sorted as_table (λ t fs. fn_nos p t.file fs) ts)) ≤ tables costs ts
tables-long p [] = omega arith
tables-long p (t ∷ ts) = go (as_table t) (tables-long p ts)
  where
    go : (o : Option (List Name)) → length (list_row table_words (sorted as_table (λ t fs. fn_nos p t.file fs) ts)) ≤ tables costs ts → length (list_row table_words (opt o (sorted as_table (λ t fs. fn_nos p t.file fs) ts) (λ fs. fn_nos p t.file fs ∷ sorted as_table (λ t fs. fn_nos p t.file fs) ts))) ≤ opt o 0 (λ fs. each 1 fs + 1) + tables costs ts
    go none h = omega (arith, h)
    go (some fs) h = omega (arith, h, length-append (fn_nos p t.file fs) (list_row table_words (sorted as_table (λ t fs. fn_nos p t.file fs) ts)), entries-long p t.file fs)

pub resolved-short : ResolvedShort
resolved-short t p r =
    let ts : List Top = all_tops p 0 0 in
    omega (arith, length-append (list_row routine_words (resolve_prog p).routines) (length (resolve_prog p).tables ∷ list_row table_words (resolve_prog p).tables), functions-long p ts, tables-long p ts, of_files costs p 0 0, words-bound 3 0 costs costs_fair t p r)
