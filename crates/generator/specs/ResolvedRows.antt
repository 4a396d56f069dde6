-- A program with its names resolved, and its row of words. A node has three words, so that the generator goes over nodes by their number.
use Rattle.std.specs.Prelude.{List, [], ◌∷◌, ◌++◌, ℕ, ◌+◌, ◌*◌, length}
use Rattle.language.specs.Syntax.{Name, Fn, Prog}
use Rattle.language.specs.Words.{bit}
use Rattle.language.specs.Meaning.{all_tops, all_words, as_fn, as_table, first_file, w_main}
use Rattle.rows.specs.Nodes.{nodes_b}
use Rattle.rows.specs.Trees.{list_row}
use Rattle.steps.specs.Steps.{Opnd, o_top, o_own, Shape}
use Rattle.steps.specs.Generate.{words_of, arrays_of, slots_from, slots_of, shapes_of, scope, sorted, fn_no, fn_nos}
use Rattle.generator.specs.Resolved.{Resolved, v_num, v_own, v_copy, v_get, v_arr, v_bin, v_un, v_and, v_or, v_join, v_idx, v_len, v_call, v_by, v_in, v_set, v_setw, v_clear, v_store, v_ex, v_out, v_if, v_else, v_fi, v_loop, v_while, v_again, v_ret, v_break, v_next, v_end, resolve_nodes}

-- an array: its number, and 1 if it is a function's own
abbrev pub number_of : Opnd → ℕ
number_of (o_top a) = a
number_of (o_own j) = j

abbrev pub side_of : Opnd → ℕ
side_of (o_top a) = 0
side_of (o_own j) = 1

abbrev pub node_words : Resolved → List ℕ
node_words (v_num n) = 0 ∷ n ∷ 0 ∷ []
node_words (v_own k) = 1 ∷ k ∷ 0 ∷ []
node_words (v_copy k) = 2 ∷ k ∷ 0 ∷ []
node_words (v_get i) = 3 ∷ i ∷ 0 ∷ []
node_words (v_arr o) = 4 ∷ number_of o ∷ side_of o ∷ []
node_words (v_bin o) = 5 ∷ o ∷ 0 ∷ []
node_words (v_un o) = 6 ∷ o ∷ 0 ∷ []
node_words v_and = 7 ∷ 0 ∷ 0 ∷ []
node_words v_or = 8 ∷ 0 ∷ 0 ∷ []
node_words v_join = 9 ∷ 0 ∷ 0 ∷ []
node_words (v_idx o) = 10 ∷ number_of o ∷ side_of o ∷ []
node_words (v_len o) = 11 ∷ number_of o ∷ side_of o ∷ []
node_words (v_call f n) = 12 ∷ f ∷ n ∷ []
node_words (v_by t n) = 13 ∷ t ∷ n ∷ []
node_words v_in = 14 ∷ 0 ∷ 0 ∷ []
node_words (v_set k) = 15 ∷ k ∷ 0 ∷ []
node_words (v_setw i) = 16 ∷ i ∷ 0 ∷ []
node_words v_clear = 17 ∷ 0 ∷ 0 ∷ []
-- 2 more for an array of words
node_words (v_store w o) = 18 ∷ number_of o ∷ (2 * bit w + side_of o) ∷ []
node_words v_ex = 19 ∷ 0 ∷ 0 ∷ []
node_words v_out = 20 ∷ 0 ∷ 0 ∷ []
node_words v_if = 21 ∷ 0 ∷ 0 ∷ []
node_words v_else = 22 ∷ 0 ∷ 0 ∷ []
node_words v_fi = 23 ∷ 0 ∷ 0 ∷ []
node_words v_loop = 24 ∷ 0 ∷ 0 ∷ []
node_words v_while = 25 ∷ 0 ∷ 0 ∷ []
node_words v_again = 26 ∷ 0 ∷ 0 ∷ []
node_words v_ret = 27 ∷ 0 ∷ 0 ∷ []
node_words v_break = 28 ∷ 0 ∷ 0 ∷ []
node_words v_next = 29 ∷ 0 ∷ 0 ∷ []
node_words v_end = 30 ∷ 0 ∷ 0 ∷ []

-- a function: its words and arrays among the parameters, its variables, its own arrays, its body
pub record Routine : Type 0 where
  pub params : ℕ
  pub arrays : ℕ
  pub vars : ℕ
  pub own : List Shape
  pub nodes : List Resolved

abbrev pub shape_words : Shape → List ℕ
shape_words z = bit z.wide ∷ z.size ∷ []

abbrev pub routine_words : Routine → List ℕ
routine_words r = r.params ∷ r.arrays ∷ r.vars ∷ length r.own ∷ length r.nodes ∷ (list_row shape_words r.own ++ list_row node_words r.nodes)

-- how many words there are at the top, the number of main, the functions and tables in their order
pub record ResolvedProg : Type 0 where
  pub words : ℕ
  pub main : ℕ
  pub routines : List Routine
  pub tables : List (List ℕ)

abbrev pub table_words : List ℕ → List ℕ
table_words hs = length hs ∷ hs

abbrev pub resolved_words : ResolvedProg → List ℕ
resolved_words r = r.words ∷ r.main ∷ length r.routines ∷ (list_row routine_words r.routines ++ (length r.tables ∷ list_row table_words r.tables))

abbrev pub resolve_fn : Prog → Name → Fn → Routine
resolve_fn p f g = record {
  params = words_of (slots_from g.params [] []);
  arrays = arrays_of (slots_from g.params [] []);
  vars = length g.vars;
  own = shapes_of g.arrs;
  nodes = resolve_nodes (scope p f (slots_of g)) (nodes_b g.body);
}

abbrev pub resolve_prog : Prog → ResolvedProg
resolve_prog p = record {
  words = all_words p;
  main = fn_no p (first_file p) w_main;
  routines = sorted as_fn (λ t g. resolve_fn p t.file g) (all_tops p 0 0);
  tables = sorted as_table (λ t fs. fn_nos p t.file fs) (all_tops p 0 0);
}
