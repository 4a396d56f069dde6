-- The stage of a program by its row: of a node by its tag, of a function's names by their kinds.
use Rattle.std.specs.Prelude.{ℕ, max, List, [], ◌∷◌}
use Rattle.language.specs.Syntax.{stage_k, stage_ps, stage_as, stage_b, Fn}
use Rattle.rows.specs.Nodes.{Node, n_num, n_var, n_bin, n_and, n_or, n_join, n_un, n_idx, n_len, n_call, n_by, n_in, n_set, n_store, n_ex, n_out, n_if, n_else, n_fi, n_loop, n_while, n_again, n_ret, n_break, n_next, n_end, n_arg}
use Rattle.rows.specs.Trees.{Local}

-- a[i], in() and a[i] = e; are of stage 1, len(a) is of stage 2, a call by a table of stage 6
abbrev pub node_stage : Node → ℕ
node_stage (n_num n) = 0
node_stage (n_var x) = 0
node_stage (n_bin o) = 0
node_stage n_and = 0
node_stage n_or = 0
node_stage n_join = 0
node_stage (n_un o) = 0
node_stage (n_idx x) = 1
node_stage (n_len x) = 2
node_stage (n_call n x) = 0
node_stage (n_by n x) = 6
node_stage n_in = 1
node_stage (n_set x) = 0
node_stage (n_store x) = 1
node_stage n_ex = 0
node_stage n_out = 0
node_stage n_if = 0
node_stage n_else = 0
node_stage n_fi = 0
node_stage n_loop = 0
node_stage n_while = 0
node_stage n_again = 0
node_stage n_ret = 0
node_stage n_break = 0
node_stage n_next = 0
node_stage n_end = 0
node_stage (n_arg x) = 0

abbrev pub nodes_stage : List Node → ℕ
nodes_stage [] = 0
nodes_stage (t ∷ ts) = max (node_stage t) (nodes_stage ts)

abbrev pub locals_stage : List Local → ℕ
locals_stage [] = 0
locals_stage (l ∷ ls) = max (stage_k l.kind) (locals_stage ls)

abbrev pub fn_stage : Fn → ℕ
fn_stage g = max (stage_ps g.params) (max (stage_as g.arrs) (stage_b g.body))
