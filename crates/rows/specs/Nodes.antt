-- A body as a row of nodes, each behind its parts. A name that is an argument by itself has a node of its own: it may be an array,
-- and a word must stand where arguments stand. Each node is a tag and what belongs to it.
use Rattle.std.specs.Prelude.{ℕ, suc, ◌/◌, ◌%◌, Bool, true, false, List, [], ◌∷◌, ◌++◌}
use Rattle.language.specs.Syntax.{pick, Name, Expr, num, var, bin, un, and1, or1, idx, len, call, by_table, input, Exprs, no, and_then, Stmt, set1, store1, ex1, out1, if1, while1, ret1, break1, next1, Block, end, seq1}
use Rattle.language.specs.Words.{all}
use Rattle.rows.specs.Has.{named}

pub data Node : Type 0 where
  n_num : ℕ → Node
  n_var : Name → Node
  n_bin : ℕ → Node
  -- between the operands of && and ||, and behind them
  n_and : Node
  n_or : Node
  n_join : Node
  n_un : ℕ → Node
  n_idx : Name → Node
  n_len : Name → Node
  -- how many arguments, and the function or table
  n_call : ℕ → Name → Node
  n_by : ℕ → Name → Node
  n_in : Node
  n_set : Name → Node
  n_store : Name → Node
  n_ex : Node
  n_out : Node
  -- behind the condition, between the parts, behind them
  n_if : Node
  n_else : Node
  n_fi : Node
  -- before the condition, behind it, behind the body
  n_loop : Node
  n_while : Node
  n_again : Node
  n_ret : Node
  n_break : Node
  n_next : Node
  n_end : Node
  n_arg : Name → Node

-- a number by its digits to the base 2 ^ 32
abbrev pub num_row : ℕ → List ℕ
num_row n = (n % all) ∷ (n / all) ∷ []

abbrev pub node_row : Node → List ℕ
node_row (n_num n) = 0 ∷ num_row n
node_row (n_var x) = 1 ∷ named x
node_row (n_bin o) = 2 ∷ o ∷ []
node_row n_and = 3 ∷ []
node_row n_or = 4 ∷ []
node_row n_join = 5 ∷ []
node_row (n_un o) = 6 ∷ o ∷ []
node_row (n_idx x) = 7 ∷ named x
node_row (n_len x) = 8 ∷ named x
node_row (n_call n x) = 9 ∷ n ∷ named x
node_row (n_by n x) = 10 ∷ n ∷ named x
node_row n_in = 11 ∷ []
node_row (n_set x) = 12 ∷ named x
node_row (n_store x) = 13 ∷ named x
node_row n_ex = 14 ∷ []
node_row n_out = 15 ∷ []
node_row n_if = 16 ∷ []
node_row n_else = 17 ∷ []
node_row n_fi = 18 ∷ []
node_row n_loop = 19 ∷ []
node_row n_while = 20 ∷ []
node_row n_again = 21 ∷ []
node_row n_ret = 22 ∷ []
node_row n_break = 23 ∷ []
node_row n_next = 24 ∷ []
node_row n_end = 25 ∷ []
node_row (n_arg x) = 26 ∷ named x

abbrev pub nodes_row : List Node → List ℕ
nodes_row [] = []
nodes_row (n ∷ ns) = node_row n ++ nodes_row ns

abbrev pub count : Exprs → ℕ
count no = 0
count (and_then e es) = suc (count es)

-- the nodes of a tree before the nodes ns; a is true of an argument
abbrev mutual
  pub nodes_e : Bool → Expr → List Node → List Node
  nodes_e a (num n) ns = n_num n ∷ ns
  nodes_e a (var x) ns = pick a (n_arg x) (n_var x) ∷ ns
  nodes_e a (bin o e f) ns = nodes_e false e (nodes_e false f (n_bin o ∷ ns))
  nodes_e a (un o e) ns = nodes_e false e (n_un o ∷ ns)
  nodes_e a (and1 e f) ns = nodes_e false e (n_and ∷ nodes_e false f (n_join ∷ ns))
  nodes_e a (or1 e f) ns = nodes_e false e (n_or ∷ nodes_e false f (n_join ∷ ns))
  nodes_e a (idx x e) ns = nodes_e false e (n_idx x ∷ ns)
  nodes_e a (len x) ns = n_len x ∷ ns
  nodes_e a (call x es) ns = nodes_es es (n_call (count es) x ∷ ns)
  nodes_e a (by_table x e es) ns = nodes_e false e (nodes_es es (n_by (count es) x ∷ ns))
  nodes_e a input ns = n_in ∷ ns

  pub nodes_es : Exprs → List Node → List Node
  nodes_es no ns = ns
  nodes_es (and_then e es) ns = nodes_e true e (nodes_es es ns)

abbrev mutual
  pub nodes_s : Stmt → List Node → List Node
  nodes_s (set1 x e) ns = nodes_e false e (n_set x ∷ ns)
  nodes_s (store1 x i e) ns = nodes_e false i (nodes_e false e (n_store x ∷ ns))
  nodes_s (ex1 e) ns = nodes_e false e (n_ex ∷ ns)
  nodes_s (out1 e) ns = nodes_e false e (n_out ∷ ns)
  nodes_s (if1 e b c) ns = nodes_e false e (n_if ∷ nodes_bs b (n_else ∷ nodes_bs c (n_fi ∷ ns)))
  nodes_s (while1 e b) ns = n_loop ∷ nodes_e false e (n_while ∷ nodes_bs b (n_again ∷ ns))
  nodes_s (ret1 e) ns = nodes_e false e (n_ret ∷ ns)
  nodes_s break1 ns = n_break ∷ ns
  nodes_s next1 ns = n_next ∷ ns

  pub nodes_bs : Block → List Node → List Node
  nodes_bs end ns = ns
  nodes_bs (seq1 s b) ns = nodes_s s (nodes_bs b ns)

-- a function's body
abbrev pub nodes_b : Block → List Node
nodes_b b = nodes_bs b (n_end ∷ [])

-- the rows of trees as the parser writes them, behind what was written
unfoldable mutual
  pub expr_row : Bool → Expr → List ℕ
  expr_row a (num n) = 0 ∷ num_row n
  expr_row a (var x) = pick a 26 1 ∷ named x
  expr_row a (bin o e f) = expr_row false e ++ (expr_row false f ++ (2 ∷ o ∷ []))
  expr_row a (un o e) = expr_row false e ++ (6 ∷ o ∷ [])
  expr_row a (and1 e f) = expr_row false e ++ (3 ∷ (expr_row false f ++ (5 ∷ [])))
  expr_row a (or1 e f) = expr_row false e ++ (4 ∷ (expr_row false f ++ (5 ∷ [])))
  expr_row a (idx x e) = expr_row false e ++ (7 ∷ named x)
  expr_row a (len x) = 8 ∷ named x
  expr_row a (call x es) = args_row es ++ (9 ∷ count es ∷ named x)
  expr_row a (by_table x e es) = expr_row false e ++ (args_row es ++ (10 ∷ count es ∷ named x))
  expr_row a input = 11 ∷ []

  pub args_row : Exprs → List ℕ
  args_row no = []
  args_row (and_then e es) = expr_row true e ++ args_row es

unfoldable mutual
  pub stmt_row : Stmt → List ℕ
  stmt_row (set1 x e) = expr_row false e ++ (12 ∷ named x)
  stmt_row (store1 x i e) = expr_row false i ++ (expr_row false e ++ (13 ∷ named x))
  stmt_row (ex1 e) = expr_row false e ++ (14 ∷ [])
  stmt_row (out1 e) = expr_row false e ++ (15 ∷ [])
  stmt_row (if1 e b c) = expr_row false e ++ (16 ∷ (block_row b ++ (17 ∷ (block_row c ++ (18 ∷ [])))))
  stmt_row (while1 e b) = 19 ∷ (expr_row false e ++ (20 ∷ (block_row b ++ (21 ∷ []))))
  stmt_row (ret1 e) = expr_row false e ++ (22 ∷ [])
  stmt_row break1 = 23 ∷ []
  stmt_row next1 = 24 ∷ []

  pub block_row : Block → List ℕ
  block_row end = []
  block_row (seq1 s b) = stmt_row s ++ block_row b

abbrev pub body_row : Block → List ℕ
body_row b = block_row b ++ (25 ∷ [])
