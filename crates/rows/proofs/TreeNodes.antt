-- The row of a tree is the row of its nodes.
use Rattle.std.proofs.Common.{◌≡◌, ℕ, Bool, true, false, List, [], ◌∷◌, ◌++◌, sym, refl, ap, ◌∙◌, append_assoc}
use Rattle.language.specs.Syntax.{Expr, num, var, bin, un, and1, or1, idx, len, call, by_table, input, Exprs, no, and_then, Stmt, set1, store1, ex1, out1, if1, while1, ret1, break1, next1, Block, end, seq1}
use Rattle.rows.specs.Nodes.{Node, n_bin, n_and, n_or, n_join, n_un, n_idx, n_call, n_by, n_set, n_store, n_ex, n_out, n_if, n_else, n_fi, n_while, n_again, n_ret, n_end, count, nodes_row, nodes_e, nodes_es, nodes_s, nodes_bs, expr_row, args_row, stmt_row, block_row}
use Rattle.rows.specs.Trees.{BodiesNodes}

-- behind the row r stands l, which is another row
behind : (r : List ℕ) {l m : List ℕ} → l ≡ m → r ++ l ≡ r ++ m
behind r e = ap (λ l. r ++ l) e

mutual
  unfolding expr_row args_row

  nodes-e : (a : Bool) (e : Expr) (ns : List Node) → nodes_row (nodes_e a e ns) ≡ expr_row a e ++ nodes_row ns
  nodes-e a (num n) ns = refl
  nodes-e true (var x) ns = refl
  nodes-e false (var x) ns = refl
  nodes-e a (bin o e f) ns = nodes-e false e (nodes_e false f (n_bin o ∷ ns)) ∙ behind (expr_row false e) (nodes-e false f (n_bin o ∷ ns)) ∙ simp append_assoc refl
  nodes-e a (un o e) ns = nodes-e false e (n_un o ∷ ns) ∙ simp append_assoc refl
  nodes-e a (and1 e f) ns = nodes-e false e (n_and ∷ nodes_e false f (n_join ∷ ns)) ∙ behind (expr_row false e) (behind (3 ∷ []) (nodes-e false f (n_join ∷ ns))) ∙ simp append_assoc refl
  nodes-e a (or1 e f) ns = nodes-e false e (n_or ∷ nodes_e false f (n_join ∷ ns)) ∙ behind (expr_row false e) (behind (4 ∷ []) (nodes-e false f (n_join ∷ ns))) ∙ simp append_assoc refl
  nodes-e a (idx x e) ns = nodes-e false e (n_idx x ∷ ns) ∙ simp append_assoc refl
  nodes-e a (len x) ns = refl
  nodes-e a (call x es) ns = nodes-es es (n_call (count es) x ∷ ns) ∙ simp append_assoc refl
  nodes-e a (by_table x e es) ns = nodes-e false e (nodes_es es (n_by (count es) x ∷ ns)) ∙ behind (expr_row false e) (nodes-es es (n_by (count es) x ∷ ns)) ∙ simp append_assoc refl
  nodes-e a input ns = refl

  nodes-es : (es : Exprs) (ns : List Node) → nodes_row (nodes_es es ns) ≡ args_row es ++ nodes_row ns
  nodes-es no ns = refl
  nodes-es (and_then e es) ns = nodes-e true e (nodes_es es ns) ∙ behind (expr_row true e) (nodes-es es ns) ∙ simp append_assoc refl

mutual
  unfolding stmt_row block_row

  nodes-s : (s : Stmt) (ns : List Node) → nodes_row (nodes_s s ns) ≡ stmt_row s ++ nodes_row ns
  nodes-s (set1 x e) ns = nodes-e false e (n_set x ∷ ns) ∙ simp append_assoc refl
  nodes-s (store1 x i e) ns = nodes-e false i (nodes_e false e (n_store x ∷ ns)) ∙ behind (expr_row false i) (nodes-e false e (n_store x ∷ ns)) ∙ simp append_assoc refl
  nodes-s (ex1 e) ns = nodes-e false e (n_ex ∷ ns) ∙ simp append_assoc refl
  nodes-s (out1 e) ns = nodes-e false e (n_out ∷ ns) ∙ simp append_assoc refl
  nodes-s (if1 e b c) ns = nodes-e false e (n_if ∷ nodes_bs b (n_else ∷ nodes_bs c (n_fi ∷ ns))) ∙ behind (expr_row false e) (behind (16 ∷ []) (nodes-bs b (n_else ∷ nodes_bs c (n_fi ∷ ns)) ∙ behind (block_row b) (behind (17 ∷ []) (nodes-bs c (n_fi ∷ ns))))) ∙ simp append_assoc refl
  nodes-s (while1 e b) ns = behind (19 ∷ []) (nodes-e false e (n_while ∷ nodes_bs b (n_again ∷ ns)) ∙ behind (expr_row false e) (behind (20 ∷ []) (nodes-bs b (n_again ∷ ns)))) ∙ simp append_assoc refl
  nodes-s (ret1 e) ns = nodes-e false e (n_ret ∷ ns) ∙ simp append_assoc refl
  nodes-s break1 ns = refl
  nodes-s next1 ns = refl

  nodes-bs : (b : Block) (ns : List Node) → nodes_row (nodes_bs b ns) ≡ block_row b ++ nodes_row ns
  nodes-bs end ns = refl
  nodes-bs (seq1 s b) ns = nodes-s s (nodes_bs b ns) ∙ behind (stmt_row s) (nodes-bs b ns) ∙ simp append_assoc refl

pub bodies-nodes : BodiesNodes
bodies-nodes g = sym (nodes-bs g.body (n_end ∷ []))
