-- The stage of a body is that of its nodes, and the stage of a function's names that of its parameters and arrays.
use Rattle.std.proofs.Common.{◌≡◌, ◌<◌, ◌≤◌, max, Bool, true, false, List, [], ◌∷◌, ◌++◌, length, refl, ap₂, arith}
use Rattle.language.specs.Syntax.{pick, Name, Expr, num, var, bin, un, and1, or1, idx, len, call, by_table, input, Exprs, no, and_then, Stmt, set1, store1, ex1, out1, if1, while1, ret1, break1, next1, Block, end, seq1, k_arr, Param, Arr, Fn, Prog, stage_e, stage_es, stage_s, stage_b, stage_k, stage_ps, stage_as, stage_fs, stage}
use Rattle.rows.specs.Nodes.{Node, n_bin, n_and, n_or, n_join, n_un, n_idx, n_call, n_by, n_set, n_store, n_ex, n_out, n_if, n_else, n_fi, n_while, n_again, n_ret, n_end, count, nodes_e, nodes_es, nodes_s, nodes_bs, nodes_b}
use Rattle.rows.specs.Trees.{Local, map_list, of_param, of_var, of_array, locals}
use Rattle.limits.specs.Stages.{nodes_stage, locals_stage}

mutual
  stage-e : (a : Bool) (e : Expr) (ts : List Node) → nodes_stage (nodes_e a e ts) ≡ max (stage_e e) (nodes_stage ts)
  stage-e a (num n) ts = refl
  stage-e true (var x) ts = refl
  stage-e false (var x) ts = refl
  stage-e a (bin o e f) ts = omega (arith, stage-e false e (nodes_e false f (n_bin o ∷ ts)), stage-e false f (n_bin o ∷ ts))
  stage-e a (un o e) ts = omega (arith, stage-e false e (n_un o ∷ ts))
  stage-e a (and1 e f) ts = omega (arith, stage-e false e (n_and ∷ nodes_e false f (n_join ∷ ts)), stage-e false f (n_join ∷ ts))
  stage-e a (or1 e f) ts = omega (arith, stage-e false e (n_or ∷ nodes_e false f (n_join ∷ ts)), stage-e false f (n_join ∷ ts))
  stage-e a (idx x e) ts = omega (arith, stage-e false e (n_idx x ∷ ts))
  stage-e a (len x) ts = refl
  stage-e a (call x es) ts = omega (arith, stage-es es (n_call (count es) x ∷ ts))
  stage-e a (by_table x e es) ts = omega (arith, stage-e false e (nodes_es es (n_by (count es) x ∷ ts)), stage-es es (n_by (count es) x ∷ ts))
  stage-e a input ts = refl

  stage-es : (es : Exprs) (ts : List Node) → nodes_stage (nodes_es es ts) ≡ max (stage_es es) (nodes_stage ts)
  stage-es no ts = omega arith
  stage-es (and_then e es) ts = omega (arith, stage-e true e (nodes_es es ts), stage-es es ts)

mutual
  stage-s : (s : Stmt) (ts : List Node) → nodes_stage (nodes_s s ts) ≡ max (stage_s s) (nodes_stage ts)
  stage-s (set1 x e) ts = omega (arith, stage-e false e (n_set x ∷ ts))
  stage-s (store1 x i e) ts = omega (arith, stage-e false i (nodes_e false e (n_store x ∷ ts)), stage-e false e (n_store x ∷ ts))
  stage-s (ex1 e) ts = omega (arith, stage-e false e (n_ex ∷ ts))
  stage-s (out1 e) ts = omega (arith, stage-e false e (n_out ∷ ts))
  stage-s (if1 e b c) ts = omega (arith, stage-e false e (n_if ∷ nodes_bs b (n_else ∷ nodes_bs c (n_fi ∷ ts))), stage_bs b (n_else ∷ nodes_bs c (n_fi ∷ ts)), stage_bs c (n_fi ∷ ts))
  stage-s (while1 e b) ts = omega (arith, stage-e false e (n_while ∷ nodes_bs b (n_again ∷ ts)), stage_bs b (n_again ∷ ts))
  stage-s (ret1 e) ts = omega (arith, stage-e false e (n_ret ∷ ts))
  stage-s break1 ts = refl
  stage-s next1 ts = refl

  stage_bs : (b : Block) (ts : List Node) → nodes_stage (nodes_bs b ts) ≡ max (stage_b b) (nodes_stage ts)
  stage_bs end ts = omega arith
  stage_bs (seq1 s b) ts = omega (arith, stage-s s (nodes_bs b ts), stage_bs b ts)

pub stage_body : (b : Block) → nodes_stage (nodes_b b) ≡ stage_b b
stage_body b = omega (arith, stage_bs b (n_end ∷ []))

stage-arrays : (as₁ : List Arr) → locals_stage (map_list of_array as₁) ≡ stage_as as₁
stage-arrays [] = refl
stage-arrays (a ∷ as₁) = ap₂ max (one a.wide) (stage-arrays as₁)
  where
    one : (b : Bool) → stage_k (k_arr b) ≡ pick b 2 5
    one true = refl
    one false = refl

stage-vars : (xs : List Name) (ls : List Local) → locals_stage (map_list of_var xs ++ ls) ≡ locals_stage ls
stage-vars [] ls = refl
stage-vars (x ∷ xs) ls = omega (arith, stage-vars xs ls)

stage-params : (qs : List Param) (ls : List Local) → locals_stage (map_list of_param qs ++ ls) ≡ max (stage_ps qs) (locals_stage ls)
stage-params [] ls = omega arith
stage-params (q ∷ qs) ls = omega (arith, stage-params qs ls)

pub stage-locals : (g : Fn) → locals_stage (locals g) ≡ max (stage_ps g.params) (stage_as g.arrs)
stage-locals g =
    let vs = map_list of_array g.arrs in
    omega (arith, stage-params g.params (map_list of_var g.vars ++ vs), stage-vars g.vars vs, stage-arrays g.arrs)

pub stage-one : (p : Prog) → length p ≤ 1 → stage p ≡ stage_fs p
stage-one [] l = refl
stage-one (f ∷ []) l = omega arith
stage-one (f ∷ g ∷ fs) l = absurd (omega arith)

pub stage-more : (p : Prog) → 1 < length p → stage p ≡ max (stage_fs p) 3
stage-more [] l = absurd (omega arith)
stage-more (f ∷ []) l = absurd (omega arith)
stage-more (f ∷ g ∷ fs) l = omega arith
