-- The step of bodies calls itself on fewer pieces, so that it has an equation by Unrolling.
use mathlib.Core.Path.{◌≡◌, refl, ap}
use mathlib.Core.List.{List, [], ◌∷◌}
use native.Mathlib.Omega.{arith}
use native.Mathlib.Nat.{le_refl}
use lib.ListN.{length}
use Rattle.language.specs.Syntax.{pick, Name, same, Expr, idx, Stmt, set1, store1, ex1, out1, if1, while1, ret1, Block, end, seq1}
use Rattle.grammar.specs.Text.{t_lb, t_rb, t_lc, t_rc, t_semi, t_gets, k_else}
use Rattle.grammar.specs.Parse.{Res, got, bind, reader}
use Rattle.grammar.specs.ParseAll.{expr, ex_semi, Lead, l_out, l_if, l_while, l_return, l_break, l_next, l_name, l_other, lead, store_or, name_st, block, else_of, st_by, stmt, body_step}
use Rattle.grammar.proofs.ExprSound.{Post, none_p, got_p, post-bind, post-pick, post-eat}
use Rattle.grammar.proofs.ExprFuel.{Fewer, NoMore, weaken, climb_l, reader-l, bind-same, bind_agree, pick_agree, eat_agree}
use Rattle.grammar.proofs.Unrolling.{Less, SameBelow, Well}

pub expr-l : (s : List Name) → Post (Fewer s) (expr s)
expr-l s = climb_l reader reader-l 0 s

pub ex_semi-l : (c : Expr → Stmt) (s : List Name) → Post (Fewer s) (ex_semi c s)
ex_semi-l c s = post-bind _ (expr-l s) (λ e r h. post-eat t_semi r _ (λ r' q. got_p (omega (arith, ap length q))))

store_or-l : (x : Name) (i : Expr) (s : List Name) → Post (Fewer s) (store_or x i s)
store_or-l x i [] = none_p
store_or-l x i (w ∷ s) =
    post-pick (same w t_gets)
    (λ y. weaken (ex_semi-l (store1 x i) s) (λ a r h. omega arith))
    (λ y. post-bind _ (reader-l.chain_l 0 (idx x i) (w ∷ s)) (λ e r h. post-eat t_semi r _ (λ r' q. got_p (omega (arith, ap length q)))))

name_st-l : (x : Name) (s : List Name) → Post (Fewer (x ∷ s)) (name_st x s)
name_st-l x [] = none_p
name_st-l x (w ∷ s) =
    post-pick (same w t_gets)
    (λ y. weaken (ex_semi-l (set1 x) s) (λ a r h. omega arith))
    (λ y. post-pick (same w t_lb)
    (λ z. post-bind _ (expr-l s) (λ i r h. post-eat t_rb r _ (λ r₁ q. weaken (store_or-l x i r₁) (λ a r₂ k. omega (arith, ap length q)))))
    (λ z. ex_semi-l ex1 (x ∷ w ∷ s)))

module _ (G : List Name → Res Block) (L : Less G) where
  block_l : (s : List Name) → Post (Fewer s) (block G s)
  block_l s = post-eat t_lc s _ (λ r q. weaken (L r) (λ b r' h. omega (arith, ap length q)))

  else_of_l : (e : Expr) (b : Block) (s : List Name) → Post (NoMore s) (else_of G e b s)
  else_of_l e b [] = got_p (le_refl _)
  else_of_l e b (w ∷ s) = post-pick (same w k_else) (λ y. post-bind _ (block_l s) (λ c r h. got_p (omega arith))) (λ y. got_p (le_refl _))

  st_by_l : (l : Lead) (w : Name) (s : List Name) → Post (Fewer (w ∷ s)) (st_by G l w s)
  st_by_l l_out w s = weaken (ex_semi-l out1 s) (λ a r h. omega arith)
  st_by_l l_if w s = post-bind _ (expr-l s) (λ e r h. post-bind _ (block_l r) (λ b r₁ k. weaken (else_of_l e b r₁) (λ a r₂ g. omega arith)))
  st_by_l l_while w s = post-bind _ (expr-l s) (λ e r h. post-bind _ (block_l r) (λ b r₁ k. got_p (omega arith)))
  st_by_l l_return w s = weaken (ex_semi-l ret1 s) (λ a r h. omega arith)
  st_by_l l_break w s = post-eat t_semi s _ (λ r q. got_p (omega (arith, ap length q)))
  st_by_l l_next w s = post-eat t_semi s _ (λ r q. got_p (omega (arith, ap length q)))
  st_by_l l_name w s = name_st-l w s
  st_by_l l_other w s = ex_semi-l ex1 (w ∷ s)

  pub stmt_l : (s : List Name) → Post (Fewer s) (stmt G s)
  stmt_l [] = none_p
  stmt_l (w ∷ s) = st_by_l (lead w) w s

  body_step_l : Less (body_step G)
  body_step_l [] = none_p
  body_step_l (w ∷ s) = post-pick (same w t_rc) (λ y. got_p (omega arith)) (λ y. post-bind _ (stmt_l (w ∷ s)) (λ a r h. post-bind _ (L r) (λ b r' k. got_p (omega arith))))

module _ (G H : List Name → Res Block) (L : Less G) where
  block_a : (s : List Name) → SameBelow G H s → block G s ≡ block H s
  block_a s h = eat_agree t_lc s G H h

  else_of_a : (e : Expr) (b : Block) (s : List Name) → SameBelow G H s → else_of G e b s ≡ else_of H e b s
  else_of_a e b [] h = refl
  else_of_a e b (w ∷ s) h = pick_agree (same w k_else) _ (λ y. ap (λ x. bind x (λ c r. got (if1 e b c) r)) (block_a s (λ t k. h t (omega arith))))

  st_by_a : (l : Lead) (w : Name) (s : List Name) → SameBelow G H (w ∷ s) → st_by G l w s ≡ st_by H l w s
  st_by_a l_out w s h = refl
  st_by_a l_if w s h =
      bind-same _ _ (expr-l s) (λ e r k. bind_agree _ _ (block_a r (λ t g. h t (omega arith))) (block_l G L r) (λ b r₁ g. else_of_a e b r₁ (λ t f. h t (omega arith))))
  st_by_a l_while w s h = bind-same _ _ (expr-l s) (λ e r k. ap (λ x. bind x (λ b r₁. got (while1 e b) r₁)) (block_a r (λ t g. h t (omega arith))))
  st_by_a l_return w s h = refl
  st_by_a l_break w s h = refl
  st_by_a l_next w s h = refl
  st_by_a l_name w s h = refl
  st_by_a l_other w s h = refl

  body_step_a : (s : List Name) → SameBelow G H s → body_step G s ≡ body_step H s
  body_step_a [] h = refl
  body_step_a (w ∷ s) h =
      ap (λ x. pick (same w t_rc) (got end s) x)
      (bind_agree _ _ (st_by_a (lead w) w s h) (stmt_l G L (w ∷ s)) (λ a r k. ap (λ x. bind x (λ b r'. got (seq1 a b) r')) (h r k)))

pub body_well : Well body_step
body_well = record { less = body_step_l; only = body_step_a }
