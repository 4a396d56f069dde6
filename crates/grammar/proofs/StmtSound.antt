-- What the parser takes for statements are statements by the relation. Rests on ExprSound.
use mathlib.Core.Path.{◌≡◌, refl, sym, ◌∙◌, ap}
use mathlib.Core.List.{List, [], ◌∷◌, ◌++◌, append_assoc}
use Prim.Native.Nat.{zero-le}
use native.Mathlib.Nat.{le_refl}
use lib.Dec.{T, lit<, lit≤}
use Rattle.language.specs.Syntax.{Name, same, Expr, idx, Stmt, set1, ex1, out1, ret1, Block}
use Rattle.grammar.specs.Text.{k_if, k_else, k_while, k_return, k_break, k_continue, k_out, t_lb, t_rb, t_lc, t_rc, t_semi, t_gets, is_name, IsExpr, looser, index_e, IsStmt, set_s, store_s, ex_s, out_s, if_s, ifelse_s, while_s, return_s, break_s, continue_s, IsBlock, end_s, more_s}
use Rattle.grammar.specs.Parse.{Res, find, reader}
use Rattle.grammar.specs.ParseAll.{expr, ex_semi, Lead, l_out, l_if, l_while, l_return, l_break, l_next, l_name, l_other, leads, lead, store_or, name_st, block, else_of, st_by, body_step, body}
use Rattle.grammar.proofs.PieceKinds.{same-eq, pick-means, find-means}
use Rattle.grammar.proofs.ExprSound.{Post, none_p, got_p, post-bind, post-pick, post-eat, Ends, ends_8, Took, closed, climb_sound, reader-sound}
use Rattle.grammar.proofs.ExprFuel.{weaken}
use Rattle.grammar.proofs.Unrolling.{again_by}

abbrev pub LeadMeans : Lead → Name → Type 0
LeadMeans l_out w = w ≡ k_out
LeadMeans l_if w = w ≡ k_if
LeadMeans l_while w = w ≡ k_while
LeadMeans l_return w = w ≡ k_return
LeadMeans l_break w = w ≡ k_break
LeadMeans l_next w = w ≡ k_continue
LeadMeans l_name w = T (is_name w)
LeadMeans l_other w = Unit {0}

pub lead-means : (w : Name) → LeadMeans (lead w) w
unfolding lead
lead-means w = pick-means LeadMeans (is_name w) l_name (find l_other leads w) w (λ t. t) (λ t. find-means LeadMeans l_other leads w tt (refl, (refl, (refl, (refl, (refl, (refl, tt)))))))

pub record TookS (s : List Name) (a : Stmt) (r : List Name) : Type 0 where
  pub used : List Name
  pub all : s ≡ used ++ r
  pub is : IsStmt used a

pub record TookB (s : List Name) (b : Block) (r : List Name) : Type 0 where
  pub used : List Name
  pub all : s ≡ used ++ (t_rc ∷ r)
  pub is : IsBlock used b

expr-s : (s : List Name) → Post (λ e r. Took 0 s e r × Ends 0 r) (expr s)
expr-s s = climb_sound reader reader-sound 0 s zero-le

semi-s : (pre : List Name) (c : Expr → Stmt) (s : List Name) → ((u : List Name) (e : Expr) → IsExpr 0 u e → IsStmt (pre ++ (u ++ (t_semi ∷ []))) (c e)) → Post (TookS (pre ++ s)) (ex_semi c s)
semi-s pre c s f =
    post-bind _ (expr-s s) (λ e r k. post-eat t_semi r _ (λ r' q.
    got_p (record { used = pre ++ (k.0.used ++ (t_semi ∷ [])); all = rw (k.0.all, q) (simp append_assoc); is = f k.0.used e k.0.is })))

store_or-s : (x : Name) (i : Expr) (u s : List Name) → T (is_name x) → IsExpr 0 u i → Post (TookS (x ∷ t_lb ∷ (u ++ (t_rb ∷ s)))) (store_or x i s)
store_or-s x i u [] h y = none_p
store_or-s x i u (w ∷ s) h y =
    post-pick (same w t_gets)
    (λ z. post-bind _ (expr-s s) (λ e r k. post-eat t_semi r _ (λ r' q.
    got_p (record {
      used = x ∷ t_lb ∷ (u ++ (t_rb ∷ t_gets ∷ (k.0.used ++ (t_semi ∷ []))));
      all = rw (same-eq w t_gets z, k.0.all, q) (simp append_assoc);
      is = store_s h y k.0.is;
    }))))
    (λ z. post-bind _ (reader-sound.chain_s 0 8 (idx x i) (x ∷ t_lb ∷ (u ++ (t_rb ∷ []))) (w ∷ s) (looser (lit< tt) (index_e h y)) zero-le (le_refl _) (ends_8 9 (w ∷ s) (lit≤ tt))) (λ e r k. post-eat t_semi r _ (λ r' q.
    got_p (record {
      used = k.0.used ++ (t_semi ∷ []);
      all = closed k.0.used t_semi (sym (ap (λ v. x ∷ t_lb ∷ v) (append_assoc u (t_rb ∷ []) (w ∷ s))) ∙ k.0.all) q;
      is = ex_s k.0.is;
    }))))

name_st-s : (x : Name) (s : List Name) → T (is_name x) → Post (TookS (x ∷ s)) (name_st x s)
name_st-s x [] h = none_p
name_st-s x (w ∷ s) h =
    post-pick (same w t_gets)
    (λ z. rw (same-eq w t_gets z) (semi-s (x ∷ t_gets ∷ []) (set1 x) s (λ u e y. set_s h y)))
    (λ z. post-pick (same w t_lb)
    (λ g. post-bind _ (expr-s s) (λ i r k. post-eat t_rb r _ (λ r₁ q. rw (same-eq w t_lb g, k.0.all, q) (store_or-s x i k.0.used r₁ h k.0.is))))
    (λ g. semi-s [] ex1 (x ∷ w ∷ s) (λ u e y. ex_s y)))

module _ (G : List Name → Res Block) (K : (s : List Name) → Post (TookB s) (G s)) where
  block_s : (s : List Name) → Post (λ b r. (u : List Name) × (s ≡ t_lc ∷ (u ++ (t_rc ∷ r))) × IsBlock u b) (block G s)
  block_s s = post-eat t_lc s G (λ r q. weaken (K r) (λ b r' k. (k.used, q ∙ ap (λ v. t_lc ∷ v) k.all, k.is)))

  else_of_s : (e : Expr) (b : Block) (u t s : List Name) → IsExpr 0 u e → IsBlock t b → Post (TookS (k_if ∷ (u ++ (t_lc ∷ (t ++ (t_rc ∷ s)))))) (else_of G e b s)
  else_of_s e b u t [] x y = got_p (record { used = k_if ∷ (u ++ (t_lc ∷ (t ++ (t_rc ∷ [])))); all = simp append_assoc; is = if_s x y })
  else_of_s e b u t (w ∷ s) x y =
      post-pick (same w k_else)
      (λ z. post-bind _ (block_s s) (λ c r k. got_p (record {
        used = k_if ∷ (u ++ (t_lc ∷ (t ++ (t_rc ∷ k_else ∷ t_lc ∷ (k.0 ++ (t_rc ∷ []))))));
        all = rw (same-eq w k_else z, k.1) (simp append_assoc);
        is = ifelse_s x y k.2;
      })))
      (λ z. got_p (record { used = k_if ∷ (u ++ (t_lc ∷ (t ++ (t_rc ∷ [])))); all = simp append_assoc; is = if_s x y }))

  st_by_s : (l : Lead) (w : Name) (s : List Name) → LeadMeans l w → Post (TookS (w ∷ s)) (st_by G l w s)
  st_by_s l_out w s m = rw m (semi-s (k_out ∷ []) out1 s (λ u e y. out_s y))
  st_by_s l_if w s m = post-bind _ (expr-s s) (λ e r k. post-bind _ (block_s r) (λ b r₁ g. rw (m, k.0.all, g.1) (else_of_s e b k.0.used g.0 r₁ k.0.is g.2)))
  st_by_s l_while w s m = post-bind _ (expr-s s) (λ e r k. post-bind _ (block_s r) (λ b r₁ g. got_p (record {
    used = k_while ∷ (k.0.used ++ (t_lc ∷ (g.0 ++ (t_rc ∷ []))));
    all = rw (m, k.0.all, g.1) (simp append_assoc);
    is = while_s k.0.is g.2;
  })))
  st_by_s l_return w s m = rw m (semi-s (k_return ∷ []) ret1 s (λ u e y. return_s y))
  st_by_s l_break w s m = post-eat t_semi s _ (λ r q. got_p (record { used = k_break ∷ t_semi ∷ []; all = rw (m, q); is = break_s }))
  st_by_s l_next w s m = post-eat t_semi s _ (λ r q. got_p (record { used = k_continue ∷ t_semi ∷ []; all = rw (m, q); is = continue_s }))
  st_by_s l_name w s m = name_st-s w s m
  st_by_s l_other w s m = semi-s [] ex1 (w ∷ s) (λ u e y. ex_s y)

  body_step_s : (s : List Name) → Post (TookB s) (body_step G s)
  body_step_s [] = none_p
  body_step_s (w ∷ s) =
      post-pick (same w t_rc)
      (λ z. got_p (record { used = []; all = ap (λ v. v ∷ s) (same-eq w t_rc z); is = end_s }))
      (λ z. post-bind _ (st_by_s (lead w) w s (lead-means w)) (λ a r k. post-bind _ (K r) (λ b r' g.
      got_p (record { used = k.used ++ g.used; all = k.all ∙ rw g.all (simp append_assoc); is = more_s k.is g.is }))))

pub body-sound : (s : List Name) → Post (TookB s) (body s)
body-sound s = again_by body_step TookB body_step_s s
