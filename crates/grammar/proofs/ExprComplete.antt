-- What is an expression by the relation is read as that one, by any reader that is its own step.
-- Rests on PieceKinds; the claim is that reading goes on with the chain behind the expression, so that chains to the left need no more.
use mathlib.Core.Path.{◌≡◌, refl, sym, ◌∙◌, ap, subst}
use mathlib.Core.List.{List, [], ◌∷◌, ◌++◌, append_assoc}
use mathlib.Core.Option.{Option, some, none, none-ne-some, some-injective}
use mathlib.Core.Logic.{◌⊎◌, inl, inr}
use Prim.Native.Nat.{ℕ, suc, ◌≤◌, ◌<◌}
use native.Mathlib.Omega.{arith}
use native.Mathlib.Nat.{le_refl}
use lib.Dec.{leb, T, leb→le, le→leb, not_T}
use Rattle.language.specs.Syntax.{Name, Expr, num, var, un, idx, len, call, by_table, input, Exprs, no, and_then}
use Rattle.grammar.specs.Text.{k_in, k_len, k_call, t_lp, t_rp, t_lb, t_rb, t_comma, is_name, IsNumber, Before, IsExpr, looser, or_e, and_e, two_e, one_e, num_e, var_e, brackets_e, index_e, len_e, call_e, table_e, in_e, AreArgs, none_es, one_es, more_es}
use Rattle.grammar.specs.Parse.{join, Tie, Piece, p_num, p_name, p_minus, p_before, p_lp, p_len, p_call, p_in, look, op_of, a_none, after, Go, g_more, g_end, g_none, go_on, fail, got, bind, eat, Fns, climb, behind, args_by, args_of, named, name, start, chain_by}
use Rattle.grammar.proofs.PieceKinds.{true_of, false_of, Ties, or_t, and_t, bin_t, ties_low, ties_look, ties_after, look-means, look-num, look-name, look-before}
use Rattle.grammar.proofs.ExprSound.{Ends, GoMeans, go-means}
use Rattle.grammar.specs.Equations.{Fixed}

-- the next piece opens nothing behind a name
abbrev pub Quiet : List Name → Type 0
Quiet [] = Unit {0}
Quiet (w ∷ s) = after (look w) ≡ a_none

-- a piece that ends any expression
pub record Shuts (w : Name) : Type 0 where
  pub no_op : op_of (look w) ≡ none
  pub no_after : after (look w) ≡ a_none

pub shuts_rp : Shuts t_rp
unfolding look
shuts_rp = record { no_op = refl; no_after = refl }

pub shuts_rb : Shuts t_rb
unfolding look
shuts_rb = record { no_op = refl; no_after = refl }

pub shuts_comma : Shuts t_comma
unfolding look
shuts_comma = record { no_op = refl; no_after = refl }

pub shuts-ends : (n : ℕ) (w : Name) (s : List Name) → Shuts w → Ends n (w ∷ s)
shuts-ends n w s h = λ t e. absurd (none-ne-some t (sym h.no_op ∙ e))

pub ends_more : (m n : ℕ) (s : List Name) → m ≤ n → Ends m s → Ends n s
ends_more m n [] h k = tt
ends_more m n (w ∷ s) h k = λ t e. let l = k t e in omega arith

pub fail-got : {A : Type 0} {a : A} {r : List Name} → fail ≡ got a r → ⊥
fail-got e = let z : ◌≡◌ {A = ℕ} 0 1 = cc in omega arith

pub record Parsed (R : Fns) (m : ℕ) (s : List Name) (e : Expr) : Type 0 where
  pub tight : 8 ≤ m → (r : List Name) → Quiet r → R.one (s ++ r) ≡ got e r
  pub loose : (n : ℕ) (r : List Name) → n ≤ m → Ends (suc m) r → Quiet r → climb R n (s ++ r) ≡ R.chain n e r

abbrev pub First : Fns → List Name → Exprs → Type 0
First R s no = s ≡ []
First R s (and_then e es) = (r : List Name) → bind (climb R 0 (s ++ (t_rp ∷ r))) (behind R) ≡ got (and_then e es) r

module _ (R : Fns) (F : Fixed R) where
  chain_by_ends : (o : Option Tie) (n : ℕ) (e : Expr) (w s : List Name) → ((t : Tie) → o ≡ some t → t.lvl < n) → chain_by R n e w s o ≡ got e w
  chain_by_ends none n e w s h = refl
  chain_by_ends (some t) n e w s h =
      let l = h t refl in
      rw (false_of (leb n t.lvl) (not_T _ (λ y. let k = leb→le n t.lvl y in omega arith)))

  pub chain_ends : (n : ℕ) (e : Expr) (r : List Name) → Ends n r → R.chain n e r ≡ got e r
  chain_ends n e [] h = F.chain_is n e []
  chain_ends n e (w ∷ s) h = F.chain_is n e (w ∷ s) ∙ chain_by_ends (op_of (look w)) n e (w ∷ s) s h

  -- in front of a piece that ends it
  pub inner : {s : List Name} {e : Expr} (w : Name) (r : List Name) → Shuts w → Parsed R 0 s e → climb R 0 (s ++ (w ∷ r)) ≡ got e (w ∷ r)
  inner {s} {e} w r h p = p.loose 0 (w ∷ r) (le_refl _) (shuts-ends 1 w r h) h.no_after ∙ chain_ends 0 e (w ∷ r) (shuts-ends 0 w r h)

  pub inner' : {s : List Name} {e : Expr} (w : Name) (r : List Name) → Shuts w → Parsed R 0 s e → climb R 0 ((s ++ (w ∷ [])) ++ r) ≡ got e (w ∷ r)
  inner' {s} w r h p = ap (climb R 0) (append_assoc s (w ∷ []) r) ∙ inner w r h p

  of_tight : {m : ℕ} {s : List Name} {e : Expr} → ((r : List Name) → Quiet r → R.one (s ++ r) ≡ got e r) → Parsed R m s e
  of_tight f = record { tight = λ h. f; loose = λ n r h k q. ap (λ x. bind x (R.chain n)) (f r q) }

  looser_p : {m : ℕ} {s : List Name} {e : Expr} → Parsed R (suc m) s e → Parsed R m s e
  looser_p {m} p = record { tight = λ h. p.tight (omega arith); loose = λ n r h k q. p.loose n r (omega arith) (ends_more (suc m) _ r (omega arith) k) q }

  pub chain_by_ties : (t : Tie) (n : ℕ) (a : Expr) (w s : List Name) → n ≤ t.lvl → (o : Option Tie) → o ≡ some t → chain_by R n a w s o ≡ bind (climb R (suc t.lvl) s) (λ b r. R.chain n (join t.op a b) r)
  chain_by_ties t n a w s h o e = rw (e, true_of _ (le→leb n t.lvl h))

  ties_p : {t : Tie} {w : Name} {s u : List Name} {a b : Expr} → Ties t w → Parsed R t.lvl s a → Parsed R (suc t.lvl) u b → Parsed R t.lvl (s ++ (w ∷ u)) (join t.op a b)
  ties_p {t} {w} {s} {u} {a} {b} d p q = record {
    tight = λ h. let l = ties_low d in absurd (omega arith);
    loose = λ n r h k z.
        ap (climb R n) (append_assoc s (w ∷ u) r)
        ∙ p.loose n (w ∷ (u ++ r)) h (λ v e. rw (some-injective v t (sym e ∙ ties_look d)) (le_refl _)) (ties_after d)
        ∙ F.chain_is n a (w ∷ (u ++ r))
        ∙ chain_by_ties t n a (w ∷ (u ++ r)) (u ++ r) h (op_of (look w)) (ties_look d)
        ∙ ap (λ x. bind x (λ b' r'. R.chain n (join t.op a b') r')) (q.loose (suc t.lvl) r (le_refl _) (ends_more (suc t.lvl) _ r (omega arith) k) z ∙ chain_ends (suc t.lvl) b r k);
  }

  -- what begins with a piece that is known
  pub begins : (w : Name) (s : List Name) (p : Piece) → look w ≡ p → R.one (w ∷ s) ≡ start R w p s
  begins w s p e = F.one_is (w ∷ s) ∙ ap (λ q. start R w q s) e

  one_p : {w : Name} {o : ℕ} {s : List Name} {a : Expr} → Before w o → Parsed R 8 s a → Parsed R 8 (w ∷ s) (un o a)
  one_p {w} {o} {s} {a} b p = of_tight (λ r q. go r q (look-before b))
    where
      go : (r : List Name) → Quiet r → (look w ≡ p_before o) ⊎ ((look w ≡ p_minus) × (o ≡ 0)) → R.one (w ∷ (s ++ r)) ≡ got (un o a) r
      go r q (inl e) = begins w (s ++ r) (p_before o) e ∙ ap (λ x. bind x (λ e r. got (un o e) r)) (p.tight (le_refl _) r q)
      go r q (inr h) = begins w (s ++ r) p_minus h.0 ∙ ap (λ x. bind x (λ e r. got (un 0 e) r)) (p.tight (le_refl _) r q) ∙ ap (λ x. got (un x a) r) (sym h.1)

  num_p : {w : Name} {n : ℕ} → IsNumber w n → Parsed R 9 (w ∷ []) (num n)
  num_p {w} {n} h = of_tight (λ r q. begins w r (p_num n) (look-num w n h))

  var_q : (x : Name) (r : List Name) → Quiet r → name R x r ≡ got (var x) r
  var_q x [] q = refl
  var_q x (w ∷ r) q = ap (λ a. named R x a (w ∷ r) r) q

  var_p : {x : Name} → T (is_name x) → Parsed R 9 (x ∷ []) (var x)
  var_p {x} h = of_tight (λ r q. begins x r p_name (look-name x h) ∙ var_q x r q)

  brackets_p : {s : List Name} {e : Expr} → Parsed R 0 s e → Parsed R 9 (t_lp ∷ (s ++ (t_rp ∷ []))) e
  unfolding look
  brackets_p {s} {e} p = of_tight (λ r q. begins t_lp _ p_lp refl ∙ ap (λ x. bind x (λ e r. eat t_rp r (λ r'. got e r'))) (inner' t_rp r shuts_rp p))

  index_p : {x : Name} {s : List Name} {e : Expr} → T (is_name x) → Parsed R 0 s e → Parsed R 9 (x ∷ t_lb ∷ (s ++ (t_rb ∷ []))) (idx x e)
  unfolding look
  index_p {x} h p = of_tight (λ r q. begins x _ p_name (look-name x h) ∙ ap (λ y. bind y (λ e r. eat t_rb r (λ r'. got (idx x e) r'))) (inner' t_rb r shuts_rb p))

  len_p : {x : Name} → T (is_name x) → Parsed R 9 (k_len ∷ t_lp ∷ x ∷ t_rp ∷ []) (len x)
  unfolding look
  len_p {x} h = of_tight (λ r q. begins k_len _ p_len refl ∙ rw (true_of _ h))

  in_p : Parsed R 9 (k_in ∷ t_lp ∷ t_rp ∷ []) input
  unfolding look
  in_p = of_tight (λ r q. begins k_in _ p_in refl)

  -- arguments
  args_by_first : (g : Go) (w : Name) (s : List Name) (es : Exprs) (r : List Name) → go_on (look w) ≡ g → bind (climb R 0 (w ∷ s)) (behind R) ≡ got es r → args_by R g (w ∷ s) s ≡ got es r
  unfolding look
  args_by_first g_more w s es r e h = h
  args_by_first g_end w s es r e h =
      let q : w ≡ t_rp = subst (λ g. GoMeans g w) e (go-means (look w) w (look-means w)) in
      absurd (fail-got (ap (λ x. bind (bind x (R.chain 0)) (behind R)) (sym (F.one_is (t_rp ∷ s))) ∙ ap (λ v. bind (climb R 0 (v ∷ s)) (behind R)) (sym q) ∙ h))
  args_by_first g_none w s es r e h = h

  args_of_first : (s : List Name) (es : Exprs) (r : List Name) → bind (climb R 0 s) (behind R) ≡ got es r → args_of R s ≡ got es r
  args_of_first [] es r h = absurd (fail-got (ap (λ x. bind (bind x (R.chain 0)) (behind R)) (sym (F.one_is [])) ∙ h))
  args_of_first (w ∷ s) es r h = args_by_first (go_on (look w)) w s es r refl h

  pub all_args : (s : List Name) (es : Exprs) (r : List Name) → First R s es → args_of R (s ++ (t_rp ∷ r)) ≡ got es r
  unfolding look
  all_args s no r h = rw h
  all_args s (and_then e es) r h = args_of_first (s ++ (t_rp ∷ r)) (and_then e es) r (h r)

  args_p : (x : List Name) (es : Exprs) (r : List Name) → First R x es → args_of R ((x ++ (t_rp ∷ [])) ++ r) ≡ got es r
  args_p s es r p = ap (args_of R) (append_assoc s (t_rp ∷ []) r) ∙ all_args s es r p

  call_p : {x : Name} (s : List Name) (es : Exprs) → T (is_name x) → First R s es → Parsed R 9 (x ∷ t_lp ∷ (s ++ (t_rp ∷ []))) (call x es)
  unfolding look
  call_p {x} s es h p = of_tight (λ r q. begins x _ p_name (look-name x h) ∙ ap (λ y. bind y (λ es r. got (call x es) r)) (args_p s es r p))

  table_p : {x : Name} {s : List Name} (t : List Name) {e : Expr} (es : Exprs) → T (is_name x) → Parsed R 0 s e → First R t es → Parsed R 9 (k_call ∷ x ∷ t_lb ∷ (s ++ (t_rb ∷ t_lp ∷ (t ++ (t_rp ∷ []))))) (by_table x e es)
  unfolding look
  table_p {x} {s} t {e} es h p g = of_tight (λ r q. begins k_call _ p_call refl ∙ rw (true_of _ h)
      (ap (λ y. bind y (λ e r. eat t_rb r (λ r₁. eat t_lp r₁ (λ r₂. bind (args_of R r₂) (λ es r₃. got (by_table x e es) r₃)))))
      (ap (climb R 0) (append_assoc s (t_rb ∷ t_lp ∷ (t ++ (t_rp ∷ []))) r) ∙ inner t_rb _ shuts_rb p)
      ∙ ap (λ y. bind y (λ es r₃. got (by_table x e es) r₃)) (args_p t es r g)))

  last_p : {s : List Name} {e : Expr} → Parsed R 0 s e → First R s (and_then e no)
  unfolding look
  last_p {e = e} p = λ r. ap (λ x. bind x (behind R)) (inner t_rp r shuts_rp p) ∙ ap (λ x. bind x (λ es r'. got (and_then e es) r')) (F.args_is (t_rp ∷ r))

  more_p : {s : List Name} (t : List Name) {e : Expr} (f : Expr) (es : Exprs) → Parsed R 0 s e → First R t (and_then f es) → First R (s ++ (t_comma ∷ t)) (and_then e (and_then f es))
  unfolding look
  more_p {s} t {e} f es p g = λ r.
      ap (λ x. bind (climb R 0 x) (behind R)) (append_assoc s (t_comma ∷ t) (t_rp ∷ r))
      ∙ ap (λ x. bind x (behind R)) (inner t_comma (t ++ (t_rp ∷ r)) shuts_comma p)
      ∙ ap (λ x. bind x (λ es r'. got (and_then e es) r')) (F.args_is (t_comma ∷ (t ++ (t_rp ∷ r))) ∙ g r)

  mutual
    pub complete : {m : ℕ} {s : List Name} {e : Expr} → IsExpr m s e → Parsed R m s e
    complete (looser h x) = looser_p (complete x)
    complete (or_e x y) = ties_p or_t (complete x) (complete y)
    complete (and_e x y) = ties_p and_t (complete x) (complete y)
    complete (two_e x b y) = ties_p (bin_t b) (complete x) (complete y)
    complete (one_e b x) = one_p b (complete x)
    complete (num_e h) = num_p h
    complete (var_e h) = var_p h
    complete (brackets_e x) = brackets_p (complete x)
    complete (index_e h x) = index_p h (complete x)
    complete (len_e h) = len_p h
    complete (call_e h x) = call_p _ _ h (completes x)
    complete (table_e h x y) = table_p _ _ h (complete x) (completes y)
    complete in_e = in_p

    pub completes : {s : List Name} {es : Exprs} → AreArgs s es → First R s es
    completes none_es = refl
    completes (one_es x) = last_p (complete x)
    completes (more_es x y) = more_p _ _ _ (complete x) (completes y)
