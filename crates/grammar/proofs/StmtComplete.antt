-- What are statements by the relation are read as those. Rests on ExprComplete and on the equation of bodies.
use mathlib.Core.Path.{◌≡◌, refl, sym, ◌∙◌, ap}
use mathlib.Core.Bool.{Bool, true, false}
use mathlib.Core.List.{List, [], ◌∷◌, ◌++◌, append_assoc}
use lib.Dec.{T}
use Rattle.language.specs.Syntax.{pick, Name, same, Expr, var, idx, Stmt, set1, store1, ex1, out1, if1, while1, ret1, break1, next1, Block, end, seq1}
use Rattle.grammar.specs.Text.{k_if, k_else, k_while, k_return, k_break, k_continue, k_out, t_lb, t_rb, t_lc, t_rc, t_semi, t_gets, is_name, IsExpr, IsStmt, set_s, store_s, ex_s, out_s, if_s, ifelse_s, while_s, return_s, break_s, continue_s, IsBlock, end_s, more_s}
use Rattle.grammar.specs.Parse.{Res, fail, got, bind, eat, reader, look, p_name, p_other, name}
use Rattle.grammar.specs.ParseAll.{expr, ex_semi, Lead, l_out, l_if, l_while, l_return, l_break, l_next, l_name, l_other, lead, store_or, name_st, block, else_of, st_by, stmt, body}
use Rattle.grammar.proofs.PieceKinds.{T_of, true_of, same-eq, look-name}
use Rattle.grammar.proofs.ExprFuel.{reader-fixed}
use Rattle.grammar.proofs.ExprComplete.{Shuts, shuts_rb, shuts-ends, fail-got, chain_ends, inner, begins, complete}
use Rattle.grammar.proofs.Equations.{body_is}
use Rattle.grammar.proofs.StmtSound.{LeadMeans, lead-means}

pub shuts-semi : Shuts t_semi
unfolding look
shuts-semi = record { no_op = refl; no_after = refl }

pub shuts_lc : Shuts t_lc
unfolding look
shuts_lc = record { no_op = refl; no_after = refl }

shuts_gets : Shuts t_gets
unfolding look
shuts_gets = record { no_op = refl; no_after = refl }

pub expr-c : {s : List Name} {e : Expr} (w : Name) (r : List Name) → Shuts w → IsExpr 0 s e → expr (s ++ (w ∷ r)) ≡ got e (w ∷ r)
expr-c w r h x = inner reader reader-fixed w r h (complete reader reader-fixed x)

semi-c : (c : Expr → Stmt) {s : List Name} {e : Expr} (r : List Name) → IsExpr 0 s e → ex_semi c ((s ++ (t_semi ∷ [])) ++ r) ≡ got (c e) r
semi-c c {s} r x = ap (ex_semi c) (append_assoc s (t_semi ∷ []) r) ∙ ap (λ y. bind y (λ e r. eat t_semi r (λ r'. got (c e) r'))) (expr-c t_semi r shuts-semi x)

lead-name : (x : Name) → T (is_name x) → lead x ≡ l_name
unfolding lead
lead-name x h = rw (true_of _ h)

-- what is no expression's beginning
abbrev Semi : Expr → List Name → Res Stmt
Semi e r = eat t_semi r (λ r'. got (ex1 e) r')

other_fails : (w : Name) (s : List Name) → look w ≡ p_other → ex_semi ex1 (w ∷ s) ≡ fail
other_fails w s e = ap (λ x. bind (bind x (reader.chain 0)) Semi) (begins reader reader-fixed w s p_other e)

not_first : (k w : Name) (s : List Name) {a : Stmt} {r : List Name} → look k ≡ p_other → w ≡ k → ex_semi ex1 (w ∷ s) ≡ got a r → ⊥
not_first k w s e q h = fail-got (sym (other_fails k s e) ∙ ap (λ v. ex_semi ex1 (v ∷ s)) (sym q) ∙ h)

-- an expression that is a statement, though it begins with a name
module _ (x : Name) (ok : T (is_name x)) where
  one_x : (s : List Name) → ex_semi ex1 (x ∷ s) ≡ bind (bind (name reader x s) (reader.chain 0)) Semi
  one_x s = ap (λ y. bind (bind y (reader.chain 0)) Semi) (begins reader reader-fixed x s p_name (look-name x ok))

  store_by : (b : Bool) (i : Expr) (w : Name) (s : List Name) {a : Stmt} {r : List Name} → same w t_gets ≡ b → bind (reader.chain 0 (idx x i) (w ∷ s)) Semi ≡ got a r → store_or x i (w ∷ s) ≡ got a r
  store_by true i w s q h =
      absurd (fail-got (sym (ap (λ y. bind y Semi) (ap (λ v. reader.chain 0 (idx x i) (v ∷ s)) (same-eq w t_gets (T_of q)) ∙ chain_ends reader reader-fixed 0 (idx x i) (t_gets ∷ s) (shuts-ends 0 t_gets s shuts_gets))) ∙ h))
  store_by false i w s q h = rw q h

  store_or_c : (i : Expr) (s : List Name) {a : Stmt} {r : List Name} → bind (reader.chain 0 (idx x i) s) Semi ≡ got a r → store_or x i s ≡ got a r
  store_or_c i [] h = absurd (fail-got (sym (ap (λ y. bind y Semi) (reader-fixed.chain_is 0 (idx x i) [])) ∙ h))
  store_or_c i (w ∷ s) h = store_by (same w t_gets) i w s refl h

  rb_by : (b : Bool) (i : Expr) (s : List Name) {a : Stmt} {r : List Name} → bind (bind (pick b (got (idx x i) s) fail) (reader.chain 0)) Semi ≡ got a r → pick b (store_or x i s) fail ≡ got a r
  rb_by true i s h = store_or_c i s h
  rb_by false i s h = absurd (fail-got h)

  rb_c : (i : Expr) (s : List Name) {a : Stmt} {r : List Name} → bind (bind (eat t_rb s (λ r'. got (idx x i) r')) (reader.chain 0)) Semi ≡ got a r → eat t_rb s (store_or x i) ≡ got a r
  rb_c i [] h = absurd (fail-got h)
  rb_c i (w ∷ s) h = rb_by (same w t_rb) i s h

  lb_c : (m : Res Expr) {a : Stmt} {r : List Name} → bind (bind (bind m (λ i r. eat t_rb r (λ r'. got (idx x i) r'))) (reader.chain 0)) Semi ≡ got a r → bind m (λ i r. eat t_rb r (λ r₁. store_or x i r₁)) ≡ got a r
  lb_c fail h = absurd (fail-got h)
  lb_c (got i s) h = rb_c i s h

  name_by : (b c : Bool) (w : Name) (s : List Name) {a : Stmt} {r : List Name} → same w t_gets ≡ b → same w t_lb ≡ c → ex_semi ex1 (x ∷ w ∷ s) ≡ got a r → name_st x (w ∷ s) ≡ got a r
  unfolding look
  name_by true c w s p q h = absurd (fail-got (sym (one_x (t_gets ∷ s) ∙ ap (λ y. bind y Semi) (chain_ends reader reader-fixed 0 (var x) (t_gets ∷ s) (shuts-ends 0 t_gets s shuts_gets))) ∙ ap (λ v. ex_semi ex1 (x ∷ v ∷ s)) (sym (same-eq w t_gets (T_of p))) ∙ h))
  name_by false true w s p q h =
      let e : w ≡ t_lb = same-eq w t_lb (T_of q) in
      rw (p, q) (lb_c (expr s) (sym (one_x (t_lb ∷ s)) ∙ ap (λ v. ex_semi ex1 (x ∷ v ∷ s)) (sym e) ∙ h))
  name_by false false w s p q h = rw (p, q) h

  name_st_c : (s : List Name) {a : Stmt} {r : List Name} → ex_semi ex1 (x ∷ s) ≡ got a r → name_st x s ≡ got a r
  name_st_c [] h = absurd (fail-got (sym (one_x [] ∙ ap (λ y. bind y Semi) (reader-fixed.chain_is 0 (var x) [])) ∙ h))
  name_st_c (w ∷ s) h = name_by (same w t_gets) (same w t_lb) w s refl refl h

st_by-c : (l : Lead) (w : Name) (s : List Name) {a : Stmt} {r : List Name} → LeadMeans l w → ex_semi ex1 (w ∷ s) ≡ got a r → st_by body l w s ≡ got a r
unfolding look
st_by-c l_out w s m h = absurd (not_first k_out w s refl m h)
st_by-c l_if w s m h = absurd (not_first k_if w s refl m h)
st_by-c l_while w s m h = absurd (not_first k_while w s refl m h)
st_by-c l_return w s m h = absurd (not_first k_return w s refl m h)
st_by-c l_break w s m h = absurd (not_first k_break w s refl m h)
st_by-c l_next w s m h = absurd (not_first k_continue w s refl m h)
st_by-c l_name w s m h = name_st_c w m s h
st_by-c l_other w s m h = h

ex_c : (s : List Name) {a : Stmt} {r : List Name} → ex_semi ex1 s ≡ got a r → stmt body s ≡ got a r
ex_c [] h = absurd (fail-got (sym (ap (λ x. bind (bind x (reader.chain 0)) Semi) (reader-fixed.one_is [])) ∙ h))
ex_c (w ∷ s) h = st_by-c (lead w) w s (lead-means w) h

-- what no statement begins with
abbrev pub NotK : Name → List Name → Type 0
NotK k [] = Unit {0}
NotK k (w ∷ s) = same w k ≡ false

abbrev pub NotElse : List Name → Type 0
NotElse s = NotK k_else s

pub record Plain (k : Name) : Type 0 where
  pub lead_o : lead k ≡ l_other
  pub look_o : look k ≡ p_other
  pub rc_o : same t_rc k ≡ false

plain_else : Plain k_else
unfolding lead look
plain_else = record { lead_o = refl; look_o = refl; rc_o = refl }

not_k : (k : Name) (w : Name) (s : List Name) {a : Stmt} {r : List Name} → lead k ≡ l_other → look k ≡ p_other → stmt body (w ∷ s) ≡ got a r → same w k ≡ false
not_k k w s {a} {r} e q h = go (same w k) refl
  where
    go : (b : Bool) → same w k ≡ b → b ≡ false
    go true p = absurd (not_first k k s q refl (ap (λ l. st_by body l k s) (sym e) ∙ ap (λ v. stmt body (v ∷ s)) (sym (same-eq w k (T_of p))) ∙ h))
    go false p = refl

not_plain : (k : Name) (s : List Name) {a : Stmt} {r : List Name} → Plain k → stmt body s ≡ got a r → NotK k s
not_plain k [] p h = tt
not_plain k (w ∷ s) p h = not_k k w s p.lead_o p.look_o h

seq_c : (s : List Name) {a : Stmt} {b : Block} {r r' : List Name} → stmt body s ≡ got a r → body r ≡ got b r' → body s ≡ got (seq1 a b) r'
unfolding look lead
seq_c [] h k = absurd (fail-got h)
seq_c (w ∷ s) {a} {b} {r} {r'} h k = body_is (w ∷ s) ∙ rw (not_k t_rc w s refl refl h, h, k)

pub record ParsedB (s : List Name) (b : Block) : Type 0 where
  pub reads : (r : List Name) → body (s ++ (t_rc ∷ r)) ≡ got b r
  pub calm : (k : Name) → Plain k → (r : List Name) → NotK k (s ++ (t_rc ∷ r))

abbrev pub ParsedS : List Name → Stmt → Type 0
ParsedS s a = (r : List Name) → NotElse r → stmt body (s ++ r) ≡ got a r

else_none : (e : Expr) (b : Block) (r : List Name) → NotElse r → else_of body e b r ≡ got (if1 e b end) r
else_none e b [] q = refl
else_none e b (w ∷ r) q = rw q

named_st : (x : Name) (s : List Name) → T (is_name x) → stmt body (x ∷ s) ≡ name_st x s
named_st x s h = ap (λ l. st_by body l x s) (lead-name x h)

set_p : {x : Name} {s : List Name} {e : Expr} → T (is_name x) → IsExpr 0 s e → ParsedS (x ∷ t_gets ∷ (s ++ (t_semi ∷ []))) (set1 x e)
set_p {x} h y = λ r q. named_st x _ h ∙ semi-c (set1 x) r y

store_p : {x : Name} {s t : List Name} {i e : Expr} → T (is_name x) → IsExpr 0 s i → IsExpr 0 t e → ParsedS (x ∷ t_lb ∷ (s ++ (t_rb ∷ t_gets ∷ (t ++ (t_semi ∷ []))))) (store1 x i e)
store_p {x} {s} {t} {i} h y z = λ r q.
    named_st x _ h
    ∙ ap (λ v. bind (expr v) (λ i r. eat t_rb r (λ r₁. store_or x i r₁))) (append_assoc s (t_rb ∷ t_gets ∷ (t ++ (t_semi ∷ []))) r)
    ∙ ap (λ v. bind v (λ i r. eat t_rb r (λ r₁. store_or x i r₁))) (expr-c t_rb _ shuts_rb y)
    ∙ semi-c (store1 x i) r z

if_p : {s t : List Name} {e : Expr} {b : Block} → IsExpr 0 s e → ParsedB t b → ParsedS (k_if ∷ (s ++ (t_lc ∷ (t ++ (t_rc ∷ []))))) (if1 e b end)
unfolding lead
if_p {s} {t} {e} {b} x p = λ r q.
    let n : (s ++ (t_lc ∷ (t ++ (t_rc ∷ [])))) ++ r ≡ s ++ (t_lc ∷ (t ++ (t_rc ∷ r))) = simp append_assoc in
    ap (λ z. stmt body (k_if ∷ z)) n
    ∙ ap (λ y. bind y (λ e r. bind (block body r) (λ b r₁. else_of body e b r₁))) (expr-c t_lc _ shuts_lc x)
    ∙ ap (λ y. bind y (λ b r₁. else_of body e b r₁)) (p.reads r)
    ∙ else_none e b r q

ifelse_p : {s t u : List Name} {e : Expr} {b c : Block} → IsExpr 0 s e → ParsedB t b → ParsedB u c → ParsedS (k_if ∷ (s ++ (t_lc ∷ (t ++ (t_rc ∷ k_else ∷ t_lc ∷ (u ++ (t_rc ∷ []))))))) (if1 e b c)
unfolding lead
ifelse_p {s} {t} {u} {e} {b} x p g = λ r q.
    let n : (s ++ (t_lc ∷ (t ++ (t_rc ∷ k_else ∷ t_lc ∷ (u ++ (t_rc ∷ [])))))) ++ r ≡ s ++ (t_lc ∷ (t ++ (t_rc ∷ k_else ∷ t_lc ∷ (u ++ (t_rc ∷ r))))) = simp append_assoc in
    ap (λ z. stmt body (k_if ∷ z)) n
    ∙ ap (λ y. bind y (λ e r. bind (block body r) (λ b r₁. else_of body e b r₁))) (expr-c t_lc _ shuts_lc x)
    ∙ ap (λ y. bind y (λ b r₁. else_of body e b r₁)) (p.reads _)
    ∙ ap (λ y. bind y (λ c r. got (if1 e b c) r)) (g.reads r)

while_p : {s t : List Name} {e : Expr} {b : Block} → IsExpr 0 s e → ParsedB t b → ParsedS (k_while ∷ (s ++ (t_lc ∷ (t ++ (t_rc ∷ []))))) (while1 e b)
unfolding lead
while_p {s} {t} {e} {b} x p = λ r q.
    let n : (s ++ (t_lc ∷ (t ++ (t_rc ∷ [])))) ++ r ≡ s ++ (t_lc ∷ (t ++ (t_rc ∷ r))) = simp append_assoc in
    ap (λ z. stmt body (k_while ∷ z)) n
    ∙ ap (λ y. bind y (λ e r. bind (block body r) (λ b r₁. got (while1 e b) r₁))) (expr-c t_lc _ shuts_lc x)
    ∙ ap (λ y. bind y (λ b r₁. got (while1 e b) r₁)) (p.reads r)

end-p : ParsedB [] end
end-p = record { reads = λ r. body_is (t_rc ∷ r); calm = λ k p r. p.rc_o }

more_p : (s : List Name) {t : List Name} (a : Stmt) {b : Block} → ParsedS s a → ParsedB t b → ParsedB (s ++ t) (seq1 a b)
more_p s {t} a {b} f p =
    let h : (r : List Name) → stmt body (s ++ (t ++ (t_rc ∷ r))) ≡ got a (t ++ (t_rc ∷ r)) = λ r. f (t ++ (t_rc ∷ r)) (p.calm k_else plain_else r) in
    record {
      reads = λ r. rw (append_assoc s t (t_rc ∷ r)) (seq_c (s ++ (t ++ (t_rc ∷ r))) (h r) (p.reads r));
      calm = λ k z r. rw (append_assoc s t (t_rc ∷ r)) (not_plain k (s ++ (t ++ (t_rc ∷ r))) z (h r));
    }

brk_p : ParsedS (k_break ∷ t_semi ∷ []) break1
unfolding lead
brk_p = λ r q. refl

nxt_p : ParsedS (k_continue ∷ t_semi ∷ []) next1
unfolding lead
nxt_p = λ r q. refl

out-p : {s : List Name} {e : Expr} → IsExpr 0 s e → ParsedS (k_out ∷ (s ++ (t_semi ∷ []))) (out1 e)
unfolding lead
out-p x = λ r q. semi-c out1 r x

ret_p : {s : List Name} {e : Expr} → IsExpr 0 s e → ParsedS (k_return ∷ (s ++ (t_semi ∷ []))) (ret1 e)
unfolding lead
ret_p x = λ r q. semi-c ret1 r x

ex_p : {s : List Name} {e : Expr} → IsExpr 0 s e → ParsedS (s ++ (t_semi ∷ [])) (ex1 e)
ex_p {s} x = λ r q. ex_c ((s ++ (t_semi ∷ [])) ++ r) (semi-c ex1 r x)

mutual
  pub st_complete : {s : List Name} {a : Stmt} → IsStmt s a → ParsedS s a
  st_complete (set_s h x) = set_p h x
  st_complete (store_s h x y) = store_p h x y
  st_complete (ex_s x) = ex_p x
  st_complete (out_s x) = out-p x
  st_complete (if_s x b) = if_p x (body_complete b)
  st_complete (ifelse_s x b c) = ifelse_p x (body_complete b) (body_complete c)
  st_complete (while_s x b) = while_p x (body_complete b)
  st_complete (return_s x) = ret_p x
  st_complete break_s = brk_p
  st_complete continue_s = nxt_p

  pub body_complete : {s : List Name} {b : Block} → IsBlock s b → ParsedB s b
  body_complete end_s = end-p
  body_complete (more_s x y) = more_p _ _ (st_complete x) (body_complete y)
