-- The steps of the code that reads statements, against the model parser.
use Rattle.std.proofs.Common.{◌≡◌, ℕ, ◌+◌, ◌-◌, ◌*◌, ◌≤◌, Bool, true, false, List, [], ◌∷◌, ◌++◌, length, Ok, Err, Result, sym, refl, ap, ◌∙◌, subst, append_assoc, append-nil, arith, Bor}
use mathlib.Core.Option.{none}
use Rattle.rows.specs.declared.row.Row.{Row}
use Rattle.pieces.specs.declared.refused.Refused.{Refused}
use Rattle.language.specs.Syntax.{pick, Name, same, Expr, var, idx, Stmt, set1, store1, ex1, out1, if1, while1, ret1, break1, next1, Block, end, seq1}
use Rattle.grammar.specs.Text.{pieces, gap, is_name, t_lb, t_rb, t_lc, t_rc, t_semi, t_gets, k_else}
use Rattle.grammar.specs.Parse.{p_name, Res, fail, got, bind, eat, climb, reader}
use Rattle.grammar.specs.ParseAll.{expr, ex_semi, l_if, l_while, l_other, store_or, name_st, block, else_of, st_by, stmt, body_step, body}
use Rattle.pieces.specs.Seen.{ate, Ate, AteName, no_piece}
use Rattle.rows.specs.Row.{Wrote}
use Rattle.rows.specs.Has.{named}
use Rattle.rows.specs.Nodes.{expr_row}
use Rattle.bodies.specs.Outcome.{Spent, Did, Parsed, Chains}
use Rattle.rows.specs.Nodes.{stmt_row, block_row}
use Rattle.bodies.specs.Parts.{ex_end, semi, index_st, else_b}
use Rattle.pieces.specs.Leads.{lead_of, head_lead, LeadFirst}
use Rattle.pieces.specs.declared.lead.Lead as code
use Rattle.grammar.proofs.PieceKinds.{look-name}
use Rattle.pieces.proofs.Looking.{of_true}
use Rattle.grammar.proofs.ExprFuel.{reader-fixed}
use Rattle.grammar.proofs.ExprComplete.{begins}
use Rattle.grammar.proofs.Unrolling.{again_is}
use Rattle.grammar.proofs.StmtFuel.{body_well}
use Rattle.rows.proofs.Writing.{wrote-more, wrote_none}
use Rattle.bodies.proofs.Expressions.{bind-fail, bind-got, eat-got, not_same}

-- what was read, as part of something else
pub did_map : {A C : Type 0} {m : Res A} {n : Res C} {row : A → List ℕ} {row' : C → List ℕ} {s t r : List ℕ} {o p : Row} (d e : ℕ) (f : A → C) → n ≡ bind m (λ a q. got (f a) q) → ((a : A) → row a ≡ row' (f a)) → length s + (1 - e) ≤ length t → d + 4 * length s ≤ e + 4 * length t → Did d m row s r o p → Did e n row' t r o p
did_map {o = o} {p = p} d e f q c h k a = let u = a.within in let v = a.on in record { tree = f a.tree; is = q ∙ bind-got _ a.tree _ a.is; wrote = subst (Wrote o p) (c a.tree) a.wrote; within = omega arith; on = omega arith }

did_map' : {A C : Type 0} {m : Res A} {n : Res C} {row : A → List ℕ} {row' : C → List ℕ} {t r : List ℕ} {o p : Row} (f : A → C) → n ≡ bind m (λ a q. got (f a) q) → ((a : A) → row a ≡ row' (f a)) → Did 0 m row t r o p → Did 0 n row' t r o p
did_map' {o = o} {p = p} f q c a = record { tree = f a.tree; is = q ∙ bind-got _ a.tree _ a.is; wrote = subst (Wrote o p) (c a.tree) a.wrote; within = a.within; on = a.on }

pub parsed-map : {A C : Type 0} (m : Res A) (n : Res C) (row : A → List ℕ) (row' : C → List ℕ) (s t : List ℕ) (o p : Row) (res : Result (Bor (List ℕ)) Refused) (d e : ℕ) (f : A → C) → n ≡ bind m (λ a q. got (f a) q) → ((a : A) → row a ≡ row' (f a)) → length s + (1 - e) ≤ length t → d + 4 * length s ≤ e + 4 * length t → Parsed d m row s o p res → Parsed e n row' t o p res
parsed-map m n row row' s t o p (Ok x) d e f q c h k a = did_map d e f q c h k a
parsed-map m n row row' s t o p (Err y) d e f q c h k a = q ∙ bind-fail _ a

-- an expression and a semicolon
pub eat-map : {A C : Type 0} (w : Name) (s : List Name) (a : A) (f : A → C) → eat w s (λ r. got (f a) r) ≡ bind (eat w s (λ r. got a r)) (λ x r. got (f x) r)
eat-map w [] a f = refl
eat-map w (x ∷ s) a f = go (same x w)
  where
    go : (b : Bool) → pick b (got (f a) s) fail ≡ bind (pick b (got a s) fail) (λ x r. got (f x) r)
    go true = refl
    go false = refl

bind-map : {C : Type 0} (w : Name) (f : Expr → C) (m : Res Expr) → bind m (λ e r. eat w r (λ r'. got (f e) r')) ≡ bind (bind m (λ e r. eat w r (λ r'. got e r'))) (λ e r. got (f e) r)
bind-map w f fail = refl
bind-map w f (got e r) = eat-map w r e f

pub ex-semi : (f : Expr → Stmt) (s : List Name) → ex_semi f s ≡ bind (ex_end s) (λ e r. got (f e) r)
ex-semi f s = bind-map t_semi f (expr s)

-- a name first
pub set_is : {t r : List ℕ} (x : Name) → Ate t_gets t r → name_st x (pieces gap t) ≡ bind (ex_end (pieces gap r)) (λ e q. got (set1 x e) q)
set_is {t} {r} x a = ap (name_st x) a.said ∙ ex-semi (set1 x) (pieces gap r)

pub set-did : {t r q v : List ℕ} {o p z : Row} (x : Name) → AteName x t r → Ate t_gets r q → Did 0 (ex_end (pieces gap q)) (expr_row false) q v o p → Wrote p z (12 ∷ named x) → Did 0 (name_st x (pieces gap r)) stmt_row t v o z
unfolding stmt_row
set-did x n a d w = let u = d.within in let l = w.long in let i = n.less in let j = n.some in record { tree = set1 x d.tree; is = set_is x a ∙ bind-got _ d.tree _ d.is; wrote = wrote-more d.wrote w; within = omega arith; on = omega arith }

expr-name : (x : Name) → is_name x ≡ true → expr (x ∷ []) ≡ got (var x) []
expr-name x e = bind-got (reader.chain 0) (var x) [] (begins reader reader-fixed x [] p_name (look-name x (of_true _ e))) ∙ reader-fixed.chain_is 0 (var x) []

name-other : (x : Name) (s : List Name) → is_name x ≡ true → ate t_gets s ≡ none → ate t_lb s ≡ none → name_st x s ≡ bind (ex_end (x ∷ s)) (λ e r. got (ex1 e) r)
name-other x [] h a b = sym (bind-fail _ (bind-got _ (var x) [] (expr-name x h)))
name-other x (w ∷ s) h a b =
    ap (λ c. pick c (ex_semi (set1 x) s) (pick (same w t_lb) (index_st x s) (ex_semi ex1 (x ∷ w ∷ s)))) (not_same w t_gets s (same w t_gets) refl a)
    ∙ ap (λ c. pick c (index_st x s) (ex_semi ex1 (x ∷ w ∷ s))) (not_same w t_lb s (same w t_lb) refl b)
    ∙ ex-semi ex1 (x ∷ w ∷ s)

pub named_other : {t r : List ℕ} (x : Name) (o p : Row) (res : Result (Bor (List ℕ)) Refused) → AteName x t r → ate t_gets (pieces gap r) ≡ none → ate t_lb (pieces gap r) ≡ none → Parsed 0 (ex_end (pieces gap t)) (λ e. expr_row false e ++ (14 ∷ [])) t o p res → Parsed 0 (name_st x (pieces gap r)) stmt_row t o p res
unfolding stmt_row
named_other {t} {r} x o p (Ok y) n a b d = did_map' ex1 (name-other x (pieces gap r) n.ok a b ∙ ap (λ s. bind (ex_end s) (λ e q. got (ex1 e) q)) (sym n.said)) (λ e. refl) d
named_other {t} {r} x o p (Err y) n a b d = name-other x (pieces gap r) n.ok a b ∙ ap (λ s. bind (ex_end s) (λ e q. got (ex1 e) q)) (sym n.said) ∙ bind-fail _ d

store_is : {t r : List ℕ} (x : Name) (i : Expr) → Ate t_gets t r → store_or x i (pieces gap t) ≡ bind (ex_end (pieces gap r)) (λ e q. got (store1 x i e) q)
store_is {t} {r} x i a = ap (store_or x i) a.said ∙ ex-semi (store1 x i) (pieces gap r)

pub store_did : {t r₁ r₂ r₃ r₄ : List ℕ} {o p q z : Row} (x : Name) → 1 ≤ length x → Did 0 (climb reader 0 (pieces gap t)) (expr_row false) t r₁ o p → Ate t_rb r₁ r₂ → Ate t_gets r₂ r₃ → Did 0 (ex_end (pieces gap r₃)) (expr_row false) r₃ r₄ p q → Wrote q z (13 ∷ named x) → Did (4 * length x) (index_st x (pieces gap t)) stmt_row t r₄ o z
unfolding stmt_row
store_did x h d a b e w =
    let u = d.within in let v = e.within in let l = w.long in
    record { tree = store1 x d.tree e.tree; is = bind-got _ d.tree _ d.is ∙ eat-got t_rb _ a ∙ store_is x d.tree b ∙ bind-got _ e.tree _ e.is; wrote = wrote-more d.wrote (wrote-more e.wrote w); within = omega arith; on = omega arith }

store_other : (x : Name) (i : Expr) (s : List Name) → ate t_gets s ≡ none → store_or x i s ≡ bind (reader.chain 0 (idx x i) s) (λ e r. eat t_semi r (λ r'. got (ex1 e) r'))
store_other x i [] a = sym (bind-got _ (idx x i) [] (reader-fixed.chain_is 0 (idx x i) []))
store_other x i (w ∷ s) a = ap (λ c. pick c (ex_semi (store1 x i) s) (bind (reader.chain 0 (idx x i) (w ∷ s)) (λ e r. eat t_semi r (λ r'. got (ex1 e) r')))) (not_same w t_gets s (same w t_gets) refl a)

pub index_ex_did : {t r₁ r₂ r₃ r₄ : List ℕ} {o p q v z : Row} (x : Name) → 1 ≤ length x → Did 0 (climb reader 0 (pieces gap t)) (expr_row false) t r₁ o p → Ate t_rb r₁ r₂ → ate t_gets (pieces gap r₂) ≡ none → Wrote p q (7 ∷ named x) → Chains 0 r₂ r₃ q v → Ate t_semi r₃ r₄ → Wrote v z (14 ∷ []) → Did (4 * length x) (index_st x (pieces gap t)) stmt_row t r₄ o z
unfolding stmt_row expr_row
index_ex_did {r₂ = r₂} {o = o} {v = v} {z = z} x h d a b f g c w =
    let u₁ = d.within in let u₂ = g.within in let l₁ = f.long in let l₂ = w.long in
    let i : Expr = idx x d.tree in
    let far : Wrote o v (expr_row false (g.tree i)) = subst (Wrote o v) (sym (g.row i)) (wrote-more (wrote-more d.wrote f) g.wrote) in
    record {
      tree = ex1 (g.tree i);
      is = bind-got _ d.tree _ d.is ∙ eat-got t_rb _ a ∙ store_other x d.tree (pieces gap r₂) b ∙ bind-got _ (g.tree i) _ (g.is i) ∙ eat-got t_semi _ c;
      wrote = wrote-more far w;
      within = omega arith;
      on = omega arith;
    }

-- bodies
body_is : (s : List Name) → body s ≡ body_step body s
body_is s = again_is body_step body_well s

pub body_end : {t r : List ℕ} → Ate t_rc t r → body (pieces gap t) ≡ got end (pieces gap r)
body_end {t} {r} a = body_is (pieces gap t) ∙ ap (body_step body) a.said

pub body_more : (s : List Name) → ate t_rc s ≡ none → body s ≡ bind (stmt body s) (λ a r. bind (body r) (λ b r'. got (seq1 a b) r'))
body_more [] e = body_is []
body_more (w ∷ s) e = body_is (w ∷ s) ∙ ap (λ c. pick c (got end s) (bind (stmt body (w ∷ s)) (λ a r. bind (body r) (λ b r'. got (seq1 a b) r')))) (not_same w t_rc s (same w t_rc) refl e)

abbrev pub app : Block → Block → Block
app end b = b
app (seq1 s a) b = seq1 s (app a b)

app-end : (a : Block) → app a end ≡ a
app-end end = refl
app-end (seq1 s a) = ap (seq1 s) (app-end a)

app-on : (a : Block) (s : Stmt) (b : Block) → app a (seq1 s b) ≡ app (app a (seq1 s end)) b
app-on end s b = refl
app-on (seq1 r a) s b = ap (seq1 r) (app-on a s b)

enc_on : (a : Block) (s : Stmt) → block_row (app a (seq1 s end)) ≡ block_row a ++ stmt_row s
unfolding block_row stmt_row
enc_on end s = append-nil (stmt_row s)
enc_on (seq1 r a) s = ap (λ x. stmt_row r ++ x) (enc_on a s) ∙ sym (append_assoc (stmt_row r) (block_row a) (stmt_row s))

-- a body so far
pub record FarBody (s r : List ℕ) (o p : Row) : Type 0 where
  pub front : Block
  pub is : body (pieces gap s) ≡ bind (body (pieces gap r)) (λ b q. got (app front b) q)
  pub wrote : Wrote o p (block_row front)
  pub within : Spent 0 s r o p

same-bind : (m : Res Block) → m ≡ bind m (λ b q. got b q)
same-bind fail = refl
same-bind (got a r) = refl

pub body-none : (s : List ℕ) (o : Row) → FarBody s s o o
unfolding block_row
body-none s o = record { front = end; is = same-bind (body (pieces gap s)); wrote = wrote_none o; within = omega arith }

more-bind : (f : Block) (s : Stmt) (m : Res Block) → bind (bind m (λ b q. got (seq1 s b) q)) (λ b q. got (app f b) q) ≡ bind m (λ b q. got (app (app f (seq1 s end)) b) q)
more-bind f s fail = refl
more-bind f s (got b q) = ap (λ x. got x q) (app-on f s b)

pub body-on : {s r z : List ℕ} {o p v : Row} → FarBody s r o p → ate t_rc (pieces gap r) ≡ none → Did 0 (stmt body (pieces gap r)) stmt_row r z p v → FarBody s z o v
body-on {s} {r} {z} {o} {p} {v} f e d =
    let u = d.within in let w = f.within in
    record {
      front = app f.front (seq1 d.tree end);
      is = f.is ∙ ap (λ m. bind m (λ b y. got (app f.front b) y)) (body_more (pieces gap r) e ∙ bind-got _ d.tree _ d.is) ∙ more-bind f.front d.tree (body (pieces gap z));
      wrote = subst (Wrote o v) (sym (enc_on f.front d.tree)) (wrote-more f.wrote d.wrote);
      within = omega arith;
    }

pub body-did : {s r q : List ℕ} {o p : Row} → FarBody s r o p → Ate t_rc r q → Did 0 (body (pieces gap s)) block_row s q o p
body-did {s} {r} {q} f a =
    let w = f.within in
    record { tree = f.front; is = f.is ∙ bind-got _ end _ (body_end a) ∙ ap (λ x. got x (pieces gap q)) (app-end f.front); wrote = f.wrote; within = omega arith; on = omega arith }

pub body-fail : {s r : List ℕ} {o p : Row} → FarBody s r o p → ate t_rc (pieces gap r) ≡ none → stmt body (pieces gap r) ≡ fail → body (pieces gap s) ≡ fail
body-fail {s} {r} f e h = f.is ∙ bind-fail _ (body_more (pieces gap r) e ∙ bind-fail _ h)

-- no statement is left
pub stmt-nil : (s : List Name) → no_piece s ≡ true → stmt body s ≡ fail
stmt-nil [] e = refl
stmt-nil (w ∷ s) e = let y : ◌≡◌ {A = ℕ} 0 1 = cc in absurd (omega arith)

-- if, else, while
else_none : (s : List Name) → ate k_else s ≡ none → else_b s ≡ got end s
else_none [] e = refl
else_none (w ∷ s) e = ap (λ c. pick c (block body s) (got end (w ∷ s))) (not_same w k_else s (same w k_else) refl e)

pub else_did : (t : List ℕ) (o : Row) → ate k_else (pieces gap t) ≡ none → Did 1 (else_b (pieces gap t)) block_row t t o o
unfolding block_row
else_did t o e = record { tree = end; is = else_none (pieces gap t) e; wrote = wrote_none o; within = omega arith; on = omega arith }

pick-bind : {A C : Type 0} (b : Bool) (m n : Res A) (k : A → List Name → Res C) → pick b (bind m k) (bind n k) ≡ bind (pick b m n) k
pick-bind true m n k = refl
pick-bind false m n k = refl

else_is : (e : Expr) (b : Block) (s : List Name) → else_of body e b s ≡ bind (else_b s) (λ c r. got (if1 e b c) r)
else_is e b [] = refl
else_is e b (w ∷ s) = pick-bind (same w k_else) (block body s) (got end (w ∷ s)) (λ c r. got (if1 e b c) r)

pub if_did : {t r₁ r₂ r₃ r₄ : List ℕ} {o p₁ p₂ p₃ p₄ p₅ p₆ : Row} → Did 0 (climb reader 0 (pieces gap t)) (expr_row false) t r₁ o p₁ → Ate t_lc r₁ r₂ → Wrote p₁ p₂ (16 ∷ []) → Did 0 (body (pieces gap r₂)) block_row r₂ r₃ p₂ p₃ → Wrote p₃ p₄ (17 ∷ []) → Did 1 (else_b (pieces gap r₃)) block_row r₃ r₄ p₄ p₅ → Wrote p₅ p₆ (18 ∷ []) → Did 3 (st_by body l_if [] (pieces gap t)) stmt_row t r₄ o p₆
unfolding stmt_row
if_did {r₃ = r₃} d a w₁ b w₂ c w₃ =
    let u₁ = d.within in let u₂ = b.within in let u₃ = c.within in let l₁ = w₁.long in let l₂ = w₂.long in let l₃ = w₃.long in
    record {
      tree = if1 d.tree b.tree c.tree;
      is = bind-got _ d.tree _ d.is ∙ bind-got _ b.tree _ (eat-got t_lc body a ∙ b.is) ∙ else_is d.tree b.tree (pieces gap r₃) ∙ bind-got _ c.tree _ c.is;
      wrote = wrote-more d.wrote (wrote-more w₁ (wrote-more b.wrote (wrote-more w₂ (wrote-more c.wrote w₃))));
      within = omega arith;
      on = omega arith;
    }

pub while_did : {t r₁ r₂ r₃ : List ℕ} {o p₀ p₁ p₂ p₃ p₄ : Row} → Wrote o p₀ (19 ∷ []) → Did 0 (climb reader 0 (pieces gap t)) (expr_row false) t r₁ p₀ p₁ → Ate t_lc r₁ r₂ → Wrote p₁ p₂ (20 ∷ []) → Did 0 (body (pieces gap r₂)) block_row r₂ r₃ p₂ p₃ → Wrote p₃ p₄ (21 ∷ []) → Did 3 (st_by body l_while [] (pieces gap t)) stmt_row t r₃ o p₄
unfolding stmt_row
while_did w₀ d a w₁ b w₂ =
    let u₁ = d.within in let u₂ = b.within in let l₁ = w₁.long in let l₂ = w₂.long in let l₃ = w₀.long in
    record {
      tree = while1 d.tree b.tree;
      is = bind-got _ d.tree _ d.is ∙ bind-got _ b.tree _ (eat-got t_lc body a ∙ b.is);
      wrote = wrote-more w₀ (wrote-more d.wrote (wrote-more w₁ (wrote-more b.wrote w₂)));
      within = omega arith;
      on = omega arith;
    }

-- a statement by its first word
pub st_is : {t r : List ℕ} (k : code.Lead) (f : LeadFirst k t r) → stmt body (pieces gap t) ≡ st_by body (lead_of k) f.word (pieces gap r)
st_is {t} {r} k f = ap (stmt body) f.said ∙ ap (λ l. st_by body l f.word (pieces gap r)) f.is

pub st_other : (s : List Name) → head_lead s ≡ l_other → stmt body s ≡ bind (ex_end s) (λ e r. got (ex1 e) r)
st_other [] e = sym (bind-fail _ (bind-fail _ (bind-fail _ (reader-fixed.one_is []))))
st_other (w ∷ s) e = ap (λ l. st_by body l w s) e ∙ ex-semi ex1 (w ∷ s)

pub st_semi : {t r : List ℕ} (o p : Row) (res : Result (Bor (List ℕ)) Refused) (k : code.Lead) (f : LeadFirst k t r) (c : Expr → Stmt) (tag : ℕ) → st_by body (lead_of k) f.word (pieces gap r) ≡ ex_semi c (pieces gap r) → ((e : Expr) → expr_row false e ++ (tag ∷ []) ≡ stmt_row (c e)) → Parsed 0 (ex_end (pieces gap r)) (λ e. expr_row false e ++ (tag ∷ [])) r o p res → Parsed 0 (stmt body (pieces gap t)) stmt_row t o p res
st_semi {t} {r} o p res k f c tag e g a =
    let l = f.less in let m = f.some in
    parsed-map (ex_end (pieces gap r)) (stmt body (pieces gap t)) (λ e. expr_row false e ++ (tag ∷ [])) stmt_row r t o p res 0 0 c (st_is k f ∙ e ∙ ex-semi c (pieces gap r)) g (omega arith) (omega arith) a

pub st_out : (e : Expr) → expr_row false e ++ (15 ∷ []) ≡ stmt_row (out1 e)
unfolding stmt_row
st_out e = refl

pub st_ret : (e : Expr) → expr_row false e ++ (22 ∷ []) ≡ stmt_row (ret1 e)
unfolding stmt_row
st_ret e = refl

pub st_just : {t r : List ℕ} (o p : Row) (res : Result (Bor (List ℕ)) Refused) (k : code.Lead) (f : LeadFirst k t r) (c : Stmt) (tag : ℕ) → st_by body (lead_of k) f.word (pieces gap r) ≡ eat t_semi (pieces gap r) (λ q. got c q) → tag ∷ [] ≡ stmt_row c → Parsed 0 (semi (pieces gap r)) (λ e. tag ∷ []) r o p res → Parsed 0 (stmt body (pieces gap t)) stmt_row t o p res
st_just {t} {r} o p res k f c tag e g a =
    let l = f.less in let m = f.some in
    parsed-map (semi (pieces gap r)) (stmt body (pieces gap t)) (λ e. tag ∷ []) stmt_row r t o p res 0 0 (λ u. c) (st_is k f ∙ e ∙ eat-map t_semi (pieces gap r) tt (λ u. c)) (λ u. g) (omega arith) (omega arith) a

pub st_break : 23 ∷ [] ≡ stmt_row break1
unfolding stmt_row
st_break = refl

pub st_next : 24 ∷ [] ≡ stmt_row next1
unfolding stmt_row
st_next = refl

pub st_ex : (t : List ℕ) (o p : Row) (res : Result (Bor (List ℕ)) Refused) → head_lead (pieces gap t) ≡ l_other → Parsed 0 (ex_end (pieces gap t)) (λ e. expr_row false e ++ (14 ∷ [])) t o p res → Parsed 0 (stmt body (pieces gap t)) stmt_row t o p res
unfolding stmt_row
st_ex t o p (Ok x) h a = did_map' ex1 (st_other (pieces gap t) h) (λ e. refl) a
st_ex t o p (Err x) h a = st_other (pieces gap t) h ∙ bind-fail _ a
