-- The steps of the code that reads expressions, against the model parser.
use Rattle.std.proofs.Common.{◌≡◌, ℕ, suc, ◌+◌, ◌-◌, ◌*◌, ◌/◌, ◌%◌, ◌≤◌, Bool, true, false, not, ◌⊎◌, List, [], ◌∷◌, ◌++◌, length, Ok, Err, Result, sym, refl, ap, ◌∙◌, subst, inl, inr, append_assoc, append-nil, add-one, arith, Bor}
use mathlib.Core.Option.{some, none}
use Rattle.rows.specs.declared.row.Row.{Row}
use Rattle.pieces.specs.declared.refused.Refused.{Refused}
use Rattle.pieces.specs.declared.seen.Look.{Look}
use Rattle.pieces.specs.declared.seen.Look.TheVariants.{Num, Named, Tie, Minus, Before, OpenRound, ShutRound, OpenSquare, Comma, Len, Call, In, Other, End}
use Rattle.pieces.specs.declared.seen.Op.{Op}
use Rattle.pieces.specs.declared.seen.Unary.{Unary}
use Rattle.language.specs.Syntax.{pick, Name, same, Expr, num, var, bin, un, and1, or1, idx, len, call, by_table, input, Exprs, no, and_then}
use Rattle.grammar.specs.Text.{pieces, gap, is_name, t_lp, t_rp, t_lb, t_rb, t_comma}
use Rattle.grammar.specs.Parse as parse
use Rattle.grammar.specs.Parse.{Piece, p_num, p_name, p_op, p_minus, p_before, p_lp, p_rp, p_lb, p_comma, p_len, p_call, p_in, p_other, look, after, a_none, go_on, Go, g_more, g_end, g_none, o_or, o_and, o_bin, join, Res, fail, got, bind, eat, eat_name, climb, behind, args_by, args_of, next_by, named, name, signed, start, reader}
use Rattle.pieces.specs.Seen.{level_of, op_of, piece_of, First, Nothing, ate, is_no_name, Ate, AteName, Tied}
use Rattle.rows.specs.Has as has
use Rattle.rows.specs.Row.{Wrote}
use Rattle.rows.specs.Nodes.{expr_row, args_row, count}
use Rattle.bodies.specs.Outcome.{mid, post, Spent, Did, Parsed, DidArgs, Marked}
use Rattle.grammar.proofs.PieceKinds.{same_refl, Means, look-means}
use Rattle.grammar.proofs.ExprSound.{GoMeans, go-means}
use Rattle.grammar.proofs.ExprFuel.{reader-fixed}
use Rattle.grammar.proofs.ExprComplete.{begins}
use Rattle.rows.proofs.Writing.{wrote-more, wrote_none}

-- the model's steps
pub bind-fail : {A C : Type 0} {m : Res A} (k : A → List Name → Res C) → m ≡ fail → bind m k ≡ fail
bind-fail k e = ap (λ x. bind x k) e

pub bind-got : {A C : Type 0} {m : Res A} (k : A → List Name → Res C) (a : A) (r : List Name) → m ≡ got a r → bind m k ≡ k a r
bind-got k a r e = ap (λ x. bind x k) e

pub not_same : (x w : Name) (s : List Name) (b : Bool) → same x w ≡ b → pick b (some s) none ≡ none → b ≡ false
not_same x w s true e f = let y : ◌≡◌ {A = ℕ} 0 1 = cc in absurd (omega arith)
not_same x w s false e f = refl

pub eat-fail : {C : Type 0} (w : Name) (s : List Name) (k : List Name → Res C) → ate w s ≡ none → eat w s k ≡ fail
eat-fail w [] k e = refl
eat-fail w (x ∷ s) k e = rw (not_same x w s (same x w) refl e)

pub eat-got : {C : Type 0} {t r : List ℕ} (w : Name) (k : List Name → Res C) → Ate w t r → eat w (pieces gap t) k ≡ k (pieces gap r)
eat-got w k a = rw (a.said, same_refl w)

pub name-fail : {C : Type 0} (s : List Name) (k : Name → List Name → Res C) → is_no_name s ≡ true → eat_name s k ≡ fail
name-fail [] k e = refl
name-fail (x ∷ s) k e = go (is_name x) e
  where
    go : (b : Bool) → not b ≡ true → pick b (k x s) fail ≡ fail
    go true f = let y : ◌≡◌ {A = ℕ} 0 1 = cc in absurd (omega arith)
    go false f = refl

pub name-got : {C : Type 0} {t r : List ℕ} (x : Name) (k : Name → List Name → Res C) → AteName x t r → eat_name (pieces gap t) k ≡ k x (pieces gap r)
name-got x k a = rw (a.said, a.ok)

-- len and in
pub length-did : {t r₁ r₂ r₃ : List ℕ} {o p : Row} (x : Name) → Ate t_lp t r₁ → AteName x r₁ r₂ → Ate t_rp r₂ r₃ → Wrote o p (8 ∷ has.named x) → Did 0 (start reader [] p_len (pieces gap t)) (expr_row false) t r₃ o p
unfolding expr_row
length-did x a b c w = let l = w.long in record { tree = len x; is = eat-got t_lp _ a ∙ name-got x _ b ∙ eat-got t_rp _ c; wrote = w; within = omega arith; on = omega arith }

pub length-no-name : {t r : List ℕ} → Ate t_lp t r → is_no_name (pieces gap r) ≡ true → start reader [] p_len (pieces gap t) ≡ fail
length-no-name {t} {r} a e = eat-got t_lp _ a ∙ name-fail (pieces gap r) _ e

pub input-did : {t r₁ r₂ : List ℕ} {o p : Row} → Ate t_lp t r₁ → Ate t_rp r₁ r₂ → Wrote o p (11 ∷ []) → Did 0 (start reader [] p_in (pieces gap t)) (expr_row false) t r₂ o p
unfolding expr_row
input-did a c w = let l = w.long in record { tree = input; is = eat-got t_lp _ a ∙ eat-got t_rp _ c; wrote = w; within = omega arith; on = omega arith }

-- what stands first
pub one-is : {t r : List ℕ} (k : Look) (f : First k t r) → reader.one (pieces gap t) ≡ start reader f.word (piece_of k) (pieces gap r)
one-is k f = ap reader.one f.said ∙ begins reader reader-fixed f.word _ (piece_of k) f.is

pub did_more : {A : Type 0} {m n : Res A} {row : A → List ℕ} {s t r : List ℕ} {o p : Row} (d e : ℕ) → n ≡ m → length s + (1 - e) ≤ length t → d + 4 * length s ≤ e + 4 * length t → Did d m row s r o p → Did e n row t r o p
did_more d e q h k a = let u = a.within in let v = a.on in record { tree = a.tree; is = q ∙ a.is; wrote = a.wrote; within = omega arith; on = omega arith }

pub started : {t r : List ℕ} (o p : Row) (d : ℕ) (k : Look) (f : First k t r) (res : Result (Bor (List ℕ)) Refused) → d ≤ 4 * length f.word → Parsed d (start reader f.word (piece_of k) (pieces gap r)) (expr_row false) r o p res → Parsed 0 (reader.one (pieces gap t)) (expr_row false) t o p res
started o p d k f (Ok x) h a = let l = f.less in let m = f.some in did_more d 0 (one-is k f) (omega arith) (omega arith) a
started o p d k f (Err y) h a = one-is k f ∙ a

pub num-did : {t r : List ℕ} {o p : Row} (n : ℕ) → First (Num n) t r → Wrote o p (0 ∷ (n % 4294967296) ∷ (n / 4294967296) ∷ []) → Did 0 (reader.one (pieces gap t)) (expr_row false) t r o p
unfolding expr_row
num-did n f w = let l = w.long in let m = f.some in let j = f.less in record { tree = num n; is = one-is (Num n) f; wrote = w; within = omega arith; on = omega arith }

no_start : (k : Look) (x : Name) (s : List Name) → ((n : ℕ) → k ≡ Num n → ⊥) → ((w : Bor (List ℕ)) → k ≡ Named w → ⊥) → (k ≡ Minus → ⊥) → ((o : Unary) → k ≡ Before o → ⊥) → (k ≡ OpenRound → ⊥) → (k ≡ Len → ⊥) → (k ≡ Call → ⊥) → (k ≡ In → ⊥) → start reader x (piece_of k) s ≡ fail
no_start (Num n) x s a b c d e f g h = absurd (a n refl)
no_start (Named w) x s a b c d e f g h = absurd (b w refl)
no_start (Tie o) x s a b c d e f g h = refl
no_start Minus x s a b c d e f g h = absurd (c refl)
no_start (Before o) x s a b c d e f g h = absurd (d o refl)
no_start OpenRound x s a b c d e f g h = absurd (e refl)
no_start ShutRound x s a b c d e f g h = refl
no_start OpenSquare x s a b c d e f g h = refl
no_start Comma x s a b c d e f g h = refl
no_start Len x s a b c d e f g h = absurd (f refl)
no_start Call x s a b c d e f g h = absurd (g refl)
no_start In x s a b c d e f g h = absurd (h refl)
no_start Other x s a b c d e f g h = refl
no_start End x s a b c d e f g h = refl

pub one_none : {t r : List ℕ} (k : Look) → First k t r ⊎ Nothing t r → ((n : ℕ) → k ≡ Num n → ⊥) → ((w : Bor (List ℕ)) → k ≡ Named w → ⊥) → (k ≡ Minus → ⊥) → ((o : Unary) → k ≡ Before o → ⊥) → (k ≡ OpenRound → ⊥) → (k ≡ Len → ⊥) → (k ≡ Call → ⊥) → (k ≡ In → ⊥) → reader.one (pieces gap t) ≡ fail
one_none {t} {r} k (inl x) a b c d e f g h = one-is k x ∙ no_start k x.word (pieces gap r) a b c d e f g h
one_none k (inr x) a b c d e f g h = ap reader.one x.said ∙ reader-fixed.one_is []

pub signed-did : {t r : List ℕ} {o p q : Row} (n : ℕ) → Did 0 (reader.one (pieces gap t)) (expr_row false) t r o p → Wrote p q (6 ∷ n ∷ []) → Did 2 (signed reader n (pieces gap t)) (expr_row false) t r o q
unfolding expr_row
signed-did n d w = let l = w.long in let u = d.within in let on1 = d.on in record { tree = un n d.tree; is = bind-got _ d.tree _ d.is; wrote = wrote-more d.wrote w; within = omega arith; on = omega arith }

-- a chain so far, from s to r
pub record Far (n : ℕ) (s r : List ℕ) (o p : Row) : Type 0 where
  pub words : List ℕ
  pub tree : Expr → Expr
  pub is : (a : Expr) → reader.chain n a (pieces gap s) ≡ reader.chain n (tree a) (pieces gap r)
  pub row : (a : Expr) → expr_row false (tree a) ≡ expr_row false a ++ words
  pub wrote : Wrote o p words
  pub within : Spent 0 s r o p

pub far_none : (n : ℕ) (s : List ℕ) (o : Row) → Far n s s o o
far_none n s o = record { words = []; tree = λ a. a; is = λ a. refl; row = λ a. sym (append-nil (expr_row false a)); wrote = wrote_none o; within = omega arith }

enc_join : (o : parse.Op) (a b : Expr) → expr_row false (join o a b) ≡ expr_row false a ++ (mid o ++ (expr_row false b ++ post o))
unfolding expr_row
enc_join o_or a b = refl
enc_join o_and a b = refl
enc_join (o_bin o) a b = refl

mid-short : (o : parse.Op) → length (mid o) + length (post o) ≤ 2
mid-short o_or = omega arith
mid-short o_and = omega arith
mid-short (o_bin o) = omega arith

pub far-more : {n : ℕ} {s r q z : List ℕ} {o p p₁ p₂ p₃ : Row} (op : Op) → Far n s r o p → Tied op r q → n ≤ level_of op → Wrote p p₁ (mid (op_of op)) → Did 0 (climb reader (level_of op + 1) (pieces gap q)) (expr_row false) q z p₁ p₂ → Wrote p₂ p₃ (post (op_of op)) → Far n s z o p₃
far-more {n} {s} {r} {q} {z} op f t h u d v =
    let ws : List ℕ = mid (op_of op) ++ (expr_row false d.tree ++ post (op_of op)) in
    let a₁ = u.long in let a₂ = v.long in let a₃ = mid-short (op_of op) in let a₄ = d.within in let a₅ = f.within in let a₆ = t.less in
    record {
      words = f.words ++ ws;
      tree = λ a. join (op_of op) (f.tree a) d.tree;
      is = λ a. f.is a ∙ t.taken n (f.tree a) h ∙ bind-got _ d.tree _ d.is;
      row = λ a. enc_join (op_of op) (f.tree a) d.tree ∙ ap (λ x. x ++ ws) (f.row a) ∙ append_assoc (expr_row false a) f.words ws;
      wrote = wrote-more f.wrote (wrote-more u (wrote-more d.wrote v));
      within = omega arith;
    }

-- behind a name
after_none : (p : Piece) (w : Name) → Means p w → (w ≡ t_lp → ⊥) → (w ≡ t_lb → ⊥) → after p ≡ a_none
after_none (p_num n) w m a b = refl
after_none p_name w m a b = refl
after_none (p_op t) w m a b = refl
after_none p_minus w m a b = refl
after_none (p_before o) w m a b = refl
after_none p_lp w m a b = absurd (a m)
after_none p_rp w m a b = refl
after_none p_lb w m a b = absurd (b m)
after_none p_comma w m a b = refl
after_none p_len w m a b = refl
after_none p_call w m a b = refl
after_none p_in w m a b = refl
after_none p_other w m a b = refl

ate-is : (x w : Name) (s : List Name) → x ≡ w → ate w (x ∷ s) ≡ none → ⊥
ate-is x w s e f = let g = not_same x w s (same x w) refl f in let h = ap (same x) e ∙ g in let i = same_refl x in let y : ◌≡◌ {A = ℕ} 0 1 = cc in omega arith

name-none : (x : Name) (s : List Name) → ate t_lp s ≡ none → ate t_lb s ≡ none → name reader x s ≡ got (var x) s
name-none x [] a b = refl
name-none x (w ∷ s) a b = ap (λ k. named reader x k (w ∷ s) s) (after_none (look w) w (look-means w) (λ e. ate-is w t_lp s e a) (λ e. ate-is w t_lb s e b))

pub name-call : {t r : List ℕ} (x : Name) → Ate t_lp t r → name reader x (pieces gap t) ≡ bind (args_of reader (pieces gap r)) (λ es q. got (call x es) q)
unfolding look
name-call x a = ap (name reader x) a.said

pub name-index : {t r : List ℕ} (x : Name) → Ate t_lb t r → name reader x (pieces gap t) ≡ bind (climb reader 0 (pieces gap r)) (λ e q. eat t_rb q (λ q'. got (idx x e) q'))
unfolding look
name-index x a = ap (name reader x) a.said

pub var-did : {t : List ℕ} {o p : Row} (x : Name) → 1 ≤ length x → ate t_lp (pieces gap t) ≡ none → ate t_lb (pieces gap t) ≡ none → Wrote o p (1 ∷ has.named x) → Did (4 * length x) (name reader x (pieces gap t)) (expr_row false) t t o p
unfolding expr_row
var-did {t} x h a b w = let l = w.long in record { tree = var x; is = name-none x (pieces gap t) a b; wrote = w; within = omega arith; on = omega arith }

pub call-did : {t r q : List ℕ} {k : ℕ} {o p z : Row} (x : Name) → 1 ≤ length x → Ate t_lp t r → DidArgs (args_of reader (pieces gap r)) r q k o p → Wrote p z (9 ∷ k ∷ has.named x) → Did (4 * length x) (name reader x (pieces gap t)) (expr_row false) t q o z
unfolding expr_row
call-did {k = k} {o = o} {z = z} x h a d w =
    let l = w.long in let u = d.did.within in
    record { tree = call x d.did.tree; is = name-call x a ∙ bind-got _ d.did.tree _ d.did.is; wrote = subst (λ (n : ℕ). Wrote o z (args_row d.did.tree ++ (9 ∷ n ∷ has.named x))) (sym d.num) (wrote-more d.did.wrote w); within = omega arith; on = omega arith }

pub index-did : {t r q v : List ℕ} {o p z : Row} (x : Name) → 1 ≤ length x → Ate t_lb t r → Did 0 (climb reader 0 (pieces gap r)) (expr_row false) r q o p → Ate t_rb q v → Wrote p z (7 ∷ has.named x) → Did (4 * length x) (name reader x (pieces gap t)) (expr_row false) t v o z
unfolding expr_row
index-did x h a d b w = let l = w.long in let u = d.within in let on1 = d.on in record { tree = idx x d.tree; is = name-index x a ∙ bind-got _ d.tree _ d.is ∙ eat-got t_rb _ b; wrote = wrote-more d.wrote w; within = omega arith; on = omega arith }

pub index_open : {t r q : List ℕ} {o p : Row} (x : Name) → Ate t_lb t r → Did 0 (climb reader 0 (pieces gap r)) (expr_row false) r q o p → ate t_rb (pieces gap q) ≡ none → name reader x (pieces gap t) ≡ fail
index_open {q = q} x a d e = name-index x a ∙ bind-got _ d.tree _ d.is ∙ eat-fail t_rb (pieces gap q) _ e

pub table-did : {t r₁ r₂ r₃ r₄ r₅ r₆ : List ℕ} {k : ℕ} {o p q z : Row} (x : Name) → AteName x t r₁ → Ate t_lb r₁ r₂ → Did 0 (climb reader 0 (pieces gap r₂)) (expr_row false) r₂ r₃ o p → Ate t_rb r₃ r₄ → Ate t_lp r₄ r₅ → DidArgs (args_of reader (pieces gap r₅)) r₅ r₆ k p q → Wrote q z (10 ∷ k ∷ has.named x) → Did 0 (start reader [] p_call (pieces gap t)) (expr_row false) t r₆ o z
unfolding expr_row
table-did {k = k} {o = o} {z = z} x a b d e f g w =
    let l = w.long in let u = d.within in let on1 = d.on in let v = g.did.within in
    record {
      tree = by_table x d.tree g.did.tree;
      is = name-got x _ a ∙ eat-got t_lb _ b ∙ bind-got _ d.tree _ d.is ∙ eat-got t_rb _ e ∙ eat-got t_lp _ f ∙ bind-got _ g.did.tree _ g.did.is;
      wrote = subst (λ (n : ℕ). Wrote o z (expr_row false d.tree ++ (args_row g.did.tree ++ (10 ∷ n ∷ has.named x)))) (sym g.num) (wrote-more d.wrote (wrote-more g.did.wrote w));
      within = omega arith;
      on = omega arith;
    }

pub table_bare : {t r₁ r₂ r₃ r₄ : List ℕ} {o p : Row} (x : Name) → AteName x t r₁ → Ate t_lb r₁ r₂ → Did 0 (climb reader 0 (pieces gap r₂)) (expr_row false) r₂ r₃ o p → Ate t_rb r₃ r₄ → ate t_lp (pieces gap r₄) ≡ none → start reader [] p_call (pieces gap t) ≡ fail
table_bare {r₄ = r₄} x a b d e f = name-got x _ a ∙ eat-got t_lb _ b ∙ bind-got _ d.tree _ d.is ∙ eat-got t_rb _ e ∙ eat-fail t_lp (pieces gap r₄) _ f

-- arguments
go-none : (g : Go) (w : Name) → GoMeans g w → (w ≡ t_comma → ⊥) → (w ≡ t_rp → ⊥) → g ≡ g_none
go-none g_more w m a b = absurd (a m)
go-none g_end w m a b = absurd (b m)
go-none g_none w m a b = refl

pub args-fail : (s : List Name) → ate t_rp s ≡ none → ate t_comma s ≡ none → reader.args s ≡ fail
args-fail [] a b = reader-fixed.args_is []
args-fail (w ∷ s) a b = reader-fixed.args_is (w ∷ s) ∙ ap (λ g. next_by reader g s) (go-none (go_on (look w)) w (go-means (look w) w (look-means w)) (λ e. ate-is w t_comma s e b) (λ e. ate-is w t_rp s e a))

pub args_end : {t r : List ℕ} → Ate t_rp t r → reader.args (pieces gap t) ≡ got no (pieces gap r)
unfolding look
args_end a = ap reader.args a.said ∙ reader-fixed.args_is _

pub args_comma : {t r : List ℕ} → Ate t_comma t r → reader.args (pieces gap t) ≡ bind (climb reader 0 (pieces gap r)) (behind reader)
unfolding look
args_comma a = ap reader.args a.said ∙ reader-fixed.args_is _

pub args_of_end : {t r : List ℕ} → Ate t_rp t r → args_of reader (pieces gap t) ≡ got no (pieces gap r)
unfolding look
args_of_end a = ap (args_of reader) a.said

by-more : (g : Go) (w : Name) (s : List Name) → GoMeans g w → (w ≡ t_rp → ⊥) → args_by reader g (w ∷ s) s ≡ bind (climb reader 0 (w ∷ s)) (behind reader)
by-more g_more w s m b = refl
by-more g_end w s m b = absurd (b m)
by-more g_none w s m b = refl

pub args_of_more : (s : List Name) → ate t_rp s ≡ none → args_of reader s ≡ bind (climb reader 0 s) (behind reader)
args_of_more [] a = sym (bind-fail _ (bind-fail _ (reader-fixed.one_is [])))
args_of_more (w ∷ s) a = by-more (go_on (look w)) w s (go-means (look w) w (look-means w)) (λ e. ate-is w t_rp s e a)

-- an expression that has become an argument
row-long : (e : Expr) → length (expr_row true e) ≡ length (expr_row false e)
unfolding expr_row
row-long (num n) = refl
row-long (var x) = refl
row-long (bin o e f) = refl
row-long (un o e) = refl
row-long (and1 e f) = refl
row-long (or1 e f) = refl
row-long (idx x e) = refl
row-long (len x) = refl
row-long (call x es) = refl
row-long (by_table x e es) = refl
row-long input = refl

pub arg_did : {m : Res Expr} {s r : List ℕ} {o p q : Row} → Did 0 m (expr_row false) s r o p → Marked o.len p q → Did 0 m (expr_row true) s r o q
arg_did {o = o} d h =
    let w = h o d.tree refl d.wrote in
    let l = w.long in let k = d.wrote.long in let u = d.within in let z = row-long d.tree in
    record { tree = d.tree; is = d.is; wrote = w; within = omega arith; on = d.on }

-- one list of arguments behind another
abbrev pub app : Exprs → Exprs → Exprs
app no es = es
app (and_then e fs) es = and_then e (app fs es)

app-no : (fs : Exprs) → app fs no ≡ fs
app-no no = refl
app-no (and_then e fs) = ap (and_then e) (app-no fs)

app-on : (fs : Exprs) (e : Expr) (es : Exprs) → app fs (and_then e es) ≡ app (app fs (and_then e no)) es
app-on no e es = refl
app-on (and_then f fs) e es = ap (and_then f) (app-on fs e es)

args-row-on : (fs : Exprs) (e : Expr) → args_row (app fs (and_then e no)) ≡ args_row fs ++ (expr_row true) e
unfolding expr_row args_row
args-row-on no e = append-nil (expr_row true e)
args-row-on (and_then f fs) e = ap (λ x. expr_row true f ++ x) (args-row-on fs e) ∙ sym (append_assoc (expr_row true f) (args_row fs) (expr_row true e))

count-on : (fs : Exprs) (e : Expr) → count (app fs (and_then e no)) ≡ suc (count fs)
count-on no e = refl
count-on (and_then f fs) e = ap suc (count-on fs e)

-- arguments so far
pub record FarArgs (s r : List ℕ) (k : ℕ) (o p : Row) : Type 0 where
  pub front : Exprs
  pub is : reader.args (pieces gap s) ≡ bind (reader.args (pieces gap r)) (λ es q. got (app front es) q)
  pub wrote : Wrote o p (args_row front)
  pub num : count front ≡ k
  pub few : k + length r ≤ length s
  pub within : Spent 0 s r o p

same-bind : (m : Res Exprs) → m ≡ bind m (λ es q. got es q)
same-bind fail = refl
same-bind (got a r) = refl

pub args_none : (s : List ℕ) (o : Row) → FarArgs s s 0 o o
unfolding args_row
args_none s o = record { front = no; is = same-bind (reader.args (pieces gap s)); wrote = wrote_none o; num = refl; few = omega arith; within = omega arith }

more-bind : (fs : Exprs) (e : Expr) (m : Res Exprs) → bind (bind m (λ es q. got (and_then e es) q)) (λ es q. got (app fs es) q) ≡ bind m (λ es q. got (app (app fs (and_then e no)) es) q)
more-bind fs e fail = refl
more-bind fs e (got es q) = ap (λ x. got x q) (app-on fs e es)

pub args_more : {s r q z : List ℕ} {k : ℕ} {o p v : Row} → FarArgs s r k o p → Ate t_comma r q → Did 0 (climb reader 0 (pieces gap q)) (expr_row true) q z p v → FarArgs s z (k + 1) o v
args_more {s} {r} {q} {z} {k} {o} {p} {v} f a d =
    let u = d.within in let on1 = d.on in let w = f.within in let n = f.few in
    record {
      front = app f.front (and_then d.tree no);
      is = f.is ∙ ap (λ m. bind m (λ es y. got (app f.front es) y)) (args_comma a ∙ bind-got _ d.tree _ d.is) ∙ more-bind f.front d.tree (reader.args (pieces gap z));
      wrote = subst (Wrote o v) (sym (args-row-on f.front d.tree)) (wrote-more f.wrote d.wrote);
      num = count-on f.front d.tree ∙ ap suc f.num ∙ sym (add-one k);
      few = omega arith;
      within = omega arith;
    }

pub args-all : {s r q : List ℕ} {k : ℕ} {o p : Row} → FarArgs s r k o p → Ate t_rp r q → DidArgs (reader.args (pieces gap s)) s q k o p
args-all {s} {r} {q} {k} f a =
    let w = f.within in let n = f.few in
    record { did = record { tree = f.front; is = f.is ∙ bind-got _ no _ (args_end a) ∙ ap (λ x. got x (pieces gap q)) (app-no f.front); wrote = f.wrote; within = omega arith; on = omega arith }; num = f.num }

pub args-refused : {s r : List ℕ} {k : ℕ} {o p : Row} → FarArgs s r k o p → reader.args (pieces gap r) ≡ fail → reader.args (pieces gap s) ≡ fail
args-refused f e = f.is ∙ bind-fail _ e

pub args-zero : {t r : List ℕ} (o : Row) → Ate t_rp t r → DidArgs (args_of reader (pieces gap t)) t r 0 o o
unfolding args_row
args-zero o a = record { did = record { tree = no; is = args_of_end a; wrote = wrote_none o; within = omega arith; on = omega arith }; num = refl }

pub args-some : {t r q : List ℕ} {k : ℕ} {o p v : Row} → ate t_rp (pieces gap t) ≡ none → Did 0 (climb reader 0 (pieces gap t)) (expr_row true) t r o p → DidArgs (reader.args (pieces gap r)) r q k p v → DidArgs (args_of reader (pieces gap t)) t q (k + 1) o v
unfolding args_row
args-some {t} {k = k} e d a =
    let u = d.within in let on1 = d.on in let w = a.did.within in
    record { did = record { tree = and_then d.tree a.did.tree; is = args_of_more (pieces gap t) e ∙ bind-got _ d.tree _ d.is ∙ bind-got _ a.did.tree _ a.did.is; wrote = wrote-more d.wrote a.did.wrote; within = omega arith; on = omega arith }; num = ap suc a.num ∙ sym (add-one k) }

pub args-some-fail : {t r : List ℕ} {o p : Row} → ate t_rp (pieces gap t) ≡ none → Did 0 (climb reader 0 (pieces gap t)) (expr_row true) t r o p → reader.args (pieces gap r) ≡ fail → args_of reader (pieces gap t) ≡ fail
args-some-fail {t} e d f = args_of_more (pieces gap t) e ∙ bind-got _ d.tree _ d.is ∙ bind-fail _ f

pub named_by : {t r : List ℕ} (o p : Row) (x : Bor (List ℕ)) → First (Named x) t r → (res : Result (Bor (List ℕ)) Refused) → Parsed (4 * length x.now) (name reader x.now (pieces gap r)) (expr_row false) r o p res → Parsed 0 (reader.one (pieces gap t)) (expr_row false) t o p res
named_by {t} {r} o p x f res a = started o p (4 * length x.now) (Named x) f res (omega (arith, ap length f.fine.0)) (subst (λ (w : Name). Parsed (4 * length x.now) (name reader w (pieces gap r)) (expr_row false) r o p res) (sym f.fine.0) a)
