-- What the code sees a piece as, against the model's table.
use Rattle.std.proofs.Common.{◌≡◌, ℕ, ◌+◌, ◌<◌, ◌≤◌, Bool, true, false, nat_eq, not, ◌&&◌, ◌||◌, T, eqb, leb, ◌⊎◌, List, [], ◌∷◌, length, sym, refl, ap, ◌∙◌, subst, inl, inr, arith, leb→le, Bor, eq-eqb}
use Rattle.std.specs.Cmp.Lexicographic.{pointwise, same_text}
use mathlib.Core.Option.{Option, some, none}
use Rattle.pieces.specs.declared.seen.Look.{Look}
use Rattle.pieces.specs.declared.seen.Look.TheVariants.{Num, Named, Tie, Minus, Before, OpenRound, ShutRound, OpenSquare, Comma, Len, Call, In, Other, End}
use Rattle.pieces.specs.declared.piece.Piece as cut
use Rattle.pieces.specs.declared.piece.Piece.TheVariants as cuts
use Rattle.pieces.specs.declared.piece.Piece.TheVariants.{Word, Text, Sign, Pair, Bad}
use Rattle.language.specs.Syntax.{pick, Name, same}
use Rattle.grammar.specs.Text.{pieces, gap, word_byte, word_bytes, is_name, decimal}
use Rattle.grammar.specs.Parse.{p_name, p_other, look, Entry, find, fixed, num_of}
use Rattle.pieces.specs.Cutting.{Cut, Sane}
use Rattle.pieces.specs.Seen.{piece_of, class, keep, Fine, Looks, LooksAs, First, Nothing, Seen, ate, is_no_name, Signy}
use Rattle.grammar.proofs.PieceKinds.{false_of, same-eq, look-name}

pub of_true : (b : Bool) → b ≡ true → T b
of_true b e = rw e tt

-- a line of another class is never the one
drop1 : {A : Type 0} (n : ℕ) (v f : A) (w k : Name) (b : Bool) → same w k ≡ b → class w ≡ n → eqb n (class k) ≡ false → pick b v f ≡ f
drop1 n v f w k true q e h = let z : true ≡ false = sym (eq-eqb n (class k) (sym e ∙ ap class (same-eq w k (of_true _ q)))) ∙ h in let y : ◌≡◌ {A = ℕ} 0 1 = cc in absurd (omega arith)
drop1 n v f w k false q e h = refl

keep1 : {A : Type 0} (d : A) (n : ℕ) (x : Entry A) (es fs : List (Entry A)) (w : Name) (b : Bool) → class w ≡ n → eqb n (class x.key) ≡ b → find d es w ≡ find d fs w → find d (x ∷ es) w ≡ find d (pick b (x ∷ fs) fs) w
keep1 d n x es fs w true e q ih = ap (pick (same w x.key) x.val) ih
keep1 d n x es fs w false e q ih = drop1 n x.val (find d es w) w x.key (same w x.key) refl e q ∙ ih

pub find-keep : {A : Type 0} (d : A) (n : ℕ) (es : List (Entry A)) (w : Name) → class w ≡ n → find d es w ≡ find d (keep n es) w
find-keep d n [] w e = refl
find-keep d n (x ∷ es) w e = keep1 d n x es (keep n es) w (eqb n (class x.key)) e refl (find-keep d n es w e)

or_r : (a b : Bool) → (a || b) ≡ false → b ≡ false
or_r true b e = let y : ◌≡◌ {A = ℕ} 0 1 = cc in absurd (omega arith)
or_r false b e = e

and_f : (a : Bool) → (a && false) ≡ false
and_f true = refl
and_f false = refl

pub digit-no : (a : ℕ) → word_byte a ≡ false → (leb 48 a && leb a 57) ≡ false
digit-no a e = or_r (eqb a 95) _ (or_r (leb 65 a && leb a 90) _ (or_r (leb 97 a && leb a 122) _ e))

pick-none : (b : Bool) → pick {A = Option ℕ} b none none ≡ none
pick-none true = refl
pick-none false = refl

pub num-no : (w : Name) → decimal 0 w ≡ none → num_of w ≡ none
num-no w e = rw e (pick-none _)

pub name-no : (x : Name) → word_bytes x ≡ false → is_name x ≡ false
name-no x e = rw e (ap (λ b. leb 1 (length x) && b) (and_f (leb (length x) 32)) ∙ and_f (leb 1 (length x)))

-- neither a number nor a name
pub look_else : (w : Name) → num_of w ≡ none → is_name w ≡ false → look w ≡ find p_other fixed w
unfolding look
look_else w e f = rw (e, f)

look-class : (w : Name) (n : ℕ) → num_of w ≡ none → is_name w ≡ false → class w ≡ n → look w ≡ find p_other (keep n fixed) w
look-class w n e f g = look_else w e f ∙ find-keep p_other n fixed w g

pub look-sign : (a : ℕ) → word_byte a ≡ false → look (a ∷ []) ≡ find p_other (keep 1 fixed) (a ∷ [])
look-sign a h = look-class (a ∷ []) 1 (num-no (a ∷ []) (rw (digit-no a h))) (name-no (a ∷ []) (rw h)) (rw h)

pub look_pair : (a b : ℕ) → word_byte a ≡ false → look (a ∷ b ∷ []) ≡ find p_other (keep 2 fixed) (a ∷ b ∷ [])
look_pair a b h = look-class (a ∷ b ∷ []) 2 (num-no (a ∷ b ∷ []) (rw (digit-no a h))) (name-no (a ∷ b ∷ []) (rw h)) (rw h)

pub look_text : (w : Name) → Looks Other (34 ∷ w)
look_text w = record { is = look_else (34 ∷ w) (num-no (34 ∷ w) refl) (name-no (34 ∷ w) refl); fine = tt }

pub look_bad : Looks Other (35 ∷ [])
look_bad = record { is = look_else (35 ∷ []) refl refl; fine = tt }

pub look-word : (w : Name) → word_bytes w ≡ true → num_of w ≡ none → is_name w ≡ false → look w ≡ find p_other (keep 0 fixed) w
look-word w h e f = look-class w 0 e f (rw h)

pub looks_num : (w : Name) (n : ℕ) → num_of w ≡ some n → n < 10000000000 → Looks (Num n) w
unfolding look
looks_num w n e h = record { is = rw e; fine = h }

-- from what was cut
one : {t r : List ℕ} (k : Look) (x : Name) → Looks k x → pieces gap t ≡ x ∷ pieces gap r → 1 ≤ length x → length x + length r ≤ length t → First k t r
one k x a s h l = record { word = x; said = s; is = a.is; fine = a.fine; less = omega arith; some = h }

firsts : {t r : List ℕ} (k : Look) (p : cut.Piece) → LooksAs k p → Cut t p r → (k ≡ End → ⊥) → First k t r
firsts k (Word w) a c n = one k w.now a c.said c.sane.1 c.less
firsts k (Text w) a c n = let l = c.less in one k (34 ∷ w.now) a c.said (omega arith) (omega arith)
firsts k (Sign d) a c n = one k (d ∷ []) a c.said (omega arith) c.less
firsts k (Pair d b) a c n = one k (d ∷ b ∷ []) a c.said (omega arith) c.less
firsts k Bad a c n = one k (35 ∷ []) a c.said (omega arith) c.less
firsts k cuts.End a c n = absurd (n a)

ends : {t r : List ℕ} (p : cut.Piece) → LooksAs End p → Cut t p r → Nothing t r
ends (Word w) a c = absurd a.fine
ends (Text w) a c = absurd a.fine
ends (Sign d) a c = absurd a.fine
ends (Pair d b) a c = absurd a.fine
ends Bad a c = absurd a.fine
ends {t} {r} cuts.End a c = let l = c.less in record { said = c.said ∙ ap (pieces gap) c.placed; less = omega arith }

pub seen_by : {t r : List ℕ} (k : Look) (p : cut.Piece) → LooksAs k p → Cut t p r → Seen k t r
seen_by (Num n) p a c = firsts (Num n) p a c (λ e. let y : ◌≡◌ {A = ℕ} 0 1 = cc in omega arith)
seen_by (Named w) p a c = firsts (Named w) p a c (λ e. let y : ◌≡◌ {A = ℕ} 0 1 = cc in omega arith)
seen_by (Tie o) p a c = firsts (Tie o) p a c (λ e. let y : ◌≡◌ {A = ℕ} 0 1 = cc in omega arith)
seen_by Minus p a c = firsts Minus p a c (λ e. let y : ◌≡◌ {A = ℕ} 0 1 = cc in omega arith)
seen_by (Before o) p a c = firsts (Before o) p a c (λ e. let y : ◌≡◌ {A = ℕ} 0 1 = cc in omega arith)
seen_by OpenRound p a c = firsts OpenRound p a c (λ e. let y : ◌≡◌ {A = ℕ} 0 1 = cc in omega arith)
seen_by ShutRound p a c = firsts ShutRound p a c (λ e. let y : ◌≡◌ {A = ℕ} 0 1 = cc in omega arith)
seen_by OpenSquare p a c = firsts OpenSquare p a c (λ e. let y : ◌≡◌ {A = ℕ} 0 1 = cc in omega arith)
seen_by Comma p a c = firsts Comma p a c (λ e. let y : ◌≡◌ {A = ℕ} 0 1 = cc in omega arith)
seen_by Len p a c = firsts Len p a c (λ e. let y : ◌≡◌ {A = ℕ} 0 1 = cc in omega arith)
seen_by Call p a c = firsts Call p a c (λ e. let y : ◌≡◌ {A = ℕ} 0 1 = cc in omega arith)
seen_by In p a c = firsts In p a c (λ e. let y : ◌≡◌ {A = ℕ} 0 1 = cc in omega arith)
seen_by Other p a c = firsts Other p a c (λ e. let y : ◌≡◌ {A = ℕ} 0 1 = cc in omega arith)
seen_by End p a c = ends p a c

pub sign_looks : {p : cut.Piece} (k : Look) (a : ℕ) → p ≡ Sign a → Sane p → piece_of k ≡ find p_other (keep 1 fixed) (a ∷ []) → Fine k (a ∷ []) → LooksAs k p
sign_looks {p} k a e s f g = subst (LooksAs k) (sym e) (record { is = look-sign a (subst Sane e s) ∙ sym f; fine = g })

pub pair_looks : {p : cut.Piece} (k : Look) (a b : ℕ) → p ≡ Pair a b → Sane p → piece_of k ≡ find p_other (keep 2 fixed) (a ∷ b ∷ []) → Fine k (a ∷ b ∷ []) → LooksAs k p
pair_looks {p} k a b e s f g = subst (LooksAs k) (sym e) (record { is = look_pair a b (subst Sane e s) ∙ sym f; fine = g })

pub other_looks : (p : cut.Piece) → ((w : Bor (List ℕ)) → p ≡ Word w → ⊥) → ((a : ℕ) → p ≡ Sign a → ⊥) → ((a b : ℕ) → p ≡ Pair a b → ⊥) → (p ≡ cuts.End → ⊥) → LooksAs Other p
other_looks (Word w) n m o q = absurd (n w refl)
other_looks (Text w) n m o q = look_text w.now
other_looks (Sign d) n m o q = absurd (m d refl)
other_looks (Pair d b) n m o q = absurd (o d b refl)
other_looks Bad n m o q = look_bad
other_looks cuts.End n m o q = absurd (q refl)

-- a word that is no number and no name
pub word_at : (w v : Name) (k : Look) → true ≡ pointwise nat_eq w v → num_of v ≡ none → is_name v ≡ false → find p_other fixed v ≡ piece_of k → Fine k w → Looks k w
word_at w v k e f g h i = record { is = ap look (same_text w v e) ∙ look_else v f g ∙ h; fine = i }

pub word-other : (w : Name) → word_bytes w ≡ true → num_of w ≡ none → false ≡ is_name w → find p_other (keep 0 fixed) w ≡ p_other → Looks Other w
word-other w h e f g = record { is = look-word w h e (sym f) ∙ g; fine = tt }

and_l : (a b : Bool) → (a && b) ≡ true → a ≡ true
and_l true b e = refl
and_l false b e = let y : ◌≡◌ {A = ℕ} 0 1 = cc in absurd (omega arith)

and_r : (a b : Bool) → (a && b) ≡ true → b ≡ true
and_r true b e = e
and_r false b e = let y : ◌≡◌ {A = ℕ} 0 1 = cc in absurd (omega arith)

pub ok-short : (x : Name) → is_name x ≡ true → length x ≤ 32
ok-short x e = leb→le _ _ (of_true _ (and_l (leb (length x) 32) _ (and_r (leb 1 (length x)) _ e)))

pub looks_name : (w : Bor (List ℕ)) → true ≡ is_name w.now → Looks (Named w) w.now
looks_name w e = record { is = look-name w.now (of_true _ (sym e)); fine = (refl, sym e, ok-short w.now (sym e)) }

-- a sign that is wanted does not stand first
pub same-no : (x w : Name) → (x ≡ w → ⊥) → same x w ≡ false
same-no x w f = false_of _ (go (same x w) refl)
  where
    go : (b : Bool) → same x w ≡ b → T (not b)
    go true q = absurd (f (same-eq x w (of_true _ q)))
    go false q = tt

ate-no : (x w : Name) (s : List Name) → (x ≡ w → ⊥) → ate w (x ∷ s) ≡ none
ate-no x w s f = rw (same-no x w f)

pub ate-none : {t r : List ℕ} (c : ℕ) (p : cut.Piece) → Cut t p r → Signy c → (p ≡ Sign c → ⊥) → ate (c ∷ []) (pieces gap t) ≡ none
ate-none {t} {r} c (Word w) k l n = rw k.said (ate-no w.now (c ∷ []) (pieces gap r) (λ e. let a = k.sane.0 in let b = ap word_bytes e ∙ ap (λ x. x && true) l.0 in let y : ◌≡◌ {A = ℕ} 0 1 = cc in omega arith))
ate-none {t} {r} c (Text w) k l n = rw k.said (ate-no (34 ∷ w.now) (c ∷ []) (pieces gap r) (λ e. let f : 34 ≡ c = cc in let g = ap (λ x. eqb x 34) f ∙ l.1 in let y : ◌≡◌ {A = ℕ} 0 1 = cc in omega arith))
ate-none {t} {r} c (Sign d) k l n = rw k.said (ate-no (d ∷ []) (c ∷ []) (pieces gap r) (λ e. let f : d ≡ c = cc in n (ap Sign f)))
ate-none {t} {r} c (Pair d b) k l n = rw k.said (ate-no (d ∷ b ∷ []) (c ∷ []) (pieces gap r) (λ e. let y : ◌≡◌ {A = ℕ} 0 1 = cc in omega arith))
ate-none {t} {r} c Bad k l n = rw k.said (ate-no (35 ∷ []) (c ∷ []) (pieces gap r) (λ e. let f : 35 ≡ c = cc in let g = ap (λ x. eqb x 35) f ∙ l.2 in let y : ◌≡◌ {A = ℕ} 0 1 = cc in omega arith))
ate-none c cuts.End k l n = rw (k.said, k.placed)

pub other_sign : (p : cut.Piece) (a c : ℕ) → p ≡ Sign a → (a ≡ c → ⊥) → p ≡ Sign c → ⊥
other_sign p a c e n f = let g : a ≡ c = cc in n g

-- whatever it is seen as
pub seen-any : {t r : List ℕ} (k : Look) → Seen k t r → First k t r ⊎ Nothing t r
seen-any (Num n) a = inl a
seen-any (Named w) a = inl a
seen-any (Tie o) a = inl a
seen-any Minus a = inl a
seen-any (Before o) a = inl a
seen-any OpenRound a = inl a
seen-any ShutRound a = inl a
seen-any OpenSquare a = inl a
seen-any Comma a = inl a
seen-any Len a = inl a
seen-any Call a = inl a
seen-any In a = inl a
seen-any Other a = inl a
seen-any End a = inr a

not_name : (k : Look) → ((w : Bor (List ℕ)) → k ≡ Named w → ⊥) → piece_of k ≡ p_name → ⊥
not_name (Num n) f e = let y : ◌≡◌ {A = ℕ} 0 1 = cc in omega arith
not_name (Named w) f e = f w refl
not_name (Tie o) f e = let y : ◌≡◌ {A = ℕ} 0 1 = cc in omega arith
not_name Minus f e = let y : ◌≡◌ {A = ℕ} 0 1 = cc in omega arith
not_name (Before o) f e = let y : ◌≡◌ {A = ℕ} 0 1 = cc in omega arith
not_name OpenRound f e = let y : ◌≡◌ {A = ℕ} 0 1 = cc in omega arith
not_name ShutRound f e = let y : ◌≡◌ {A = ℕ} 0 1 = cc in omega arith
not_name OpenSquare f e = let y : ◌≡◌ {A = ℕ} 0 1 = cc in omega arith
not_name Comma f e = let y : ◌≡◌ {A = ℕ} 0 1 = cc in omega arith
not_name Len f e = let y : ◌≡◌ {A = ℕ} 0 1 = cc in omega arith
not_name Call f e = let y : ◌≡◌ {A = ℕ} 0 1 = cc in omega arith
not_name In f e = let y : ◌≡◌ {A = ℕ} 0 1 = cc in omega arith
not_name Other f e = let y : ◌≡◌ {A = ℕ} 0 1 = cc in omega arith
not_name End f e = let y : ◌≡◌ {A = ℕ} 0 1 = cc in omega arith

not-ok : (x : Name) (b : Bool) → is_name x ≡ b → (look x ≡ p_name → ⊥) → not b ≡ true
not-ok x true e f = absurd (f (look-name x (of_true _ e)))
not-ok x false e f = refl

pub no_name : {t r : List ℕ} (k : Look) → First k t r ⊎ Nothing t r → ((w : Bor (List ℕ)) → k ≡ Named w → ⊥) → is_no_name (pieces gap t) ≡ true
no_name k (inl a) n = rw a.said (not-ok a.word (is_name a.word) refl (λ e. not_name k n (sym a.is ∙ e)))
no_name k (inr a) n = rw a.said

pub seen_at : {k : Look} (t r : List ℕ) (j : Look) → k ≡ j → Seen k t r → Seen j t r
seen_at t r j e a = subst (λ (x : Look). Seen x t r) e a

pub ate-no-other : {t r : List ℕ} (w : Name) (p : cut.Piece) → word_bytes w ≡ true → Cut t p r → ((v : Bor (List ℕ)) → p ≡ Word v → ⊥) → ate w (pieces gap t) ≡ none
ate-no-other w (Word x) h c n = absurd (n x refl)
ate-no-other {t} {r} w (Text x) h c n = rw c.said (ate-no (34 ∷ x.now) w (pieces gap r) (λ e. let f = ap word_bytes e in let y : ◌≡◌ {A = ℕ} 0 1 = cc in omega arith))
ate-no-other {t} {r} w (Sign d) h c n = rw c.said (ate-no (d ∷ []) w (pieces gap r) (λ e. let f = ap word_bytes e in let g = ap (λ x. x && true) c.sane in let y : ◌≡◌ {A = ℕ} 0 1 = cc in omega arith))
ate-no-other {t} {r} w (Pair d b) h c n = rw c.said (ate-no (d ∷ b ∷ []) w (pieces gap r) (λ e. let f = ap word_bytes e in let g = ap (λ x. x && (word_byte b && true)) c.sane in let y : ◌≡◌ {A = ℕ} 0 1 = cc in omega arith))
ate-no-other {t} {r} w Bad h c n = rw c.said (ate-no (35 ∷ []) w (pieces gap r) (λ e. let f = ap word_bytes e in let y : ◌≡◌ {A = ℕ} 0 1 = cc in omega arith))
ate-no-other w cuts.End h c n = rw (c.said, c.placed)
