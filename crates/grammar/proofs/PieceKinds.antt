-- What a piece is: `look` says p of w just where the relations do. With small laws of tests and of equal names.
-- Rests on Text and Parse; soundness and completeness of the parser begin here.
use mathlib.Core.Path.{◌≡◌, refl, sym, subst}
use mathlib.Core.Bool.{Bool, true, false, ◌&&◌, not}
use mathlib.Core.List.{List, [], ◌∷◌, ◌++◌}
use mathlib.Core.Option.{Option, some, none, none-ne-some, some-injective}
use mathlib.Core.Logic.{◌⊎◌, inl, inr}
use Prim.Native.Nat.{ℕ, suc, ◌<◌}
use lib.ListN.{length}
use lib.Chars.{codes}
use lib.Dec.{leb, eqb, T, eqb→eq, eqb_refl, lit<}
use Rattle.language.specs.Syntax.{pick, opt, Name, same, Expr}
use Rattle.grammar.specs.Text.{k_in, k_len, k_call, t_lp, t_rp, t_lb, t_comma, is_name, decimal, digit_first, word_bytes, IsNumber, Between, plus, minus, times, over, rest, is, isnt, less, most, more, least, both, any, exclusive, left, right, Before, minus_before, not_before, flip_before, IsExpr, or_e, and_e, two_e}
use Rattle.grammar.specs.Parse.{o_or, o_and, o_bin, join, Tie, tie, Piece, p_num, p_name, p_op, p_minus, p_before, p_lp, p_rp, p_lb, p_comma, p_len, p_call, p_in, p_other, Entry, find, fixed, num_of, look, op_of, a_none, after}

-- tests
pub T_of : {b : Bool} → b ≡ true → T b
T_of e = rw e tt

pub true_of : (b : Bool) → T b → b ≡ true
true_of true t = refl
true_of false t = absurd t

pub and_0 : (a b : Bool) → T (a && b) → T a
and_0 true b t = tt
and_0 false b t = t

pub and_1 : (a b : Bool) → T (a && b) → T b
and_1 true b t = t
and_1 false b t = absurd t

pub false_of : (b : Bool) → T (not b) → b ≡ false
false_of true t = absurd t
false_of false t = refl

pub same-eq : (x y : Name) → T (same x y) → x ≡ y
same-eq [] [] t = refl
same-eq [] (y ∷ ys) t = absurd t
same-eq (x ∷ xs) [] t = absurd t
same-eq (x ∷ xs) (y ∷ ys) t =
    let h : x ≡ y = eqb→eq x y (and_0 (eqb x y) _ t) in
    let k : xs ≡ ys = same-eq xs ys (and_1 (eqb x y) _ t) in
    cc

pub same_refl : (x : Name) → same x x ≡ true
same_refl [] = refl
same_refl (x ∷ xs) = rw (true_of _ (eqb_refl x)) (same_refl xs)

-- an operator between two with its tightness, all of one form
pub data Ties : Tie → Name → Type 0 where
  or_t : Ties (tie 0 o_or) (codes "||")
  and_t : Ties (tie 1 o_and) (codes "&&")
  bin_t : {n o : ℕ} {w : Name} → Between n w o → Ties (tie n (o_bin o)) w

pub ties_ex : {t : Tie} {w : Name} {s u : List Name} {a b : Expr} → Ties t w → IsExpr t.lvl s a → IsExpr (suc t.lvl) u b → IsExpr t.lvl (s ++ (w ∷ u)) (join t.op a b)
ties_ex or_t x y = or_e x y
ties_ex and_t x y = and_e x y
ties_ex (bin_t h) x y = two_e x h y

abbrev pub Means : Piece → Name → Type 0
Means (p_num n) w = IsNumber w n
Means p_name w = T (is_name w)
Means (p_op t) w = Ties t w
Means p_minus w = w ≡ codes "-"
Means (p_before o) w = Before w o
Means p_lp w = w ≡ t_lp
Means p_rp w = w ≡ t_rp
Means p_lb w = w ≡ t_lb
Means p_comma w = w ≡ t_comma
Means p_len w = w ≡ k_len
Means p_call w = w ≡ k_call
Means p_in w = w ≡ k_in
Means p_other w = Unit {0}

-- what a table says, if each of its lines is right
abbrev pub Right : {A : Type 0} → (A → Name → Type 0) → List (Entry A) → Type 0
Right M [] = Unit {0}
Right M (e ∷ es) = M e.val e.key × Right M es

pub pick-means : {A : Type 0} (M : A → Name → Type 0) (b : Bool) (p q : A) (w : Name) → (T b → M p w) → (T (not b) → M q w) → M (pick b p q) w
pick-means M true p q w f g = f tt
pick-means M false p q w f g = g tt

pub find-means : {A : Type 0} (M : A → Name → Type 0) (d : A) (es : List (Entry A)) (w : Name) → M d w → Right M es → M (find d es w) w
find-means M d [] w k h = k
find-means M d (e ∷ es) w k h =
    pick-means M (same w e.key) e.val (find d es w) w
    (λ t. subst (M e.val) (sym (same-eq w e.key t)) h.0)
    (λ t. find-means M d es w k h.1)

fixed-right : Right Means fixed
fixed-right = (
  refl,
  (
    refl,
    (
      refl,
      (
        refl,
        (
          refl,
          (
            refl,
            (
              refl,
              (
                refl,
                (
                  not_before,
                  (
                    flip_before,
                    (
                      or_t,
                      (
                        and_t,
                        (
                          bin_t plus,
                          (
                            bin_t times,
                            (
                              bin_t over,
                              (
                                bin_t rest,
                                (bin_t is, (bin_t isnt, (bin_t less, (bin_t most, (bin_t more, (bin_t least, (bin_t both, (bin_t any, (bin_t exclusive, (bin_t left, (bin_t right, tt))))))))))),
                              ),
                            ),
                          ),
                        ),
                      ),
                    ),
                  ),
                ),
              ),
            ),
          ),
        ),
      ),
    ),
  ),
)

-- numbers
pub digits_of : (b : Bool) (w : Name) (n : ℕ) → pick b (decimal 0 w) none ≡ some n → T b × (decimal 0 w ≡ some n)
digits_of true w n h = (tt, h)
digits_of false w n h = absurd (none-ne-some n h)

pick-none : (b : Bool) → pick {A = Option ℕ} b none none ≡ none
pick-none true = refl
pick-none false = refl

name-digits : (x : Name) → T (is_name x) → decimal 0 x ≡ none
name-digits [] t = absurd t
name-digits (c ∷ cs) t =
    let d = and_1 (word_bytes (c ∷ cs)) _ (and_1 (leb (length (c ∷ cs)) 32) _ (and_1 (leb 1 (length (c ∷ cs))) _ t)) in
    rw (false_of (digit_first (c ∷ cs)) (and_0 (not (digit_first (c ∷ cs))) _ d))

pub name-no-num : (x : Name) → T (is_name x) → num_of x ≡ none
name-no-num x t = rw (name-digits x t) (pick-none _)

pub look-means : (w : Name) → Means (look w) w
unfolding look
look-means w = go (num_of w) refl
  where
    go : (o : Option ℕ) → num_of w ≡ o → Means (opt o (pick (is_name w) p_name (find p_other fixed w)) p_num) w
    go none q = pick-means Means (is_name w) p_name (find p_other fixed w) w (λ t. t) (λ t. find-means Means p_other fixed w tt fixed-right)
    go (some n) q = digits_of (leb 1 (length w) && leb (length w) 10) w n q

pub look-num : (w : Name) (n : ℕ) → IsNumber w n → look w ≡ p_num n
unfolding look
look-num w n h = rw (true_of _ h.0, h.1)

pub look-name : (x : Name) → T (is_name x) → look x ≡ p_name
unfolding look
look-name x t = rw (name-no-num x t, true_of _ t)

pub look-before : {w : Name} {o : ℕ} → Before w o → (look w ≡ p_before o) ⊎ ((look w ≡ p_minus) × (o ≡ 0))
unfolding look
look-before minus_before = inr (refl, refl)
look-before not_before = inl refl
look-before flip_before = inl refl

-- an operator between two is seen as such, and only those of the relation are
pub ties_look : {t : Tie} {w : Name} → Ties t w → op_of (look w) ≡ some t
unfolding look
ties_look or_t = refl
ties_look and_t = refl
ties_look (bin_t plus) = refl
ties_look (bin_t minus) = refl
ties_look (bin_t times) = refl
ties_look (bin_t over) = refl
ties_look (bin_t rest) = refl
ties_look (bin_t is) = refl
ties_look (bin_t isnt) = refl
ties_look (bin_t less) = refl
ties_look (bin_t most) = refl
ties_look (bin_t more) = refl
ties_look (bin_t least) = refl
ties_look (bin_t both) = refl
ties_look (bin_t any) = refl
ties_look (bin_t exclusive) = refl
ties_look (bin_t left) = refl
ties_look (bin_t right) = refl

pub ties_low : {t : Tie} {w : Name} → Ties t w → t.lvl < 8
ties_low or_t = lit< tt
ties_low and_t = lit< tt
ties_low (bin_t plus) = lit< tt
ties_low (bin_t minus) = lit< tt
ties_low (bin_t times) = lit< tt
ties_low (bin_t over) = lit< tt
ties_low (bin_t rest) = lit< tt
ties_low (bin_t is) = lit< tt
ties_low (bin_t isnt) = lit< tt
ties_low (bin_t less) = lit< tt
ties_low (bin_t most) = lit< tt
ties_low (bin_t more) = lit< tt
ties_low (bin_t least) = lit< tt
ties_low (bin_t both) = lit< tt
ties_low (bin_t any) = lit< tt
ties_low (bin_t exclusive) = lit< tt
ties_low (bin_t left) = lit< tt
ties_low (bin_t right) = lit< tt

-- and it opens nothing behind a name
pub ties_after : {t : Tie} {w : Name} → Ties t w → after (look w) ≡ a_none
unfolding look
ties_after or_t = refl
ties_after and_t = refl
ties_after (bin_t plus) = refl
ties_after (bin_t minus) = refl
ties_after (bin_t times) = refl
ties_after (bin_t over) = refl
ties_after (bin_t rest) = refl
ties_after (bin_t is) = refl
ties_after (bin_t isnt) = refl
ties_after (bin_t less) = refl
ties_after (bin_t most) = refl
ties_after (bin_t more) = refl
ties_after (bin_t least) = refl
ties_after (bin_t both) = refl
ties_after (bin_t any) = refl
ties_after (bin_t exclusive) = refl
ties_after (bin_t left) = refl
ties_after (bin_t right) = refl

look_ties : (p : Piece) (w : Name) (t : Tie) → Means p w → op_of p ≡ some t → Ties t w
look_ties (p_op u) w t m e = subst (λ v. Ties v w) (some-injective u t e) m
look_ties p_minus w t m e = subst (λ v. Ties v w) (some-injective _ t e) (rw m (bin_t minus))
look_ties (p_num n) w t m e = absurd (none-ne-some t e)
look_ties p_name w t m e = absurd (none-ne-some t e)
look_ties (p_before o) w t m e = absurd (none-ne-some t e)
look_ties p_lp w t m e = absurd (none-ne-some t e)
look_ties p_rp w t m e = absurd (none-ne-some t e)
look_ties p_lb w t m e = absurd (none-ne-some t e)
look_ties p_comma w t m e = absurd (none-ne-some t e)
look_ties p_len w t m e = absurd (none-ne-some t e)
look_ties p_call w t m e = absurd (none-ne-some t e)
look_ties p_in w t m e = absurd (none-ne-some t e)
look_ties p_other w t m e = absurd (none-ne-some t e)

pub tie-of : (w : Name) (t : Tie) → op_of (look w) ≡ some t → Ties t w
tie-of w t e = look_ties (look w) w t (look-means w) e
