-- Values, bindings and states that fit their declarations, and hold small words where that is asked: what a call, an assignment
-- and a store keep. The invariant (Good) that Safe carries through every run.
use mathlib.Core.Path.{◌≡◌, refl, sym, ◌∙◌, ap, ap₂, subst}
use mathlib.Core.Bool.{Bool, true, false, ◌&&◌, ◌||◌}
use mathlib.Core.List.{List, [], ◌∷◌, ◌++◌, append_assoc}
use mathlib.Core.Logic.{◌⊎◌, inl, inr, ⊎_elim}
use mathlib.Core.Option.{Option, some, none}
use Prim.Native.Nat.{ℕ, zero, suc, ◌+◌, ◌%◌, ◌<◌}
use native.Mathlib.Omega.{arith}
use native.Mathlib.Nat.{le_of_suc-le-suc, not-suc-le-zero, mod-lt}
use lib.ListN.{length, take, replicate, length-append, length-replicate}
use lib.Dec.{T, lit<, leb→le, eqb, leb, eqb→eq}
use Rattle.language.specs.Syntax.{pick, opt, nth, put, Name, same, listed, Kind, k_word, k_arr, Param, Arr, Fn, Prog}
use Rattle.language.specs.Meaning.{on_some, or_else, Cells, all_words, all_arrays, Value, word, array, Bind, State, get_b, set_b, with_vars, with_words, with_arrays, bind_params, bind_vars, bind_arrs, new_arrs, enter, back}
use Rattle.language.specs.Checks.{same_k, in_params, in_arrs, is_kind, sizes}
use Rattle.language.specs.Words.{all}
use Rattle.language.specs.Laws.{Each}

-- tests
pub is_true : {b : Bool} → b ≡ true → T b
is_true e = subst T (sym e) tt

pub both : (a b : Bool) → T (a && b) → T a × T b
both true b h = (tt, h)
both false b h = absurd h

pub opt_true : {A : Type 0} (o : Option A) (k : A → Bool) → T (opt o false k) → (x : A) × (o ≡ some x) × T (k x)
opt_true none k h = absurd h
opt_true (some x) k h = (x, refl, h)

pub same-eq : (x y : Name) → T (same x y) → x ≡ y
same-eq [] [] h = refl
same-eq [] (b ∷ y) h = absurd h
same-eq (a ∷ x) [] h = absurd h
same-eq (a ∷ x) (b ∷ y) h =
    let e : a ≡ b = eqb→eq a b (both (eqb a b) (same x y) h).0 in
    let d : x ≡ y = same-eq x y (both (eqb a b) (same x y) h).1 in
    cc

pub same_kind : (j k : Kind) → T (same_k j k) → j ≡ k
same_kind k_word k_word h = refl
same_kind k_word (k_arr w) h = absurd h
same_kind (k_arr w) k_word h = absurd h
same_kind (k_arr true) (k_arr true) h = refl
same_kind (k_arr true) (k_arr false) h = absurd h
same_kind (k_arr false) (k_arr true) h = absurd h
same_kind (k_arr false) (k_arr false) h = refl

pub kind_true : (o : Option Kind) (k : Kind) → T (is_kind o k) → o ≡ some k
kind_true none k h = absurd h
kind_true (some j) k h = ap some (same_kind j k h)

pub absurd_some : {A B : Type 0} {x : A} → none ≡ some x → B
absurd_some {A} {B} {x} h = let z : ◌≡◌ {A = ℕ} 0 1 = cc in absurd (let y : ⊥ = omega arith in y)

pub some_is : {A : Type 0} {x y : A} → some x ≡ some y → x ≡ y
some_is e = cc

-- places in lists
module _ {A : Type 0} where
  pub nth_left : (xs ys : List A) (a : ℕ) (w : A) → nth xs a ≡ some w → nth (xs ++ ys) a ≡ some w
  nth_left [] ys a w e = absurd_some e
  nth_left (x ∷ xs) ys zero w e = e
  nth_left (x ∷ xs) ys (suc a) w e = nth_left xs ys a w e

  pub nth_at : (xs ys : List A) (w : A) → nth (xs ++ (w ∷ ys)) (length xs) ≡ some w
  nth_at [] ys w = refl
  nth_at (x ∷ xs) ys w = nth_at xs ys w

  pub nth_lt : (xs : List A) (i : ℕ) → i < length xs → (x : A) × (nth xs i ≡ some x)
  nth_lt [] i h = absurd (not-suc-le-zero h)
  nth_lt (x ∷ xs) zero h = (x, refl)
  nth_lt (x ∷ xs) (suc i) h = nth_lt xs i (le_of_suc-le-suc h)

  pub length-put : (xs : List A) (i : ℕ) (v : A) → length (put xs i v) ≡ length xs
  length-put [] i v = refl
  length-put (x ∷ xs) zero v = refl
  length-put (x ∷ xs) (suc i) v = ap suc (length-put xs i v)

-- an array's width and size, which never change
pub record Shape : Type 0 where
  pub wide : Bool
  pub size : ℕ

unfoldable pub shape : List Cells → List Shape
shape [] = []
shape (c ∷ cs) = record { wide = c.wide; size = length c.cells } ∷ shape cs

module _ {A : Type 0} (P : A → Type 0) where
  pub each_++ : (xs ys : List A) → Each P xs → Each P ys → Each P (xs ++ ys)
  each_++ [] ys h g = g
  each_++ (x ∷ xs) ys h g = (h.0, each_++ xs ys h.1 g)

  pub each_nth : (xs : List A) (i : ℕ) (x : A) → Each P xs → nth xs i ≡ some x → P x
  each_nth [] i x h e = absurd_some e
  each_nth (y ∷ xs) zero x h e = subst P (some_is e) h.0
  each_nth (y ∷ xs) (suc i) x h e = each_nth xs i x h.1 e

  pub each_put : (xs : List A) (i : ℕ) (x : A) → Each P xs → P x → Each P (put xs i x)
  each_put [] i x h g = tt
  each_put (y ∷ xs) zero x h g = (g, h.1)
  each_put (y ∷ xs) (suc i) x h g = (h.0, each_put xs i x h.1 g)

  pub each_take : (n : ℕ) (xs : List A) → Each P xs → Each P (take n xs)
  each_take zero xs h = tt
  each_take (suc n) [] h = tt
  each_take (suc n) (x ∷ xs) h = (h.0, each_take n xs h.1)

  pub each_replicate : (n : ℕ) (x : A) → P x → Each P (replicate n x)
  each_replicate zero x h = tt
  each_replicate (suc n) x h = (h, each_replicate n x h)

pub each_map : {A : Type 0} {P Q : A → Type 0} → ((x : A) → P x → Q x) → (xs : List A) → Each P xs → Each Q xs
each_map f [] h = tt
each_map f (x ∷ xs) h = (f x h.0, each_map f xs h.1)

-- words are below 2^32, where all that is read is (the flag says so); bytes always are
abbrev pub Small : Bool → ℕ → Type 0
Small true n = n < all
Small false n = Unit {0}

pub small : (q : Bool) (n : ℕ) → n < all → Small q n
small true n h = h
small false n h = tt

abbrev pub Cell : Bool → Bool → ℕ → Type 0
Cell q true n = Small q n
Cell q false n = n < 256

abbrev pub CellsOk : Bool → Cells → Type 0
CellsOk q k = Each (Cell q k.wide) k.cells

abbrev pub ValueSmall : Bool → Value → Type 0
ValueSmall q (word n) = Small q n
ValueSmall q (array a) = Unit {0}

-- all words of a state
pub record AllSmall (q : Bool) (s : State) : Type 0 where
  pub words : Each (Small q) s.words
  pub cells : Each (CellsOk q) s.arrays
  pub vars : Each (λ b. ValueSmall q b.val) s.vars
  pub ins : Each (Small q) s.ins
  pub outs : Each (Small q) s.outs

pub record Room : Type 0 where
  pub strict : Bool
  pub shapes : List Shape

-- a value of a kind, where there are arrays of these widths
abbrev pub Has : Room → Value → Kind → Type 0
Has r (word n) k_word = Small r.strict n
Has r (word n) (k_arr w) = ⊥
Has r (array a) k_word = ⊥
Has r (array a) (k_arr w) = (m : ℕ) × (nth r.shapes a ≡ some (record { wide = w; size = m }))

abbrev pub Fitting : Room → Option Value → Option Kind → Type 0
Fitting sh none none = Unit {0}
Fitting sh none (some k) = ⊥
Fitting sh (some v) none = ⊥
Fitting sh (some v) (some k) = Has sh v k

abbrev pub HasAll : Room → List Value → List Param → Type 0
HasAll sh [] [] = Unit {0}
HasAll sh [] (q ∷ qs) = ⊥
HasAll sh (v ∷ vs) [] = ⊥
HasAll sh (v ∷ vs) (q ∷ qs) = Has sh v q.kind × HasAll sh vs qs

abbrev pub «local» : Fn → Name → Option Kind
«local» g x = or_else (in_params g.params x) (or_else (pick (listed x g.vars) (some k_word) none) (in_arrs g.arrs x))

pub record Ctx : Type 0 where
  pub file : Name
  pub fn : Fn
  pub sh : Room

pub record Good (p : Prog) (c : Ctx) (s : State) : Type 0 where
  pub words_are : length s.words ≡ all_words p
  pub arrays_are : shape s.arrays ≡ c.sh.shapes
  pub vars_are : (x : Name) → Fitting c.sh (get_b s.vars x) («local» c.fn x)
  pub base : (a : ℕ) (z : Shape) → nth (shape (all_arrays p)) a ≡ some z → nth c.sh.shapes a ≡ some z
  pub sizes_are : Each (λ z. z.size < all) c.sh.shapes
  pub smalls : AllSmall c.sh.strict s

-- looking a name up
pub or_cases : {A : Type 0} {x : A} (a b : Option A) → or_else a b ≡ some x → (a ≡ some x) ⊎ (b ≡ some x)
or_cases none b e = inr e
or_cases (some y) b e = inl e

pub some_then : {A C : Type 0} {y : C} (o : Option A) (k : A → Option C) → on_some o k ≡ some y → (x : A) × (o ≡ some x) × (k x ≡ some y)
some_then none k e = absurd_some e
some_then (some x) k e = (x, refl, e)

pub or_assoc : {A : Type 0} (a b c d : Option A) → or_else a (or_else b (or_else c d)) ≡ or_else (or_else a (or_else b c)) d
or_assoc none none c d = refl
or_assoc none (some y) c d = refl
or_assoc (some x) b c d = refl

pub fitting_or : (sh : Room) (a b : Option Value) (j k : Option Kind) → Fitting sh a j → Fitting sh b k → Fitting sh (or_else a b) (or_else j k)
fitting_or sh none b none k h g = g
fitting_or sh none b (some j) k h g = absurd h
fitting_or sh (some v) b none k h g = absurd h
fitting_or sh (some v) b (some j) k h g = h

abbrev pub Finds : Room → Option Value → Kind → Type 0
Finds sh o k = (v : Value) × (o ≡ some v) × Has sh v k

pub finds_or :
    (sh : Room) (a : Option Value) (j : Option Kind) (b : Option Value) (l : Option Kind) (k : Kind) → Fitting sh a j → (l ≡ some k → Finds sh b k) →
    or_else j l ≡ some k → Finds sh (or_else a b) k
finds_or sh none none b l k h g e = g e
finds_or sh none (some j) b l k h g e = absurd h
finds_or sh (some v) none b l k h g e = absurd h
finds_or sh (some v) (some j) b l k h g e = (v, refl, subst (Has sh v) (some_is e) h)

-- a test that both sides make
pub pick1 : {A : Type 0} (P : A → Type 0) (t : Bool) {a b : A} → P a → P b → P (pick t a b)
pick1 P true h g = h
pick1 P false h g = g

pub pick2 : {A C : Type 0} (P : A → C → Type 0) (t : Bool) {a b : A} {c d : C} → P a c → P b d → P (pick t a b) (pick t c d)
pick2 P true h g = h
pick2 P false h g = g

pub get_b_++ : (a b : List Bind) (x : Name) → get_b (a ++ b) x ≡ or_else (get_b a x) (get_b b x)
get_b_++ [] b x = refl
get_b_++ (c ∷ a) b x = pick2 (λ u v. u ≡ or_else v (get_b b x)) (same c.name x) refl (get_b_++ a b x)

-- what a call binds
pub fit-params :
    (sh : Room) (qs : List Param) (vs : List Value) (x : Name) → HasAll sh vs qs → Fitting sh (get_b (bind_params qs vs) x) (in_params qs x)
fit-params sh [] [] x h = tt
fit-params sh [] (v ∷ vs) x h = absurd h
fit-params sh (q ∷ qs) [] x h = absurd h
fit-params sh (q ∷ qs) (v ∷ vs) x h = pick2 (Fitting sh) (same q.name x) h.0 (fit-params sh qs vs x h.1)

var_or :
    (sh : Room) (t l : Bool) (o : Option Value) → Fitting sh o (pick l (some k_word) none) →
    Fitting sh (pick t (some (word 0)) o) (pick (t || l) (some k_word) none)
var_or sh true l o h = small sh.strict 0 (lit< tt)
var_or sh false l o h = h

pub fit-vars : (sh : Room) (xs : List Name) (x : Name) → Fitting sh (get_b (bind_vars xs) x) (pick (listed x xs) (some k_word) none)
fit-vars sh [] x = tt
fit-vars sh (y ∷ xs) x = var_or sh (same y x) (listed x xs) (get_b (bind_vars xs) x) (fit-vars sh xs x)

pub snoc_length : {A : Type 0} (pre : List A) (w : A) (n : ℕ) → length pre ≡ n → length (pre ++ (w ∷ [])) ≡ n + 1
snoc_length pre w n e = length-append pre (w ∷ []) ∙ ap (λ k. k + 1) e

pub fit-arrs :
    (sh : Room) (as₁ : List Arr) (n : ℕ) (pre : List Shape) (x : Name) → sh.shapes ≡ pre ++ shape (new_arrs as₁) → length pre ≡ n →
    Fitting sh (get_b (bind_arrs as₁ n) x) (in_arrs as₁ x)
unfolding shape
fit-arrs sh [] n pre x e l = tt
fit-arrs sh (a ∷ as₁) n pre x e l =
    let z : Shape = record { wide = a.wide; size = length (replicate a.size 0) } in
    pick2 (Fitting sh) (same a.name x) (length (replicate a.size 0), ap₂ nth e (sym l) ∙ nth_at pre (shape (new_arrs as₁)) z) (fit-arrs sh as₁ (n + 1) (pre ++ (z ∷ [])) x (e ∙ sym (append_assoc pre (z ∷ []) (shape (new_arrs as₁)))) (snoc_length pre z n l))

pub shape_++ : (a b : List Cells) → shape (a ++ b) ≡ shape a ++ shape b
unfolding shape
shape_++ [] b = refl
shape_++ (c ∷ a) b = ap (λ l. record { wide = c.wide; size = length c.cells } ∷ l) (shape_++ a b)

pub shape-take : (n : ℕ) (a : List Cells) → shape (take n a) ≡ take n (shape a)
unfolding shape
shape-take zero a = refl
shape-take (suc n) [] = refl
shape-take (suc n) (c ∷ a) = ap (λ l. record { wide = c.wide; size = length c.cells } ∷ l) (shape-take n a)

pub take-front : {A : Type 0} (xs ys : List A) → take (length xs) (xs ++ ys) ≡ xs
take-front [] ys = refl
take-front (x ∷ xs) ys = ap (λ l. x ∷ l) (take-front xs ys)

pub shape-length : (a : List Cells) → length (shape a) ≡ length a
unfolding shape
shape-length [] = refl
shape-length (c ∷ a) = ap suc (shape-length a)

abbrev pub more : Room → List Shape → Room
more r l = record { strict = r.strict; shapes = r.shapes ++ l }

pub has_more : (sh : Room) (l : List Shape) (v : Value) (k : Kind) → Has sh v k → Has (more sh l) v k
has_more sh l (word n) k_word h = h
has_more sh l (word n) (k_arr w) h = absurd h
has_more sh l (array a) k_word h = absurd h
has_more sh l (array a) (k_arr w) h = (h.0, nth_left sh.shapes l a _ h.1)

pub has-all-more : (sh : Room) (l : List Shape) (vs : List Value) (qs : List Param) → HasAll sh vs qs → HasAll (more sh l) vs qs
has-all-more sh l [] [] h = tt
has-all-more sh l [] (q ∷ qs) h = absurd h
has-all-more sh l (v ∷ vs) [] h = absurd h
has-all-more sh l (v ∷ vs) (q ∷ qs) h = (has_more sh l v q.kind h.0, has-all-more sh l vs qs h.1)

abbrev pub inside : Name → Fn → Ctx → Ctx
inside f g c = record { file = f; fn = g; sh = more c.sh (shape (new_arrs g.arrs)) }

pub zero-cell : (q w : Bool) → Cell q w 0
zero-cell q true = small q 0 (lit< tt)
zero-cell q false = lit< tt

new-cells : (q : Bool) (as₁ : List Arr) → Each (CellsOk q) (new_arrs as₁)
new-cells q [] = tt
new-cells q (a ∷ as₁) = (each_replicate (Cell q a.wide) a.size 0 (zero-cell q a.wide), new-cells q as₁)

new-sizes : (as₁ : List Arr) → T (sizes 4096 as₁) → Each (λ z. z.size < all) (shape (new_arrs as₁))
unfolding shape
new-sizes [] t = tt
new-sizes (a ∷ as₁) t =
    let d = both (leb a.size 4096) (sizes 4096 as₁) (both (leb 1 a.size) (leb a.size 4096 && sizes 4096 as₁) t).1 in
    let l = leb→le a.size 4096 d.0 in
    (omega (arith, length-replicate {A = ℕ} a.size 0), new-sizes as₁ d.1)

value-small : (sh : Room) (v : Value) (k : Kind) → Has sh v k → ValueSmall sh.strict v
value-small sh (word n) k_word h = h
value-small sh (word n) (k_arr w) h = absurd h
value-small sh (array a) k h = tt

params_small : (sh : Room) (qs : List Param) (vs : List Value) → HasAll sh vs qs → Each (λ b. ValueSmall sh.strict b.val) (bind_params qs vs)
params_small sh [] [] h = tt
params_small sh [] (v ∷ vs) h = absurd h
params_small sh (q ∷ qs) [] h = absurd h
params_small sh (q ∷ qs) (v ∷ vs) h = (value-small sh v q.kind h.0, params_small sh qs vs h.1)

vars-small : (q : Bool) (xs : List Name) → Each (λ b. ValueSmall q b.val) (bind_vars xs)
vars-small q [] = tt
vars-small q (x ∷ xs) = (small q 0 (lit< tt), vars-small q xs)

arrs-small : (q : Bool) (as₁ : List Arr) (n : ℕ) → Each (λ b. ValueSmall q b.val) (bind_arrs as₁ n)
arrs-small q [] n = tt
arrs-small q (a ∷ as₁) n = (tt, arrs-small q as₁ (n + 1))

enter-small :
    (sh : Room) (g : Fn) (vs : List Value) (s : State) → AllSmall sh.strict s → HasAll sh vs g.params → AllSmall sh.strict (enter g vs s)
enter-small sh g vs s h a = record {
  words = h.words;
  cells = each_++ (CellsOk sh.strict) s.arrays (new_arrs g.arrs) h.cells (new-cells sh.strict g.arrs);
  vars = each_++ P (bind_params g.params vs) (bind_vars g.vars ++ bind_arrs g.arrs (length s.arrays)) (params_small sh g.params vs a) (each_++ P (bind_vars g.vars) (bind_arrs g.arrs (length s.arrays)) (vars-small sh.strict g.vars) (arrs-small sh.strict g.arrs (length s.arrays)));
  ins = h.ins;
  outs = h.outs;
}
  where
    P : Bind → Type 0
    P b = ValueSmall sh.strict b.val

pub good-enter :
    (p : Prog) (c : Ctx) (f : Name) (g : Fn) (vs : List Value) (s : State) → T (sizes 4096 g.arrs) → Good p c s → HasAll c.sh vs g.params →
    Good p (inside f g c) (enter g vs s)
good-enter p c f g vs s t h a = record {
  words_are = h.words_are;
  arrays_are = shape_++ s.arrays (new_arrs g.arrs) ∙ ap (λ l. l ++ shape (new_arrs g.arrs)) h.arrays_are;
  vars_are = bound;
  base = λ i w e. nth_left c.sh.shapes (shape (new_arrs g.arrs)) i w (h.base i w e);
  sizes_are = each_++ (λ z. z.size < all) c.sh.shapes (shape (new_arrs g.arrs)) h.sizes_are (new-sizes g.arrs t);
  smalls = enter-small c.sh g vs s h.smalls a;
}
  where
    sh' : Room
    sh' = more c.sh (shape (new_arrs g.arrs))

    bound :
        (x : Name) →
        Fitting sh' (get_b (bind_params g.params vs ++ (bind_vars g.vars ++ bind_arrs g.arrs (length s.arrays))) x) («local» g x)
    bound x = rw (get_b_++ (bind_params g.params vs) (bind_vars g.vars ++ bind_arrs g.arrs (length s.arrays)) x, get_b_++ (bind_vars g.vars) (bind_arrs g.arrs (length s.arrays)) x)
        (fitting_or sh' (get_b (bind_params g.params vs) x) _ (in_params g.params x) _ (fit-params sh' g.params vs x (has-all-more c.sh (shape (new_arrs g.arrs)) vs g.params a))
        (fitting_or sh' (get_b (bind_vars g.vars) x) _ (pick (listed x g.vars) (some k_word) none) _ (fit-vars sh' g.vars x)
        (fit-arrs sh' g.arrs (length s.arrays) c.sh.shapes x refl (ap length (sym h.arrays_are) ∙ shape-length s.arrays))))

pub good-back : (p : Prog) (c : Ctx) (f : Name) (g : Fn) (s t : State) → Good p c s → Good p (inside f g c) t → Good p c (back s t)
good-back p c f g s t h k = record {
  words_are = k.words_are;
  arrays_are = shape-take (length s.arrays) t.arrays ∙ (ap₂ take (sym (shape-length s.arrays) ∙ ap length h.arrays_are) k.arrays_are ∙ take-front c.sh.shapes (shape (new_arrs g.arrs)));
  vars_are = h.vars_are;
  base = h.base;
  sizes_are = h.sizes_are;
  smalls = record {
    words = k.smalls.words;
    cells = each_take (CellsOk c.sh.strict) (length s.arrays) t.arrays k.smalls.cells;
    vars = h.smalls.vars;
    ins = k.smalls.ins;
    outs = k.smalls.outs;
  };
}

-- a name is set
abbrev SetCase : List Bind → List Bind → Name → Value → Name → Type 0
SetCase cs bs x v y = (get_b cs y ≡ get_b bs y) ⊎ ((x ≡ y) × (get_b cs y ≡ some v))

set_here :
    (b : Bind) (bs : List Bind) (x : Name) (v : Value) (y : Name) → b.name ≡ x → (q : Bool) → same x y ≡ q →
    SetCase (record { name = x; val = v } ∷ bs) (b ∷ bs) x v y
set_here b bs x v y d true e = inr (same-eq x y (is_true e), ap (λ t. pick t (some v) (get_b bs y)) e)
set_here b bs x v y d false e = inl (ap (λ t. pick t (some v) (get_b bs y)) e ∙ sym (ap (λ t. pick t (some b.val) (get_b bs y)) (ap (λ z. same z y) d ∙ e)))

set_there :
    (b : Bind) (bs : List Bind) (x : Name) (v : Value) (y : Name) (q : Bool) → SetCase (set_b bs x v) bs x v y →
    (pick q (some b.val) (get_b (set_b bs x v) y) ≡ pick q (some b.val) (get_b bs y)) ⊎ ((x ≡ y) × (pick q (some b.val) (get_b (set_b bs x v) y) ≡ some v))
set_there b bs x v y true ih = inl refl
set_there b bs x v y false ih = ih

set_at :
    (b : Bind) (bs : List Bind) (x : Name) (v : Value) (y : Name) (q : Bool) → same b.name x ≡ q → SetCase (set_b bs x v) bs x v y →
    SetCase (pick q (record { name = x; val = v } ∷ bs) (b ∷ set_b bs x v)) (b ∷ bs) x v y
set_at b bs x v y true e ih = set_here b bs x v y (same-eq b.name x (is_true e)) (same x y) refl
set_at b bs x v y false e ih = set_there b bs x v y (same b.name y) ih

pub get_b_set_b : (bs : List Bind) (x : Name) (v : Value) (y : Name) → (get_b (set_b bs x v) y ≡ get_b bs y) ⊎ ((x ≡ y) × (get_b (set_b bs x v) y ≡ some v))
get_b_set_b [] x v y = inl refl
get_b_set_b (b ∷ bs) x v y = set_at b bs x v y (same b.name x) refl (get_b_set_b bs x v y)

set-small :
    (q : Bool) (bs : List Bind) (x : Name) (n : ℕ) → Each (λ b. ValueSmall q b.val) bs → Small q n →
    Each (λ b. ValueSmall q b.val) (set_b bs x (word n))
set-small q [] x n h w = tt
set-small q (b ∷ bs) x n h w = pick1 (Each (λ b. ValueSmall q b.val)) (same b.name x) (w, h.1) (h.0, set-small q bs x n h.1 w)

pub good-set :
    (p : Prog) (c : Ctx) (s : State) (x : Name) (n : ℕ) → Good p c s → Small c.sh.strict n → «local» c.fn x ≡ some k_word →
    Good p c (with_vars s (set_b s.vars x (word n)))
good-set p c s x n h w e = record {
  words_are = h.words_are;
  arrays_are = h.arrays_are;
  base = h.base;
  vars_are = λ y. ⊎_elim (λ d. rw d (h.vars_are y)) (λ d. rw d.1 (rw (ap («local» c.fn) (sym d.0) ∙ e) w)) (get_b_set_b s.vars x (word n) y);
  sizes_are = h.sizes_are;
  smalls = record {
    words = h.smalls.words;
    cells = h.smalls.cells;
    vars = set-small c.sh.strict s.vars x n h.smalls.vars w;
    ins = h.smalls.ins;
    outs = h.smalls.outs;
  };
}

pub good-words : (p : Prog) (c : Ctx) (s : State) (i n : ℕ) → Good p c s → Small c.sh.strict n → Good p c (with_words s (put s.words i n))
good-words p c s i n h w = record {
  words_are = length-put s.words i n ∙ h.words_are;
  arrays_are = h.arrays_are;
  base = h.base;
  vars_are = h.vars_are;
  sizes_are = h.sizes_are;
  smalls = record {
    words = each_put (Small c.sh.strict) s.words i n h.smalls.words w;
    cells = h.smalls.cells;
    vars = h.smalls.vars;
    ins = h.smalls.ins;
    outs = h.smalls.outs;
  };
}

pub shape-put :
    (cs : List Cells) (a : ℕ) (c d : Cells) → nth cs a ≡ some c → d.wide ≡ c.wide → length d.cells ≡ length c.cells →
    shape (put cs a d) ≡ shape cs
unfolding shape
shape-put [] a c d e w l = refl
shape-put (b ∷ cs) zero c d e w l = ap₂ (λ u v. record { wide = u; size = v } ∷ shape cs) (w ∙ ap (λ z. z.wide) (sym (some_is e))) (l ∙ ap (λ z. length z.cells) (sym (some_is e)))
shape-put (b ∷ cs) (suc a) c d e w l = ap (λ l. record { wide = b.wide; size = length b.cells } ∷ l) (shape-put cs a c d e w l)

put-cell : (q w : Bool) (n : ℕ) → Small q n → Cell q w (pick w n (n % 256))
put-cell q true n h = h
put-cell q false n h = mod-lt n (lit< tt)

abbrev pub stored : Cells → ℕ → ℕ → Cells
stored k i n = record { wide = k.wide; cells = put k.cells i (pick k.wide n (n % 256)) }

pub good-put :
    (p : Prog) (c : Ctx) (s : State) (a i n : ℕ) (k : Cells) → nth s.arrays a ≡ some k → Small c.sh.strict n → Good p c s →
    Good p c (with_arrays s (put s.arrays a (stored k i n)))
good-put p c s a i n k e w h = record {
  words_are = h.words_are;
  arrays_are = shape-put s.arrays a k (stored k i n) e refl (length-put k.cells i _) ∙ h.arrays_are;
  base = h.base;
  vars_are = h.vars_are;
  sizes_are = h.sizes_are;
  smalls = record {
    words = h.smalls.words;
    cells = each_put (CellsOk c.sh.strict) s.arrays a (stored k i n) h.smalls.cells (each_put (Cell c.sh.strict k.wide) k.cells i _ (each_nth (CellsOk c.sh.strict) s.arrays a k h.smalls.cells e) (put-cell c.sh.strict k.wide n w));
    vars = h.smalls.vars;
    ins = h.smalls.ins;
    outs = h.smalls.outs;
  };
}

pub shape-nth :
    (cs : List Cells) (a : ℕ) (z : Shape) → nth (shape cs) a ≡ some z →
    (k : Cells) × (nth cs a ≡ some k) × (z ≡ record { wide = k.wide; size = length k.cells })
unfolding shape
shape-nth [] a w e = absurd_some e
shape-nth (c ∷ cs) zero w e = (c, refl, sym (some_is e))
shape-nth (c ∷ cs) (suc a) w e = shape-nth cs a w e
