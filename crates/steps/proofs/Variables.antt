-- A function's own names: by name in the meaning, by place in the middle language.
use Rattle.std.proofs.Common.{◌≡◌, ℕ, zero, suc, ◌+◌, ◌<◌, ◌≤◌, Bool, true, false, ◌&&◌, eqb, ◌≢◌, List, [], ◌∷◌, ◌++◌, length, take, replicate, sym, refl, ap, ◌∙◌, subst, ap₂, append_assoc, add-zero, arith, length-append, eq-eqb, ne_eqb, eqb-true}
use mathlib.Core.Option.{Option, some, none}
use Rattle.language.specs.Syntax.{pick, nth, put, Name, same, Kind, k_word, k_arr, Param, Arr}
use Rattle.language.specs.Meaning.{Cells, Bind, get_b, set_b, Value, word, array, bind_params, bind_vars, bind_arrs, new_arrs}
use Rattle.steps.specs.Steps.{Places, upd, upto, fresh}
use Rattle.steps.specs.Generate.{Slot, w_slot, a_slot, Ref, r_word, r_arr, find, words_of, slot_of, arr_slots, var_slots, slots_from, shapes_of}

pub upd_same : (ps : Places) (d x : ℕ) → upd ps d x d ≡ some x
unfolding upd
upd_same ps d x = rw (eq-eqb d d refl)

pub upd_other : (ps : Places) (d x i : ℕ) → i ≢ d → upd ps d x i ≡ ps i
unfolding upd
upd_other ps d x i h = rw (ne_eqb i d h)

pub none-some : {A : Type 0} {x : A} → none ≡ some x → ⊥
none-some e = let z : ◌≡◌ {A = ℕ} 0 1 = cc in omega arith

pub some_inj : {A : Type 0} {x y : A} → some x ≡ some y → x ≡ y
some_inj e = cc

pub same_true : (x y : Name) → same x y ≡ true → x ≡ y
same_true [] [] h = refl
same_true [] (y ∷ ys) h = cc
same_true (x ∷ xs) [] h = cc
same_true (x ∷ xs) (y ∷ ys) h = go (eqb x y) refl h (same_true xs ys)
  where
    go : (b : Bool) → eqb x y ≡ b → (b && same xs ys) ≡ true → (same xs ys ≡ true → xs ≡ ys) → (x ∷ xs) ≡ (y ∷ ys)
    go true e k ih = let a = eqb-true x y e in let c = ih k in cc
    go false e k ih = cc

-- a test that both sides make
pub pick2 : {A C : Type 0} (P : A → C → Type 0) (t : Bool) {a b : A} {c d : C} → P a c → P b d → P (pick t a b) (pick t c d)
pick2 P true h g = h
pick2 P false h g = g

-- the widths of arrays, which never change
abbrev pub wides : List Cells → List Bool
wides [] = []
wides (c ∷ cs) = c.wide ∷ wides cs

-- as₁: the arrays of a function's array places; ws: the widths of all arrays
module _ (as₁ : List ℕ) (ws : List Bool) where
  -- the names' values stand at the places from i on, and the array places from j on
  abbrev pub Vars : List Slot → List Bind → ℕ → ℕ → Places → Type 0
  Vars [] [] i j ps = Unit {0}
  Vars [] (b ∷ bs) i j ps = ⊥
  Vars (w_slot x ∷ xs) [] i j ps = ⊥
  Vars (a_slot x w ∷ xs) [] i j ps = ⊥
  Vars (w_slot x ∷ xs) (b ∷ bs) i j ps = (b.name ≡ x) × ((n : ℕ) × (b.val ≡ word n) × (ps i ≡ some n)) × Vars xs bs (suc i) j ps
  Vars (a_slot x w ∷ xs) (b ∷ bs) i j ps = (b.name ≡ x) × ((a : ℕ) × (b.val ≡ array a) × (nth as₁ j ≡ some a) × (nth ws a ≡ some w)) × Vars xs bs i (suc j) ps

  -- what a name's place holds
  abbrev pub Own : Places → Option Ref → Option Value → Type 0
  Own ps none none = Unit {0}
  Own ps none (some v) = ⊥
  Own ps (some r) none = ⊥
  Own ps (some (r_word k)) (some v) = (n : ℕ) × (v ≡ word n) × (ps k ≡ some n)
  Own ps (some (r_arr k w)) (some v) = (a : ℕ) × (v ≡ array a) × (nth as₁ k ≡ some a) × (nth ws a ≡ some w)

abbrev pub Keeps : ℕ → Places → Places → Type 0
Keeps d ps qs = (i : ℕ) → i < d → qs i ≡ ps i

module _ (as₁ : List ℕ) (ws : List Bool) where
  pub vars_keep : (xs : List Slot) (bs : List Bind) (i j d : ℕ) (ps qs : Places) → Keeps d ps qs → i + words_of xs ≤ d → Vars as₁ ws xs bs i j ps → Vars as₁ ws xs bs i j qs
  vars_keep [] [] i j d ps qs k h v = tt
  vars_keep [] (b ∷ bs) i j d ps qs k h v = v
  vars_keep (w_slot x ∷ xs) [] i j d ps qs k h v = v
  vars_keep (a_slot x w ∷ xs) [] i j d ps qs k h v = v
  vars_keep (w_slot x ∷ xs) (b ∷ bs) i j d ps qs k h v = (v.0, (v.1.0, v.1.1, k i (omega arith) ∙ v.1.2), vars_keep xs bs (suc i) j d ps qs k (omega arith) v.2)
  vars_keep (a_slot x w ∷ xs) (b ∷ bs) i j d ps qs k h v = (v.0, v.1, vars_keep xs bs i (suc j) d ps qs k h v.2)

  -- a place before them
  pub vars_out : (xs : List Slot) (bs : List Bind) (i j d : ℕ) (ps : Places) (n : ℕ) → d < i → Vars as₁ ws xs bs i j ps → Vars as₁ ws xs bs i j (upd ps d n)
  vars_out [] [] i j d ps n h v = tt
  vars_out [] (b ∷ bs) i j d ps n h v = v
  vars_out (w_slot x ∷ xs) [] i j d ps n h v = v
  vars_out (a_slot x w ∷ xs) [] i j d ps n h v = v
  vars_out (w_slot x ∷ xs) (b ∷ bs) i j d ps n h v = (v.0, (v.1.0, v.1.1, upd_other ps d n i (omega arith) ∙ v.1.2), vars_out xs bs (suc i) j d ps n (omega arith) v.2)
  vars_out (a_slot x w ∷ xs) (b ∷ bs) i j d ps n h v = (v.0, v.1, vars_out xs bs i (suc j) d ps n h v.2)

  pub var_at : (xs : List Slot) (bs : List Bind) (i j : ℕ) (ps : Places) (x : Name) → Vars as₁ ws xs bs i j ps → Own as₁ ws ps (find xs x i j) (get_b bs x)
  var_at [] [] i j ps x v = tt
  var_at [] (b ∷ bs) i j ps x v = absurd v
  var_at (w_slot y ∷ ys) [] i j ps x v = absurd v
  var_at (a_slot y w ∷ ys) [] i j ps x v = absurd v
  var_at (w_slot y ∷ ys) (b ∷ bs) i j ps x v = rw v.0 (pick2 (Own as₁ ws ps) (same y x) v.1 (var_at ys bs (suc i) j ps x v.2))
  var_at (a_slot y w ∷ ys) (b ∷ bs) i j ps x v = rw v.0 (pick2 (Own as₁ ws ps) (same y x) v.1 (var_at ys bs i (suc j) ps x v.2))

  word_own : (ps : Places) (k : ℕ) (o : Option Value) → Own as₁ ws ps (some (r_word k)) o → (n : ℕ) × (o ≡ some (word n)) × (ps k ≡ some n)
  word_own ps k none v = absurd v
  word_own ps k (some u) v = (v.0, ap some v.1, v.2)

  arr_own1 : (ps : Places) (k : ℕ) (w : Bool) (o : Option Value) → Own as₁ ws ps (some (r_arr k w)) o → (a : ℕ) × (o ≡ some (array a)) × (nth as₁ k ≡ some a) × (nth ws a ≡ some w)
  arr_own1 ps k w none v = absurd v
  arr_own1 ps k w (some u) v = (v.0, ap some v.1, v.2, v.3)

  none_own : (ps : Places) (o : Option Value) → Own as₁ ws ps none o → o ≡ none
  none_own ps none v = refl
  none_own ps (some u) v = absurd v

  module _ (xs : List Slot) (bs : List Bind) (ps : Places) (x : Name) (v : Vars as₁ ws xs bs 0 0 ps) where
    pub var_get : (k : ℕ) → find xs x 0 0 ≡ some (r_word k) → (n : ℕ) × (get_b bs x ≡ some (word n)) × (ps k ≡ some n)
    var_get k e = word_own ps k (get_b bs x) (subst (λ o. Own as₁ ws ps o (get_b bs x)) e (var_at xs bs 0 0 ps x v))

    pub arr_get : (k : ℕ) (w : Bool) → find xs x 0 0 ≡ some (r_arr k w) → (a : ℕ) × (get_b bs x ≡ some (array a)) × (nth as₁ k ≡ some a) × (nth ws a ≡ some w)
    arr_get k w e = arr_own1 ps k w (get_b bs x) (subst (λ o. Own as₁ ws ps o (get_b bs x)) e (var_at xs bs 0 0 ps x v))

    pub var_none : find xs x 0 0 ≡ none → get_b bs x ≡ none
    var_none e = none_own ps (get_b bs x) (subst (λ o. Own as₁ ws ps o (get_b bs x)) e (var_at xs bs 0 0 ps x v))

word_is : {a b : ℕ} → some (r_word a) ≡ some (r_word b) → a ≡ b
word_is e = cc

arr-word : {a b : ℕ} {w : Bool} → some (r_arr a w) ≡ some (r_word b) → ⊥
arr-word e = let z : ◌≡◌ {A = ℕ} 0 1 = cc in omega arith

-- later names have later places
find-ge : (xs : List Slot) (x : Name) (i j k : ℕ) → find xs x i j ≡ some (r_word k) → i ≤ k
find-ge [] x i j k e = absurd (none-some e)
find-ge (w_slot y ∷ ys) x i j k e = go (same y x) e (find-ge ys x (suc i) j k)
  where
    go : (b : Bool) → pick b (some (r_word i)) (find ys x (suc i) j) ≡ some (r_word k) → (find ys x (suc i) j ≡ some (r_word k) → suc i ≤ k) → i ≤ k
    go true d h = let z = word_is d in omega arith
    go false d h = let z = h d in omega arith
find-ge (a_slot y w ∷ ys) x i j k e = go (same y x) e (find-ge ys x i (suc j) k)
  where
    go : (b : Bool) → pick b (some (r_arr j w)) (find ys x i (suc j)) ≡ some (r_word k) → (find ys x i (suc j) ≡ some (r_word k) → i ≤ k) → i ≤ k
    go true d h = absurd (arr-word d)
    go false d h = h d

pub find-lt : (xs : List Slot) (x : Name) (i j k : ℕ) → find xs x i j ≡ some (r_word k) → k < i + words_of xs
find-lt [] x i j k e = absurd (none-some e)
find-lt (w_slot y ∷ ys) x i j k e = go (same y x) e (find-lt ys x (suc i) j k)
  where
    go : (b : Bool) → pick b (some (r_word i)) (find ys x (suc i) j) ≡ some (r_word k) → (find ys x (suc i) j ≡ some (r_word k) → k < suc i + words_of ys) → k < i + suc (words_of ys)
    go true d h = let z = word_is d in omega arith
    go false d h = let z = h d in omega arith
find-lt (a_slot y w ∷ ys) x i j k e = go (same y x) e (find-lt ys x i (suc j) k)
  where
    go : (b : Bool) → pick b (some (r_arr j w)) (find ys x i (suc j)) ≡ some (r_word k) → (find ys x i (suc j) ≡ some (r_word k) → k < i + words_of ys) → k < i + words_of ys
    go true d h = absurd (arr-word d)
    go false d h = h d

module _ (as₁ : List ℕ) (ws : List Bool) where
  pub var_set : (xs : List Slot) (bs : List Bind) (i j : ℕ) (ps : Places) (x : Name) (k m : ℕ) → find xs x i j ≡ some (r_word k) → Vars as₁ ws xs bs i j ps → Vars as₁ ws xs (set_b bs x (word m)) i j (upd ps k m)
  var_set [] [] i j ps x k m e v = absurd (none-some e)
  var_set [] (b ∷ bs) i j ps x k m e v = absurd v
  var_set (w_slot y ∷ ys) [] i j ps x k m e v = absurd v
  var_set (a_slot y w ∷ ys) [] i j ps x k m e v = absurd v
  var_set (w_slot y ∷ ys) (b ∷ bs) i j ps x k m e v = go (same y x) (rw v.0) e (λ q. var_set ys bs (suc i) j ps x k m q v.2)
    where
      go : (t : Bool) → same b.name x ≡ t → pick t (some (r_word i)) (find ys x (suc i) j) ≡ some (r_word k) → (find ys x (suc i) j ≡ some (r_word k) → Vars as₁ ws ys (set_b bs x (word m)) (suc i) j (upd ps k m)) → Vars as₁ ws (w_slot y ∷ ys) (set_b (b ∷ bs) x (word m)) i j (upd ps k m)
      go true s z ih = let u : k ≡ i = sym (word_is z) in let n = sym (same_true b.name x s) ∙ v.0 in rw (s, u) (n, (m, refl, upd_same ps i m), vars_out as₁ ws ys bs (suc i) j i ps m (omega arith) v.2)
      go false s z ih = let u = find-ge ys x (suc i) j k z in rw s (v.0, (v.1.0, v.1.1, upd_other ps k m i (omega arith) ∙ v.1.2), ih z)
  var_set (a_slot y w ∷ ys) (b ∷ bs) i j ps x k m e v = go (same y x) (rw v.0) e (λ q. var_set ys bs i (suc j) ps x k m q v.2)
    where
      go : (t : Bool) → same b.name x ≡ t → pick t (some (r_arr j w)) (find ys x i (suc j)) ≡ some (r_word k) → (find ys x i (suc j) ≡ some (r_word k) → Vars as₁ ws ys (set_b bs x (word m)) i (suc j) (upd ps k m)) → Vars as₁ ws (a_slot y w ∷ ys) (set_b (b ∷ bs) x (word m)) i j (upd ps k m)
      go true s z ih = absurd (arr-word z)
      go false s z ih = rw s (v.0, v.1, ih z)

-- the words among values, and the arrays
abbrev pub nums : List Value → List ℕ
nums [] = []
nums (word x ∷ vs) = x ∷ nums vs
nums (array a ∷ vs) = nums vs

abbrev pub arrs_of : List Value → List ℕ
arrs_of [] = []
arrs_of (word x ∷ vs) = arrs_of vs
arrs_of (array a ∷ vs) = a ∷ arrs_of vs

abbrev pub kinds : List Param → List Kind
kinds [] = []
kinds (q ∷ qs) = q.kind ∷ kinds qs

abbrev pub Has : List Bool → Value → Kind → Type 0
Has ws (word n) k_word = Unit {0}
Has ws (word n) (k_arr w) = ⊥
Has ws (array a) k_word = ⊥
Has ws (array a) (k_arr w) = nth ws a ≡ some w

abbrev pub HasAll : List Bool → List Value → List Kind → Type 0
HasAll ws [] [] = Unit {0}
HasAll ws [] (k ∷ ks) = ⊥
HasAll ws (v ∷ vs) [] = ⊥
HasAll ws (v ∷ vs) (k ∷ ks) = Has ws v k × HasAll ws vs ks

-- lists
module _ {A : Type 0} where
  pub nth_left : (xs ys : List A) (a : ℕ) (w : A) → nth xs a ≡ some w → nth (xs ++ ys) a ≡ some w
  nth_left [] ys a w e = absurd (none-some e)
  nth_left (x ∷ xs) ys zero w e = e
  nth_left (x ∷ xs) ys (suc a) w e = nth_left xs ys a w e

  pub nth_at : (xs ys : List A) (w : A) → nth (xs ++ (w ∷ ys)) (length xs) ≡ some w
  nth_at [] ys w = refl
  nth_at (x ∷ xs) ys w = nth_at xs ys w

  pub take-front : (xs ys : List A) → take (length xs) (xs ++ ys) ≡ xs
  take-front [] ys = refl
  take-front (x ∷ xs) ys = ap (λ l. x ∷ l) (take-front xs ys)

  pub snoc_length : (pre : List A) (w : A) (n : ℕ) → length pre ≡ n → length (pre ++ (w ∷ [])) ≡ n + 1
  snoc_length pre w n e = length-append pre (w ∷ []) ∙ ap (λ k. k + 1) e

pub wides_++ : (a b : List Cells) → wides (a ++ b) ≡ wides a ++ wides b
wides_++ [] b = refl
wides_++ (c ∷ a) b = ap (λ l. c.wide ∷ l) (wides_++ a b)

pub wides-take : (n : ℕ) (a : List Cells) → wides (take n a) ≡ take n (wides a)
wides-take zero a = refl
wides-take (suc n) [] = refl
wides-take (suc n) (c ∷ a) = ap (λ l. c.wide ∷ l) (wides-take n a)

pub wides-length : (a : List Cells) → length (wides a) ≡ length a
wides-length [] = refl
wides-length (c ∷ a) = ap suc (wides-length a)

pub wides-put : (cs : List Cells) (a : ℕ) (c d : Cells) → nth cs a ≡ some c → d.wide ≡ c.wide → wides (put cs a d) ≡ wides cs
wides-put [] a c d e w = refl
wides-put (b ∷ cs) zero c d e w = ap (λ u. u ∷ wides cs) (w ∙ ap (λ z. z.wide) (sym (some_inj e)))
wides-put (b ∷ cs) (suc a) c d e w = ap (λ l. b.wide ∷ l) (wides-put cs a c d e w)

pub wides-nth : (cs : List Cells) (a : ℕ) (w : Bool) → nth (wides cs) a ≡ some w → (c : Cells) × (nth cs a ≡ some c) × (c.wide ≡ w)
wides-nth [] a w e = absurd (none-some e)
wides-nth (c ∷ cs) zero w e = (c, refl, some_inj e)
wides-nth (c ∷ cs) (suc a) w e = wides-nth cs a w e

-- the names of a function that begins
module _ (as₁ : List ℕ) (ws : List Bool) (ps : Places) where
  own_at : (bs : List Arr) (i j n : ℕ) (pre : List Bool) → ws ≡ pre ++ wides (new_arrs bs) → length pre ≡ n → ((h : ℕ) → nth as₁ (j + h) ≡ nth (upto n (shapes_of bs)) h) → Vars as₁ ws (arr_slots bs) (bind_arrs bs n) i j ps
  own_at [] i j n pre e l g = tt
  own_at (b ∷ bs) i j n pre e l g = (refl, (n, refl, rw add-zero at (g 0), ap₂ nth e (sym l) ∙ nth_at pre (wides (new_arrs bs)) b.wide), own_at bs i (suc j) (n + 1) (pre ++ (b.wide ∷ [])) (e ∙ sym (append_assoc pre (b.wide ∷ []) (wides (new_arrs bs)))) (snoc_length pre b.wide n l) (λ h. let z : suc j + h ≡ j + suc h = omega arith in rw z (g (suc h))))

  zeros_at : (xs : List Name) (bs : List Arr) (i j n : ℕ) (pre : List Bool) → ws ≡ pre ++ wides (new_arrs bs) → length pre ≡ n → ((h : ℕ) → ps (i + h) ≡ nth (replicate (length xs) 0) h) → ((h : ℕ) → nth as₁ (j + h) ≡ nth (upto n (shapes_of bs)) h) → Vars as₁ ws (var_slots xs bs) (bind_vars xs ++ bind_arrs bs n) i j ps
  zeros_at [] bs i j n pre e l f g = own_at bs i j n pre e l g
  zeros_at (x ∷ xs) bs i j n pre e l f g = (refl, (0, refl, rw add-zero at (f 0)), zeros_at xs bs (suc i) j n pre e l (λ h. let z : suc i + h ≡ i + suc h = omega arith in rw z (f (suc h))) g)

  pub names_at : (qs : List Param) (vs : List Value) (xs : List Name) (bs : List Arr) (i j n : ℕ) (pre : List Bool) → ws ≡ pre ++ wides (new_arrs bs) → length pre ≡ n → HasAll pre vs (kinds qs) → ((h : ℕ) → ps (i + h) ≡ nth (nums vs ++ replicate (length xs) 0) h) → ((h : ℕ) → nth as₁ (j + h) ≡ nth (arrs_of vs ++ upto n (shapes_of bs)) h) → Vars as₁ ws (slots_from qs xs bs) (bind_params qs vs ++ (bind_vars xs ++ bind_arrs bs n)) i j ps
  names_at [] [] xs bs i j n pre e l a f g = zeros_at xs bs i j n pre e l f g
  names_at [] (v ∷ vs) xs bs i j n pre e l a f g = absurd a
  names_at (q ∷ qs) [] xs bs i j n pre e l a f g = absurd a
  names_at (q ∷ qs) (v ∷ vs) xs bs i j n pre e l a f g = go v q.kind a.0 f g (names_at qs vs xs bs (suc i) j n pre e l a.1) (names_at qs vs xs bs i (suc j) n pre e l a.1)
    where
      rest : List Bind
      rest = bind_params qs vs ++ (bind_vars xs ++ bind_arrs bs n)

      up : (i : ℕ) (r : ℕ → Option ℕ) (b : ℕ) (l : List ℕ) → ((h : ℕ) → r (i + h) ≡ nth (b ∷ l) h) → (h : ℕ) → r (suc i + h) ≡ nth l h
      up i r b l f h = let z : suc i + h ≡ i + suc h = omega arith in rw z (f (suc h))

      go : (v : Value) (k : Kind) → Has pre v k → ((h : ℕ) → ps (i + h) ≡ nth (nums (v ∷ vs) ++ replicate (length xs) 0) h) → ((h : ℕ) → nth as₁ (j + h) ≡ nth (arrs_of (v ∷ vs) ++ upto n (shapes_of bs)) h) → (((h : ℕ) → ps (suc i + h) ≡ nth (nums vs ++ replicate (length xs) 0) h) → ((h : ℕ) → nth as₁ (j + h) ≡ nth (arrs_of vs ++ upto n (shapes_of bs)) h) → Vars as₁ ws (slots_from qs xs bs) rest (suc i) j ps) → (((h : ℕ) → ps (i + h) ≡ nth (nums vs ++ replicate (length xs) 0) h) → ((h : ℕ) → nth as₁ (suc j + h) ≡ nth (arrs_of vs ++ upto n (shapes_of bs)) h) → Vars as₁ ws (slots_from qs xs bs) rest i (suc j) ps) → Vars as₁ ws (slot_of q.name k ∷ slots_from qs xs bs) (record { name = q.name; val = v } ∷ rest) i j ps
      go (word x) k_word t f g wd ar = (refl, (x, refl, rw add-zero at (f 0)), wd (up i ps x _ f) g)
      go (word x) (k_arr w) t f g wd ar = absurd t
      go (array b) k_word t f g wd ar = absurd t
      go (array b) (k_arr w) t f g wd ar = (refl, (b, refl, rw add-zero at (g 0), ap (λ l. nth l b) e ∙ nth_left pre (wides (new_arrs bs)) b w t), ar f (up j (nth as₁) b _ g))

pub fresh-new : (bs : List Arr) → fresh (shapes_of bs) ≡ new_arrs bs
fresh-new [] = refl
fresh-new (b ∷ bs) = ap (λ l. record { wide = b.wide; cells = replicate b.size 0 } ∷ l) (fresh-new bs)

pub shapes-length : (bs : List Arr) → length (shapes_of bs) ≡ length (new_arrs bs)
shapes-length [] = refl
shapes-length (b ∷ bs) = ap suc (shapes-length bs)
