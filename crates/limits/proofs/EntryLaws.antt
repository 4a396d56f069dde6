-- Entries of a row passed one by one: what is left of them, and what holds of it.
use Rattle.std.proofs.Common.{◌≡◌, ℕ, suc, ◌+◌, ◌<◌, ◌≤◌, min, Bool, true, false, ◌&&◌, ◌||◌, List, [], ◌∷◌, length, sym, refl, ap, ◌∙◌, subst, arith, length-append, MatchOption, IfSome, Option, Some, None}
use Rattle.std.specs.Iterator.{ChecksAny, ChecksAll, FindsItem, FoldsItems, FoldTurn, Drains, Yields}
use Rattle.std.specs.List.{FoldsTo}
use Rattle.std.specs.Fn.{CalledAt}
use Rattle.std.specs.Borrow.{Bor}
use denote.Param.Members.{Mut, Called}
use Rattle.language.specs.Syntax.{Name, same}
use Rattle.rows.specs.Has.{Has, named}
use Rattle.rows.specs.Trees.{list_row}
use Rattle.rows.proofs.Having.{has_left, has_right, has_to}
use Rattle.limits.specs.declared.entries.Entries.{Entries}
use Rattle.limits.specs.Entries.{Left, Gives, NamesAt}

-- the first of those that are left is passed
pub takes_first : {E T : Type 0} {row : T → List ℕ} {w : List ℕ} {s t : Entries E} {ts : List T} → Left row w s ts → 0 < s.left → ((x : T) → Has s.row.now s.here (row x) → t.here ≡ s.here + length (row x)) → t.row.now ≡ s.row.now → t.left + 1 ≡ s.left
    → (x : T) × (xs : List T) × (ts ≡ x ∷ xs) × Has w s.here (row x) × Left row w t xs
takes_first {E} {T} {row} {w} {s} {t} {ts} k some to same one = go ts k.here k.long
  where
    go : (vs : List T) → Has w s.here (list_row row vs) → length vs ≡ s.left → (x : T) × (xs : List T) × (vs ≡ x ∷ xs) × Has w s.here (row x) × Left row w t xs
    go [] h l = absurd (omega arith)
    go (x ∷ xs) h l =
        let hx = has_left (row x) (list_row row xs) h in
        (x, xs, refl, hx, record { lent = same ∙ k.lent; here = has_to (sym (to x (subst (λ v. Has v s.here (row x)) (sym k.lent) hx))) (has_right (row x) (list_row row xs) h); long = omega arith })

-- none is left
pub none_left : {E T : Type 0} {row : T → List ℕ} {w : List ℕ} {s : Entries E} {ts : List T} → Left row w s ts → s.left ≤ 0 → ts ≡ []
none_left {E} {T} {row} {w} {s} {ts} k none = go ts k.long
  where
    go : (vs : List T) → length vs ≡ s.left → vs ≡ []
    go [] l = refl
    go (x ∷ xs) l = absurd (omega arith)

-- they are left in the row that was lent
pub in_lent : {E T : Type 0} {row : T → List ℕ} {w : List ℕ} {s : Entries E} {ts : List T} → Left row w s ts → Left row s.row.now s ts
in_lent {row = row} {s = s} {ts = ts} k = record { lent = refl; here = subst (λ v. Has v s.here (list_row row ts)) (sym k.lent) k.here; long = k.long }

pub at_lent : {E T : Type 0} {row : T → List ℕ} {w : List ℕ} {s : Entries E} {ts : List T} {i : ℕ} {vs : List ℕ} → Left row w s ts → Has w i vs → Has s.row.now i vs
at_lent {i = i} {vs = vs} k h = subst (λ v. Has v i vs) (sym k.lent) h

pub short_row : {E T : Type 0} {row : T → List ℕ} {w : List ℕ} {s : Entries E} {ts : List T} → Left row w s ts → length s.row.now < 18446744073709551616 → length w < 18446744073709551616
short_row k l = subst (λ v. length v < 18446744073709551616) k.lent l

-- of entries that end at e, k of n were passed, and the others stand from a place on
pub record Ahead {T : Type 0} (row : T → List ℕ) (w : List ℕ) (n e a k : ℕ) : Type 0 where
  pub ts : List T
  pub here : Has w a (list_row row ts)
  pub long : k + length ts ≡ n
  pub ends : a + length (list_row row ts) ≡ e

pub ahead_next : {T : Type 0} {row : T → List ℕ} {w : List ℕ} {n e a k b : ℕ} → Ahead row w n e a k → k < n → ((x : T) → Has w a (row x) → b ≡ a + length (row x)) → Ahead row w n e b (k + 1)
ahead_next {T} {row} {w} {n} {e} {a} {k} {b} v lt to = go v.ts v.here v.long v.ends
  where
    go : (ts : List T) → Has w a (list_row row ts) → k + length ts ≡ n → a + length (list_row row ts) ≡ e → Ahead row w n e b (k + 1)
    go [] h l q = absurd (omega arith)
    go (x ∷ xs) h l q =
        let hx = has_left (row x) (list_row row xs) h in
        record { ts = xs; here = has_to (sym (to x hx)) (has_right (row x) (list_row row xs) h); long = omega arith; ends = omega (arith, to x hx, length-append (row x) (list_row row xs)) }

pub ahead_none : {T : Type 0} {row : T → List ℕ} {w : List ℕ} {n e a k : ℕ} → Ahead row w n e a k → n ≤ k → a ≡ e
ahead_none {T} {row} {w} {n} {e} {a} {k} v le = go v.ts v.long v.ends
  where
    go : (ts : List T) → k + length ts ≡ n → a + length (list_row row ts) ≡ e → a ≡ e
    go [] l q = omega arith
    go (x ∷ xs) l q = absurd (omega arith)

-- k of n entries were passed, the others stand from a place on, and P holds of them
pub record Onward {T : Type 0} (row : T → List ℕ) (w : List ℕ) (n a k : ℕ) (P : List T → Type 0) : Type 0 where
  pub ts : List T
  pub here : Has w a (list_row row ts)
  pub long : k + length ts ≡ n
  pub holds : P ts

pub onward_first : {E T : Type 0} {row : T → List ℕ} {w : List ℕ} {s : Entries E} {ts : List T} {n a : ℕ} {P : List T → Type 0} → Left row w s ts → a ≡ s.here → n ≡ s.left → P ts → Onward row w n a 0 P
onward_first {ts = ts} k at all p = record { ts = ts; here = has_to (sym at) k.here; long = omega (arith, k.long); holds = p }

module _ {T : Type 0} {row : T → List ℕ} {w : List ℕ} {n a k : ℕ} {P : List T → Type 0} where
  pub onward_none : Onward row w n a k P → n ≤ k → P []
  onward_none v le = go v.ts v.long v.holds
    where
      go : (ts : List T) → k + length ts ≡ n → P ts → P []
      go [] l p = p
      go (x ∷ xs) l p = absurd (omega arith)

  -- the next of them: what that decides, with those behind it
  pub onward_by : {C : Type 0} → Onward row w n a k P → k < n → ((x : T) (xs : List T) → Has w a (row x) → Has w (a + length (row x)) (list_row row xs) → (k + 1) + length xs ≡ n → P (x ∷ xs) → C) → C
  onward_by {C} v lt it = go v.ts v.here v.long v.holds
    where
      go : (ts : List T) → Has w a (list_row row ts) → k + length ts ≡ n → P ts → C
      go [] h l p = absurd (omega arith)
      go (x ∷ xs) h l p = it x xs (has_left (row x) (list_row row xs) h) (has_right (row x) (list_row row xs) h) (omega arith) p

  pub onward_next : {Q : List T → Type 0} {b : ℕ} → Onward row w n a k P → k < n → ((x : T) → Has w a (row x) → b ≡ a + length (row x)) → ((x : T) (xs : List T) → Has w a (row x) → P (x ∷ xs) → Q xs) → Onward row w n b (k + 1) Q
  onward_next v lt to it = onward_by v lt (λ x xs h r l p. record { ts = xs; here = has_to (sym (to x h)) r; long = l; holds = it x xs h p })

-- some are left, and P holds of them
pub record Rest {S T : Type 0} (L : List ℕ → S → List T → Type 0) (w : List ℕ) (P : List T → Type 0) (s : S) : Type 0 where
  pub ts : List T
  pub left : L w s ts
  pub holds : P ts

module _ {S T : Type 0} (L : List ℕ → S → List T → Type 0) {w : List ℕ} {P : List T → Type 0} where
  -- a call gave none
  pub rest_none : {s : S} → Rest L w P s → ((w : List ℕ) (ts : List T) → L w s ts → ts ≡ []) → P []
  rest_none r z = subst P (z w r.ts r.left) r.holds

  module _ {row : T → List ℕ} where
    -- a call gave the first of them: what that decides, with those behind it
    pub rest_by : {s t : S} {j : ℕ} {C : Type 0} → Rest L w P s → Gives L row s (Some j) t → ((x : T) (xs : List T) → Has w j (row x) → L w t xs → P (x ∷ xs) → C) → C
    rest_by r z it = let v = z w r.ts r.left in it v.0 v.1 v.3 v.4 (subst P v.2 r.holds)

    pub rest_next : {Q : List T → Type 0} {s t : S} {j : ℕ} → Rest L w P s → Gives L row s (Some j) t → ((x : T) (xs : List T) → Has w j (row x) → L w t xs → P (x ∷ xs) → Q xs) → Rest L w Q t
    rest_next r z it = rest_by r z (λ x xs h k p. record { ts = xs; left = k; holds = it x xs h k p })

-- how many there are
pub count_is : {S T : Type 0} (L : List ℕ → S → List T → Type 0) {row : T → List ℕ} {w : List ℕ} {s : S} {ts : List T} {n : ℕ} → L w s ts → (xs : List ℕ) × Drains (Gives L row) s xs × (n ≡ length xs) → n ≡ length ts
count_is {S} {T} L {row} {w} {s} {ts} k c = c.2 ∙ go s c.1.1.0 c.1.0 c.0 ts k c.1.1.1 c.1.1.2
  where
    go : (s t u : S) (js : List ℕ) (ts : List T) → L w s ts → Yields (Gives L row) s js t → Gives L row t None u → length js ≡ length ts
    go s t u [] ts k y z = sym (ap length (z w ts (subst (λ v. L w v ts) y k)))
    go s t u (j ∷ js) ts k y z = let v = y.1 w ts k in ap suc (go y.0 t u js v.1 v.4 y.2 z) ∙ sym (ap length v.2)

-- one after another is asked by a call, which says p of it
module _ {S T F : Type 0} (L : List ℕ → S → List T → Type 0) {row : T → List ℕ} {w : List ℕ} {g : Mut F (ℕ × Unit {0}) Bool} {f : F} (p : T → Bool) (says : (x : T) (j : ℕ) (b : Bool) (f' : F) → Has w j (row x) → Called g f (j, tt) b f' → (f' ≡ f) × (b ≡ p x)) where
  -- until one passes; h is how that is written of a list
  module _ (h : List T → Bool) (none : h [] ≡ false) (more : (x : T) (xs : List T) → h (x ∷ xs) ≡ (p x || h xs)) where
    until_any : (s u t : S) (js : List ℕ) (o : Option ℕ) (f' : F) (r : Bool) (ts : List T) → L w s ts → Yields (Gives L row) s js t → Gives L row t o u → FoldsTo (λ p x q. Called g p (x, tt) false q) f js f' → MatchOption o (r ≡ false) (λ x. (r ≡ true) × ((h : F) × Called g f' (x, tt) true h)) → r ≡ h ts
    until_any s u t [] None f' r ts k y z c e = e ∙ sym (ap h (z w ts (subst (λ v. L w v ts) y k)) ∙ none)
    until_any s u t [] (Some j) f' r ts k y z c e =
        let v = z w ts (subst (λ v. L w v ts) y k) in
        let q = says v.0 j true e.1.0 v.3 (subst (λ m. Called g m (j, tt) true e.1.0) (sym c) e.1.1) in
        e.0 ∙ ap (λ b. b || h v.1) q.1 ∙ sym (ap h v.2 ∙ more v.0 v.1)
    until_any s u t (j ∷ js) o f' r ts k y z c e =
        let v = y.1 w ts k in
        let q = says v.0 j false c.0 v.3 c.1 in
        until_any y.0 u t js o f' r v.1 v.4 y.2 z (subst (λ m. FoldsTo (λ p x q. Called g p (x, tt) false q) m js f') q.0 c.2) e ∙ ap (λ b. b || h v.1) q.1 ∙ sym (ap h v.2 ∙ more v.0 v.1)

    pub any_is : {s u : S} {r : Bool} {ts : List T} → L w s ts → ChecksAny (Gives L row) g s f r u → r ≡ h ts
    any_is {s} {u} {r} {ts} k c = until_any s u c.3.0 c.0 c.1 c.2 r ts k c.3.1 c.3.2 c.4 c.5

  -- until one fails
  module _ (h : List T → Bool) (none : h [] ≡ true) (more : (x : T) (xs : List T) → h (x ∷ xs) ≡ (p x && h xs)) where
    until_all : (s u t : S) (js : List ℕ) (o : Option ℕ) (f' : F) (r : Bool) (ts : List T) → L w s ts → Yields (Gives L row) s js t → Gives L row t o u → FoldsTo (λ p x q. Called g p (x, tt) true q) f js f' → MatchOption o (r ≡ true) (λ x. (r ≡ false) × ((h : F) × Called g f' (x, tt) false h)) → r ≡ h ts
    until_all s u t [] None f' r ts k y z c e = e ∙ sym (ap h (z w ts (subst (λ v. L w v ts) y k)) ∙ none)
    until_all s u t [] (Some j) f' r ts k y z c e =
        let v = z w ts (subst (λ v. L w v ts) y k) in
        let q = says v.0 j false e.1.0 v.3 (subst (λ m. Called g m (j, tt) false e.1.0) (sym c) e.1.1) in
        e.0 ∙ ap (λ b. b && h v.1) q.1 ∙ sym (ap h v.2 ∙ more v.0 v.1)
    until_all s u t (j ∷ js) o f' r ts k y z c e =
        let v = y.1 w ts k in
        let q = says v.0 j true c.0 v.3 c.1 in
        until_all y.0 u t js o f' r v.1 v.4 y.2 z (subst (λ m. FoldsTo (λ p x q. Called g p (x, tt) true q) m js f') q.0 c.2) e ∙ ap (λ b. b && h v.1) q.1 ∙ sym (ap h v.2 ∙ more v.0 v.1)

    pub all_is : {s u : S} {r : Bool} {ts : List T} → L w s ts → ChecksAll (Gives L row) g s f r u → r ≡ h ts
    all_is {s} {u} {r} {ts} k c = until_all s u c.3.0 c.0 c.1 c.2 r ts k c.3.1 c.3.2 c.4 c.5

-- the first that passes: h is the same of those from it on, or of none
module _ {S T F V : Type 0} (L : List ℕ → S → List T → Type 0) {row : T → List ℕ} {w : List ℕ} {g : Mut F (Bor ℕ × Unit {0}) Bool} {f : F} (p : T → Bool) (says : (x : T) (j : ℕ) (b : Bool) (f' : F) → Has w j (row x) → CalledAt g f j b f' → (f' ≡ f) × (b ≡ p x)) (h : List T → V) (over : (x : T) (xs : List T) → p x ≡ false → h (x ∷ xs) ≡ h xs) where
  abbrev pub Found : List T → Option ℕ → Type 0
  Found ts r = MatchOption r (h ts ≡ h []) (λ j. (x : T) × (xs : List T) × Has w j (row x) × (p x ≡ true) × (h ts ≡ h (x ∷ xs)))

  until_found : (s u t : S) (js : List ℕ) (r : Option ℕ) (f' : F) (ts : List T) → L w s ts → Yields (Gives L row) s js t → Gives L row t r u → FoldsTo (λ p x q. CalledAt g p x false q) f js f' → IfSome r (λ x. (h : F) × CalledAt g f' x true h) → Found ts r
  until_found s u t [] None f' ts k y z c e = ap h (z w ts (subst (λ v. L w v ts) y k))
  until_found s u t [] (Some j) f' ts k y z c e =
      let v = z w ts (subst (λ v. L w v ts) y k) in
      let q = says v.0 j true e.0 v.3 (subst (λ m. CalledAt g m j true e.0) (sym c) e.1) in
      (v.0, v.1, v.3, sym q.1, ap h v.2)
  until_found s u t (j ∷ js) r f' ts k y z c e =
      let v = y.1 w ts k in
      let q = says v.0 j false c.0 v.3 c.1 in
      past r (ap h v.2 ∙ over v.0 v.1 (sym q.1)) (until_found y.0 u t js r f' v.1 v.4 y.2 z (subst (λ m. FoldsTo (λ p x q. CalledAt g p x false q) m js f') q.0 c.2) e)
    where
      past : (r : Option ℕ) {vs : List T} → h ts ≡ h vs → Found vs r → Found ts r
      past None e n = e ∙ n
      past (Some j) e n = (n.0, n.1, n.2, n.3, e ∙ n.4)

  pub find_is : {s : S} (u : S) (r : Option ℕ) {ts : List T} → L w s ts → FindsItem (Gives L row) g s f r u → Found ts r
  find_is {s} u r {ts} k c = until_found s u c.2.0 c.0 r c.1 ts k c.2.1 c.2.2 c.3 c.4

-- a sum over them: each call adds v of an entry, which keeps I, of the sum so far and of those that are left
module _ {S T F B V : Type 0} (L : List ℕ → S → List T → Type 0) {row : T → List ℕ} {w : List ℕ} {g : Mut F (B × (ℕ × Unit {0})) B} {f : F} (v : T → V) (add : B → V → B) (says : (a b : B) (x : T) (j : ℕ) (f' : F) → Has w j (row x) → Called g f (a, (j, tt)) b f' → (f' ≡ f) × (b ≡ add a (v x))) (I : B → List T → Type 0) (keeps : (a : B) (x : T) (xs : List T) → I a (x ∷ xs) → I (add a (v x)) xs) where
  over_all : (s t u : S) (js : List ℕ) (a r : B) (f' : F) (ts : List T) → L w s ts → I a ts → Yields (Gives L row) s js t → Gives L row t None u → FoldsTo {P = F × B} (FoldTurn g) (f, a) js (f', r) → I r []
  over_all s t u [] a r f' ts k i y z c = subst (λ m. I m []) (ap (λ (q : F × B). q.1) c) (subst (I a) (z w ts (subst (λ m. L w m ts) y k)) i)
  over_all s t u (j ∷ js) a r f' ts k i y z c =
      let m = y.1 w ts k in
      let q = says a c.0.1 m.0 j c.0.0 m.3 c.1 in
      let i' = subst (λ n. I n m.1) (sym q.1) (keeps a m.0 m.1 (subst (I a) m.2 i)) in
      over_all y.0 t u js c.0.1 r f' m.1 m.4 i' y.2 z (subst (λ n. FoldsTo {P = F × B} (FoldTurn g) (n, c.0.1) js (f', r)) q.0 c.2)

  pub fold_is : {s : S} {a r : B} {ts : List T} → L w s ts → I a ts → FoldsItems (Gives L row) g s f a r → I r []
  fold_is {s} {a} {r} {ts} k i c = over_all s c.2.1.0 c.2.0 c.0 a r c.1 ts k i c.2.1.1 c.2.1.2 c.3

-- the name of an entry, at a sum that isn't cut off
pub name_near : {T : Type 0} {row : T → List ℕ} {name_of : T → Name} {w : List ℕ} (offset : ℕ) → length w < 18446744073709551616 → NamesAt row name_of w offset → (x : T) (j s : ℕ) → s ≡ min (j + offset) 18446744073709551615 → Has w j (row x) → Has w s (named (name_of x))
name_near offset small at x j s e h = let k = at x j h in has_to (omega (arith, k.inside)) k
