-- Kinds of the pile compared one by one, and what a node leaves of the pile.
use Rattle.std.proofs.Common.{◌≡◌, ℕ, ◌+◌, ◌-◌, ◌<◌, ◌≤◌, min, Bool, true, false, ◌&&◌, eqb, leb, List, [], ◌∷◌, ◌++◌, length, get_or, take, drop, set, replicate, sym, refl, ap, ◌∙◌, subst, ap₂, arith, length-append, length-drop, length-set, take-append-drop, length-take, eq-eqb, ne_eqb, le-leb}
use mathlib.Core.Option.{Option, some, none}
use Rattle.std.specs.Prelude.{Some, None}
use Rattle.std.specs.declared.option.Option as std
use Rattle.rows.specs.declared.kind.LocalKind.{LocalKind}
use Rattle.rows.specs.declared.kind.LocalKind.TheVariants.{Word}
use Rattle.rows.specs.Kinds.{local_kind, local_kind_no}
use lib.ListN.{length-replicate}
use borrow.Author.Tests.{lt-leb}
use Rattle.std.proofs.lemmas.List.{take-take, take_all, take_at, drop_at, take_more_set}
use Rattle.std.specs.List.{list_all}
use Rattle.language.specs.Syntax.{pick, Kind, k_word, k_arr}
use Rattle.language.specs.Checks.{same_k}
use Rattle.rows.specs.Nodes.{Node}
use Rattle.rows.specs.Trees.{Local, map_list, kind_no}
use Rattle.names.specs.declared.asking.Effect.{Effect}
use Rattle.names.specs.Fold.{Ctx, fit, eat, step}
use Rattle.names.specs.Kinds.{kind_found}
use Rattle.names.specs.Effects.{give, local_kinds, Does}
use Rattle.names.specs.Pile.{Piled, Remains}
use Rattle.names.proofs.NameKinds.{map-length}

-- kinds are the same if their numbers are
pub same_kind : (j k : Kind) → same_k j k ≡ eqb (kind_no j) (kind_no k)
same_kind k_word k_word = refl
same_kind k_word (k_arr true) = refl
same_kind k_word (k_arr false) = refl
same_kind (k_arr true) k_word = refl
same_kind (k_arr false) k_word = refl
same_kind (k_arr true) (k_arr true) = refl
same_kind (k_arr true) (k_arr false) = refl
same_kind (k_arr false) (k_arr true) = refl
same_kind (k_arr false) (k_arr false) = refl

-- a slice up to the end
pub cut : (n : ℕ) (xs : List ℕ) → take (length xs - n) (drop n xs) ≡ drop n xs
cut n xs = take_all (length xs - n) (drop n xs) (omega (arith, length-drop n xs))

-- kinds that are all words
all_words : (ks : List Kind) → list_all (λ n. eqb n 0) (map_list kind_no ks) ≡ fit ks (replicate (length ks) k_word)
all_words [] = refl
all_words (k ∷ ks) = ap₂ (λ (a b : Bool). a && b) (sym (same_kind k k_word)) (all_words ks)

-- of the kinds ks and the names ls, those in rest and the names ms are left to compare
pub record Compared (ks : List Kind) (ls : List Local) (rest : List ℕ) (ms : List Local) : Type 0 where
  pub left : List Kind
  pub is : rest ≡ map_list kind_no left
  pub same : fit ks (local_kinds ls) ≡ fit left (local_kinds ms)

module _ {ks : List Kind} {ls : List Local} {rest : List ℕ} (m : Local) (ms : List Local) (v : Compared ks ls rest (m ∷ ms)) where
  pub compared_none : length rest ≡ 0 → false ≡ fit ks (local_kinds ls)
  compared_none e = go v.left v.is v.same
    where
      go : (js : List Kind) → rest ≡ map_list kind_no js → fit ks (local_kinds ls) ≡ fit js (local_kinds (m ∷ ms)) → false ≡ fit ks (local_kinds ls)
      go [] q s = sym s
      go (j ∷ js) q s = absurd (omega (arith, ap length q))

  module _ {r : ℕ} {others : List ℕ} (first : rest ≡ r ∷ others) where
    pub compared_more : r ≡ kind_no m.kind → Compared ks ls others ms
    compared_more z = go v.left (sym first ∙ v.is) v.same
      where
        go : (js : List Kind) → (r ∷ others) ≡ map_list kind_no js → fit ks (local_kinds ls) ≡ fit js (local_kinds (m ∷ ms)) → Compared ks ls others ms
        go [] q s = absurd (omega (arith, ap length q))
        go (j ∷ js) q s =
            let e : same_k j m.kind ≡ true = same_kind j m.kind ∙ eq-eqb (kind_no j) (kind_no m.kind) (sym (ap (λ (l : List ℕ). get_or l 0 0) q) ∙ z) in
            record { left = js; is = ap (drop 1) q; same = s ∙ ap (λ (x : Bool). x && fit js (local_kinds ms)) e }

    pub compared_stop : (r ≡ kind_no m.kind → ⊥) → false ≡ fit ks (local_kinds ls)
    compared_stop z = go v.left (sym first ∙ v.is) v.same
      where
        go : (js : List Kind) → (r ∷ others) ≡ map_list kind_no js → fit ks (local_kinds ls) ≡ fit js (local_kinds (m ∷ ms)) → false ≡ fit ks (local_kinds ls)
        go [] q s = absurd (omega (arith, ap length q))
        go (j ∷ js) q s =
            let e : same_k j m.kind ≡ false = same_kind j m.kind ∙ ne_eqb (kind_no j) (kind_no m.kind) (λ y. z (ap (λ (l : List ℕ). get_or l 0 0) q ∙ y)) in
            sym (s ∙ ap (λ (x : Bool). x && fit js (local_kinds ms)) e)

pub compared_all : {ks : List Kind} {ls : List Local} {rest : List ℕ} {b : Bool} → b ≡ eqb (length rest) 0 → Compared ks ls rest [] → b ≡ fit ks (local_kinds ls)
compared_all {ks} {ls} {rest} {b} e v = go v.left v.is v.same
  where
    go : (js : List Kind) → rest ≡ map_list kind_no js → fit ks (local_kinds ls) ≡ fit js [] → b ≡ fit ks (local_kinds ls)
    go [] q s = e ∙ ap (λ (l : List ℕ). eqb (length l) 0) q ∙ sym s
    go (j ∷ js) q s = e ∙ ap (λ (l : List ℕ). eqb (length l) 0) q ∙ ne_eqb (length (map_list kind_no (j ∷ js))) 0 (λ y. absurd (omega arith)) ∙ sym s

fit-app : (as₁ bs qs rs : List Kind) → length as₁ ≡ length qs → fit (as₁ ++ bs) (qs ++ rs) ≡ (fit as₁ qs && fit bs rs)
fit-app [] bs [] rs e = refl
fit-app [] bs (q ∷ qs) rs e = absurd (omega arith)
fit-app (a ∷ as₁) bs [] rs e = absurd (omega arith)
fit-app (a ∷ as₁) bs (q ∷ qs) rs e = ap (λ (t : Bool). same_k a q && t) (fit-app as₁ bs qs rs (omega arith)) ∙ go (same_k a q)
  where
    go : (b : Bool) → (b && (fit as₁ qs && fit bs rs)) ≡ ((b && fit as₁ qs) && fit bs rs)
    go true = refl
    go false = refl

map_app : (as₁ bs : List Kind) → map_list kind_no (as₁ ++ bs) ≡ map_list kind_no as₁ ++ map_list kind_no bs
map_app [] bs = refl
map_app (a ∷ as₁) bs = ap (λ (l : List ℕ). kind_no a ∷ l) (map_app as₁ bs)

drop-map : (k : ℕ) (st : List Kind) → k ≤ length st → drop k (map_list kind_no st) ≡ map_list kind_no (drop k st)
drop-map k st le =
    ap (drop k) (ap (map_list kind_no) (sym (take-append-drop k st)) ∙ map_app (take k st) (drop k st))
    ∙ drop_at (map_list kind_no (take k st)) (map_list kind_no (drop k st)) k (map-length kind_no (take k st) ∙ length-take k st ∙ omega arith)

pub piled-long : {w : List ℕ} {n : ℕ} {st : List Kind} → Piled w n st → length st ≡ n
piled-long {w} {n} {st} v = sym (map-length kind_no st) ∙ sym (ap length v.is) ∙ length-take n w ∙ min_le v.room
  where
    min_le : n ≤ length w → min n (length w) ≡ n
    min_le le = omega arith

-- what is under it
piled-under : {w : List ℕ} {n : ℕ} (as₁ bs : List Kind) → Piled w n (as₁ ++ bs) → Piled w (length as₁) as₁
piled-under {w} {n} as₁ bs v =
    let l = piled-long v in
    let la = length-append as₁ bs in
    let le : length as₁ ≤ n = omega arith in
    record {
      is = sym (take-take (length as₁) n w le) ∙ ap (take (length as₁)) (v.is ∙ map_app as₁ bs) ∙ take_at (map_list kind_no as₁) (map_list kind_no bs) (length as₁) (map-length kind_no as₁);
      room = omega (arith, v.room);
    }

piled-push : {w : List ℕ} {n : ℕ} {st : List Kind} (k : Kind) → n < length w → Piled w n st → Piled (set w n (kind_no k)) (n + 1) (st ++ (k ∷ []))
piled-push {w} {n} {st} k lt v =
    record {
      is = take_more_set w n (kind_no k) lt ∙ ap (λ (l : List ℕ). l ++ (kind_no k ∷ [])) v.is ∙ sym (map_app st (k ∷ []));
      room = omega (arith, length-set w n (kind_no k));
    }

-- whether the top of the pile is as asked
pub fits-no : (ls : List Local) (st : List Kind) (words : ℕ) → length st < words + length ls → false ≡ (leb (words + length ls) (length st) && fit (drop (length st - (words + length ls)) st) (replicate words k_word ++ local_kinds ls))
fits-no ls st words lt = sym (ap (λ (b : Bool). b && fit (drop (length st - (words + length ls)) st) (replicate words k_word ++ local_kinds ls)) (lt-leb (words + length ls) (length st) lt))

pub fits-so : (ls : List Local) (st : List Kind) (words : ℕ) {pile front back : List ℕ} {a b : Bool} → pile ≡ map_list kind_no st → words + length ls ≤ length st → front ≡ take words (drop (length st - (words + length ls)) pile) → back ≡ drop words (drop (length st - (words + length ls)) pile) → a ≡ list_all (λ n. eqb n 0) front → ((ks : List Kind) → back ≡ map_list kind_no ks → b ≡ fit ks (local_kinds ls)) → (a && b) ≡ (leb (words + length ls) (length st) && fit (drop (length st - (words + length ls)) st) (replicate words k_word ++ local_kinds ls))
fits-so ls st words {pile} {front} {back} {a} {b} ep le ef eb aw bk =
    let k = length st - (words + length ls) in
    let ks = drop k st in
    let top = take words ks in
    let rest = drop words ks in
    let lk : length ks ≡ words + length ls = length-drop k st ∙ omega arith in
    let lt : length top ≡ words = length-take words ks ∙ omega arith in
    let ek : ks ≡ top ++ rest = sym (take-append-drop words ks) in
    let ed : drop k pile ≡ map_list kind_no ks = ap (drop k) ep ∙ drop-map k st (omega arith) in
    let em : drop k pile ≡ map_list kind_no top ++ map_list kind_no rest = ed ∙ ap (map_list kind_no) ek ∙ map_app top rest in
    let lm : length (map_list kind_no top) ≡ words = map-length kind_no top ∙ lt in
    let hf : front ≡ map_list kind_no top = ef ∙ ap (take words) em ∙ take_at (map_list kind_no top) (map_list kind_no rest) words lm in
    let hb : back ≡ map_list kind_no rest = eb ∙ ap (drop words) em ∙ drop_at (map_list kind_no top) (map_list kind_no rest) words lm in
    let ea : a ≡ fit top (replicate words k_word) = aw ∙ ap (list_all (λ n. eqb n 0)) hf ∙ all_words top ∙ ap (λ (m : ℕ). fit top (replicate m k_word)) lt in
    let two = fit-app top rest (replicate words k_word) (local_kinds ls) (omega (arith, length-replicate words k_word)) in
    ap₂ (λ (x y : Bool). x && y) ea (bk rest hb)
    ∙ sym two
    ∙ ap (λ (q : List Kind). fit q (replicate words k_word ++ local_kinds ls)) (sym ek)
    ∙ sym (ap (λ (x : Bool). x && fit ks (replicate words k_word ++ local_kinds ls)) (le-leb (words + length ls) (length st) (omega arith)))

give-none : (o : Option Kind) → give o none ≡ none
give-none none = refl
give-none (some k) = refl

-- the kind that is given, and that there is one
abbrev kind_of : std.Option LocalKind → LocalKind
kind_of None = Word
kind_of (Some k) = k

abbrev given_no : std.Option LocalKind → ℕ
given_no None = 0
given_no (Some k) = 1

number-kind : (k : Kind) → local_kind_no (local_kind k) ≡ kind_no k
number-kind k_word = refl
number-kind (k_arr true) = refl
number-kind (k_arr false) = refl

-- what a node does of which the effect is e, on the pile st
module _ {row : List ℕ} {Γ : Ctx} {d : ℕ} {t : Node} {e : Effect} (st : List Kind) (v : Does row Γ d t e) where
  eaten : Bool → Option (List Kind)
  eaten b = pick b (some (take (length st - (e.words + length v.asked)) st)) none

  by_fit : (b : Bool) → b ≡ (leb (e.words + length v.asked) (length st) && fit (drop (length st - (e.words + length v.asked)) st) (replicate e.words k_word ++ local_kinds v.asked)) → step Γ d t st ≡ give v.given (eaten b)
  unfolding eat eaten
  by_fit b q = v.is st ∙ ap (λ (x : Bool). give v.given (pick x (some (take (length st - (e.words + length v.asked)) st)) none)) (sym q)

  pub refused : false ≡ (leb (e.words + length v.asked) (length st) && fit (drop (length st - (e.words + length v.asked)) st) (replicate e.words k_word ++ local_kinds v.asked)) → step Γ d t st ≡ none
  unfolding eaten
  refused q = by_fit false q ∙ give-none v.given

  module _ {w : List ℕ} {n left : ℕ} (p : Piled w n st) (q : true ≡ (leb (e.words + length v.asked) (length st) && fit (drop (length st - (e.words + length v.asked)) st) (replicate e.words k_word ++ local_kinds v.asked))) (el : left ≡ n - e.words - e.params.left) where
    under : List Kind
    under = take (length st - (e.words + length v.asked)) st

    left_is : length under ≡ left
    unfolding under
    left_is = length-take (length st - (e.words + length v.asked)) st ∙ omega (arith, piled-long p, v.there.long)

    below : Piled w left under
    unfolding under
    below = let k = length st - (e.words + length v.asked) in subst (λ (m : ℕ). Piled w m (take k st)) left_is (piled-under (take k st) (drop k st) (subst (λ (s : List Kind). Piled w n s) (sym (take-append-drop k st)) p))

    stepped : step Γ d t st ≡ give v.given (some under)
    unfolding eaten under
    stepped = by_fit true q

    pub keeps : e.gives ≡ None → Remains w (step Γ d t st) left
    keeps g = go v.given v.gives stepped
      where
        go : (o : Option Kind) → e.gives ≡ kind_found o → step Γ d t st ≡ give o (some under) → Remains w (step Γ d t st) left
        go none k s = record { pile = under; is = s; there = below }
        go (some j) k s = absurd (omega (arith, ap given_no (sym g ∙ k)))

    pub puts : {k : LocalKind} {x : ℕ} → e.gives ≡ Some k → left < length w → x ≡ local_kind_no k → Remains (set w left x) (step Γ d t st) (left + 1)
    puts {k} {x} g lt it = go v.given v.gives stepped
      where
        go : (o : Option Kind) → e.gives ≡ kind_found o → step Γ d t st ≡ give o (some under) → Remains (set w left x) (step Γ d t st) (left + 1)
        go none u s = absurd (omega (arith, ap given_no (sym g ∙ u)))
        go (some j) u s =
            let y : x ≡ kind_no j = it ∙ ap local_kind_no (ap kind_of (sym g ∙ u)) ∙ number-kind j in
            record { pile = under ++ (j ∷ []); is = s; there = subst (λ (y : ℕ). Piled (set w left y) (left + 1) (under ++ (j ∷ []))) (sym y) (piled-push j lt below) }
