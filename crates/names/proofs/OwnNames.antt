-- A function's own names passed one by one: the loops that look one up and that see whether each stands once.
use Rattle.std.proofs.Common.{◌≡◌, ℕ, ◌+◌, ◌<◌, min, Bool, true, false, not, eqb, List, ◌∷◌, length, sym, refl, ap, ◌∙◌, ap₂, arith}
use mathlib.Core.Option.{some}
use Rattle.language.specs.Syntax.{pick, Name, same, Kind, k_word, k_arr}
use Rattle.language.specs.Words.{bit}
use Rattle.steps.specs.Generate.{Slot, Ref, r_word, r_arr, find, slot_of}
use Rattle.rows.specs.declared.kind.LocalKind.{LocalKind}
use Rattle.rows.specs.declared.kind.LocalKind.TheVariants.{Word as One}
use Rattle.rows.specs.Kinds.{local_kind, local_kind_no}
use Rattle.rows.specs.Has.{Has, named}
use Rattle.rows.specs.Trees.{Local, list_row, kind_no, local_row}
use Rattle.rows.proofs.Having.{has-next, has_left, has_right, has_to}
use Rattle.names.specs.Finds.{slots_in, ref_kind, ref_index, IsOwn}

-- whether a kind's number is that of words, or of arrays
abbrev pub word_bit : ℕ → ℕ
word_bit n = bit (eqb n 0)

abbrev pub array_bit : ℕ → ℕ
array_bit n = bit (not (eqb n 0))

pub bits : (b : Bool) → bit b + bit (not b) ≡ 1
bits true = refl
bits false = refl

-- the reference that a name of a kind is, behind i words and j arrays
pub ref-of : Kind → ℕ → ℕ → Ref
ref-of k_word i j = r_word i
ref-of (k_arr w) i j = r_arr j w

pub find-step : (y : Name) (k : Kind) (ss : List Slot) (x : Name) (i j : ℕ) → find (slot_of y k ∷ ss) x i j ≡ pick (same y x) (some (ref-of k i j)) (find ss x (i + word_bit (kind_no k)) (j + array_bit (kind_no k)))
unfolding ref-of
find-step y k_word ss x i j = ap₂ (λ (m n : ℕ). pick (same y x) (some (r_word i)) (find ss x m n)) (omega arith) (omega arith)
find-step y (k_arr true) ss x i j = ap₂ (λ (m n : ℕ). pick (same y x) (some (r_arr j true)) (find ss x m n)) (omega arith) (omega arith)
find-step y (k_arr false) ss x i j = ap₂ (λ (m n : ℕ). pick (same y x) (some (r_arr j false)) (find ss x m n)) (omega arith) (omega arith)

pub ref-of-kind : (k : Kind) (i j : ℕ) → ref_kind (ref-of k i j) ≡ k
unfolding ref-of
ref-of-kind k_word i j = refl
ref-of-kind (k_arr w) i j = refl

-- the name of the first that is left stands behind three words
pub first-name : {w : List ℕ} {a s : ℕ} (l : Local) (ls : List Local) → length w < 18446744073709551616 → s ≡ min (a + 3) 18446744073709551615 → Has w a (list_row local_row (l ∷ ls)) → Has w s (named l.name) × Has w (s + (length l.name + 1)) (list_row local_row ls)
first-name {w} {a} {s} l ls small sum h =
    let h3 = has-next (has-next (has-next h)) in
    let e : a + 1 + 1 + 1 ≡ s = omega (arith, h3.inside) in
    let hs = has_to e h3 in
    (has_left (named l.name) (list_row local_row ls) hs, has_to (omega arith) (has_right (named l.name) (list_row local_row ls) hs))

-- a word, or an array, before others
step_word : (y : Name) (k : Kind) (ss : List Slot) (x : Name) (i j : ℕ) → local_kind k ≡ One → find (slot_of y k ∷ ss) x i j ≡ pick (same y x) (some (ref-of k i j)) (find ss x (i + 1) j)
unfolding ref-of
step_word y k_word ss x i j e = ap (λ (m : ℕ). pick (same y x) (some (r_word i)) (find ss x m j)) (omega arith)
step_word y (k_arr true) ss x i j e = absurd (omega (arith, ap local_kind_no e))
step_word y (k_arr false) ss x i j e = absurd (omega (arith, ap local_kind_no e))

step_array : (y : Name) (k : Kind) (ss : List Slot) (x : Name) (i j : ℕ) → (local_kind k ≡ One → ⊥) → find (slot_of y k ∷ ss) x i j ≡ pick (same y x) (some (ref-of k i j)) (find ss x i (j + 1))
unfolding ref-of
step_array y k_word ss x i j n = absurd (n refl)
step_array y (k_arr w) ss x i j n = ap (λ (m : ℕ). pick (same y x) (some (r_arr j w)) (find ss x i m)) (omega arith)

index_word : (k : Kind) (i j : ℕ) → local_kind k ≡ One → i ≡ ref_index (ref-of k i j)
unfolding ref-of
index_word k_word i j e = refl
index_word (k_arr true) i j e = absurd (omega (arith, ap local_kind_no e))
index_word (k_arr false) i j e = absurd (omega (arith, ap local_kind_no e))

index_array : (k : Kind) (i j : ℕ) → (local_kind k ≡ One → ⊥) → j ≡ ref_index (ref-of k i j)
unfolding ref-of
index_array k_word i j n = absurd (n refl)
index_array (k_arr w) i j n = refl

-- of the names ls only us are left to look at, behind m words and n arrays
pub record Sought (ls : List Local) (x : Name) (m n : ℕ) (us : List Local) : Type 0 where
  pub found : find (slots_in ls) x 0 0 ≡ find (slots_in us) x m n
  pub counted : (m + n) + length us ≡ length ls

module _ {ls : List Local} {x : Name} {m n : ℕ} (l : Local) (us : List Local) (v : Sought ls x m n (l ∷ us)) where
  pub sought_word : {c : ℕ} → local_kind l.kind ≡ One → length ls < 18446744073709551616 → c ≡ min (m + 1) 18446744073709551615 → false ≡ same l.name x → Sought ls x c n us
  sought_word {c} e lt ec other =
      let k : m + 1 ≡ c = omega (arith, v.counted) in
      record {
        found = v.found ∙ step_word l.name l.kind (slots_in us) x m n e ∙ ap (λ (t : Bool). pick t (some (ref-of l.kind m n)) (find (slots_in us) x (m + 1) n)) (sym other) ∙ ap (λ (i : ℕ). find (slots_in us) x i n) k;
        counted = omega (arith, v.counted);
      }

  pub sought_array : {c : ℕ} → (local_kind l.kind ≡ One → ⊥) → length ls < 18446744073709551616 → c ≡ min (n + 1) 18446744073709551615 → false ≡ same l.name x → Sought ls x m c us
  sought_array {c} e lt ec other =
      let k : n + 1 ≡ c = omega (arith, v.counted) in
      record {
        found = v.found ∙ step_array l.name l.kind (slots_in us) x m n e ∙ ap (λ (t : Bool). pick t (some (ref-of l.kind m n)) (find (slots_in us) x m (n + 1))) (sym other) ∙ ap (find (slots_in us) x m) k;
        counted = omega (arith, v.counted);
      }

  pub own_word : {kind : LocalKind} → kind ≡ local_kind l.kind → kind ≡ One → true ≡ same l.name x → IsOwn (slots_in ls) x (record { index = m; kind = kind })
  own_word {kind} ek e hit =
      record {
        ref = ref-of l.kind m n;
        is = v.found ∙ step_word l.name l.kind (slots_in us) x m n (sym ek ∙ e) ∙ ap (λ (t : Bool). pick t (some (ref-of l.kind m n)) (find (slots_in us) x (m + 1) n)) (sym hit);
        index = index_word l.kind m n (sym ek ∙ e);
        kind = ek ∙ ap local_kind (sym (ref-of-kind l.kind m n));
      }

  pub own_array : {kind : LocalKind} → kind ≡ local_kind l.kind → (kind ≡ One → ⊥) → true ≡ same l.name x → IsOwn (slots_in ls) x (record { index = n; kind = kind })
  own_array {kind} ek e hit =
      record {
        ref = ref-of l.kind m n;
        is = v.found ∙ step_array l.name l.kind (slots_in us) x m n (λ q. e (ek ∙ q)) ∙ ap (λ (t : Bool). pick t (some (ref-of l.kind m n)) (find (slots_in us) x m (n + 1))) (sym hit);
        index = index_array l.kind m n (λ q. e (ek ∙ q));
        kind = ek ∙ ap local_kind (sym (ref-of-kind l.kind m n));
      }
