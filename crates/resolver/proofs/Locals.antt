-- A function's names: how many words are among them, its own arrays, what stands before its body.
use Rattle.std.proofs.Common.{None, Some, subst, ◌≡◌, ℕ, suc, ◌+◌, ◌%◌, ◌<◌, ◌≤◌, min, Bool, true, false, leb, List, [], ◌∷◌, length, get_or, sym, refl, ap, ◌∙◌, arith, leb-true}
use Rattle.language.specs.Syntax.{Kind, k_word, k_arr, Param, Arr}
use Rattle.language.specs.Words.{bit}
use Rattle.language.specs.Checks.{sizes, same_k}
use Rattle.limits.specs.declared.entries.Entries.{Entries}
use Rattle.limits.specs.declared.entries.Locals.{Locals}
use Rattle.limits.specs.Entries.{Left, Gives}
use Rattle.rows.specs.declared.kind.LocalKind.TheVariants.{Words as Two}
use Rattle.rows.specs.Kinds.{local_kind, local_kind_no}
use Rattle.rows.specs.Has.{Has}
use Rattle.rows.specs.Trees.{Local, list_row, map_list, of_param, of_array, local_row}
use Rattle.rows.proofs.Having.{has_word, has-next, has_to}
use Rattle.steps.specs.Fits.{Each}
use Rattle.steps.specs.Generate.{Slot, slot_of, words_of, arrays_of, slots_from, shapes_of}
use Rattle.steps.proofs.Checked.{and-true}
use Rattle.generator.specs.ResolvedRows.{shape_words}
use Rattle.names.specs.Finds.{slots_in}

pub word_step : (l : Local) (ls : List Local) → words_of (slots_in (l ∷ ls)) ≡ bit (same_k l.kind k_word) + words_of (slots_in ls)
word_step l ls = go l.kind
  where
    go : (k : Kind) → words_of (slot_of l.name k ∷ slots_in ls) ≡ bit (same_k k k_word) + words_of (slots_in ls)
    go k_word = omega arith
    go (k_arr true) = omega arith
    go (k_arr false) = omega arith

pub words_few : (ls : List Local) → words_of (slots_in ls) ≤ length ls
words_few [] = omega arith
words_few (l ∷ ls) = omega (arith, words_few ls, word_step l ls, bit_le (same_k l.kind k_word))
  where
    bit_le : (b : Bool) → bit b ≤ 1
    bit_le true = omega arith
    bit_le false = omega arith

pub wide-bit : (wide : Bool) → local_kind (k_arr wide) ≡ Two → 1 ≡ bit wide
wide-bit true e = refl
wide-bit false e = absurd (omega (arith, ap local_kind_no e))

pub narrow-bit : (wide : Bool) → (local_kind (k_arr wide) ≡ Two → ⊥) → 0 ≡ bit wide
narrow-bit true n = absurd (n refl)
narrow-bit false n = refl

-- own arrays
abbrev pub array_row : Arr → List ℕ
array_row b = local_row (of_array b)

abbrev pub array_to : Arr → List ℕ
array_to b = bit b.wide ∷ b.size ∷ []

abbrev pub Sized : Arr → Type 0
Sized b = b.size < 4294967296

pub arrays_to : (bs : List Arr) → list_row array_to bs ≡ list_row shape_words (shapes_of bs)
arrays_to [] = refl
arrays_to (b ∷ bs) = ap (λ (l : List ℕ). bit b.wide ∷ b.size ∷ l) (arrays_to bs)

pub all-sized : (bs : List Arr) → sizes 4096 bs ≡ true → Each Sized bs
all-sized [] e = tt
all-sized (b ∷ bs) e =
    let y = and-true (leb 1 b.size) _ e in
    let z = and-true (leb b.size 4096) (sizes 4096 bs) y.1 in
    let l = leb-true b.size 4096 z.0 in
    (omega arith, all-sized bs z.1)

-- what is left of own arrays
abbrev pub ArraysLeft : List ℕ → Entries Locals → List Arr → Type 0
ArraysLeft w s bs = Left local_row w s (map_list of_array bs)

pub arrays_none : {s : Entries Locals} (t : Entries Locals) → Gives (Left local_row) local_row s None t → (w : List ℕ) (bs : List Arr) → ArraysLeft w s bs → bs ≡ []
arrays_none t z w bs k = go bs (z w (map_list of_array bs) k)
  where
    go : (bs : List Arr) → map_list of_array bs ≡ [] → bs ≡ []
    go [] e = refl
    go (b ∷ bs) e = absurd (omega (arith, ap length e))

pub arrays_pass : {s t : Entries Locals} {j : ℕ} → Gives (Left local_row) local_row s (Some j) t → Gives ArraysLeft array_row s (Some j) t
arrays_pass {s} {t} {j} z w bs k = let v = z w (map_list of_array bs) k in go bs v.0 v.1 v.2 v.3 v.4
  where
    first : Local → List Local → Local
    first l [] = l
    first l (m ∷ ms) = m

    others : List Local → List Local
    others [] = []
    others (m ∷ ms) = ms

    go : (bs : List Arr) (l : Local) (ls : List Local) → map_list of_array bs ≡ l ∷ ls → Has w j (local_row l) → Left local_row w t ls → (b : Arr) × (cs : List Arr) × (bs ≡ b ∷ cs) × Has w j (array_row b) × ArraysLeft w t cs
    go [] l ls e h r = absurd (omega (arith, ap length e))
    go (b ∷ cs) l ls e h r = (b, cs, refl, subst (λ m. Has w j (local_row m)) (sym (ap (first l) e)) h, subst (λ ms. Left local_row w t ms) (sym (ap others e)) r)

-- the size of an own array, by its first digit
pub array_size : {w : List ℕ} {a s r : ℕ} (b : Arr) → Has w a (array_row b) → length w < 18446744073709551616 → s ≡ min (a + 1) 18446744073709551615 → r ≡ get_or w s 0 → Sized b → r ≡ b.size
array_size {w} {a} {s} {r} b h small es rd l =
    let h1 = has-next h in
    let z : b.size % 4294967296 ≡ b.size = omega arith in
    rd ∙ has_word (has_to (omega (arith, h1.inside)) h1) ∙ z

-- the words and the arrays among parameters
pub param_slots : (qs : List Param) → slots_in (map_list of_param qs) ≡ slots_from qs [] []
param_slots [] = refl
param_slots (q ∷ qs) = ap (λ (ss : List Slot). slot_of q.name q.kind ∷ ss) (param_slots qs)

pub param_arrays : (qs : List Param) → words_of (slots_from qs [] []) + arrays_of (slots_from qs [] []) ≡ length qs
param_arrays [] = refl
param_arrays (q ∷ qs) = go q.kind (param_arrays qs)
  where
    go : (k : Kind) → words_of (slots_from qs [] []) + arrays_of (slots_from qs [] []) ≡ length qs → words_of (slot_of q.name k ∷ slots_from qs [] []) + arrays_of (slot_of q.name k ∷ slots_from qs [] []) ≡ suc (length qs)
    go k_word e = omega arith
    go (k_arr w) e = omega arith
