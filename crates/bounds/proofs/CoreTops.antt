-- What stands at the top of a program of stage 0: words, and functions that have no arrays.
use mathlib.Core.Path.{◌≡◌, refl, subst, ◌∙◌}
use mathlib.Core.Bool.{Bool, true, false}
use mathlib.Core.List.{List, [], ◌∷◌, append-nil}
use mathlib.Core.Option.{Option, some, none}
use Prim.Native.Nat.{ℕ, ◌+◌, ◌≤◌, max}
use native.Mathlib.Omega.{arith}
use Rattle.language.specs.Syntax.{pick, opt, Name, Fn, Item, i_word, i_arr, i_data, i_table, i_fn, i_use, Prog, stage_b, stage_is, stage}
use Rattle.language.specs.Meaning.{Top, tops, all_tops, arrays_in, all_arrays, as_fn, as_arr, as_table}
use Rattle.steps.specs.Generate.{arrays_of, slots_from, sorted}
use Rattle.steps.specs.Fits.{Each}
use Rattle.steps.proofs.Checked.{AllT, no_top, and_top, all_append}
use Rattle.steps.proofs.Variables.{none-some, some_inj}
use Rattle.lower.proofs.Tame.{kinds_low, arrs_low}

pub record CoreFunction (g : Fn) : Type 0 where
  pub params : arrays_of (slots_from g.params [] []) ≡ 0
  pub own : g.arrs ≡ []
  pub body : stage_b g.body ≡ 0

pub record CoreTop (t : Top) : Type 0 where
  pub no_arr : as_arr t ≡ none
  pub no_table : as_table t ≡ none
  pub function : (g : Fn) → as_fn t ≡ some g → CoreFunction g

no-pick : (w : Bool) (m n k : ℕ) → max (pick w m n) k ≡ 0 → 1 ≤ m → 1 ≤ n → ⊥
no-pick true m n k h a b = omega arith
no-pick false m n k h a b = omega arith

pub of-items : (f : Name) (is : List Item) (w a : ℕ) → stage_is is ≡ 0 → AllT CoreTop (tops f is w a)
of-items f [] w a h = no_top
of-items f (i_word x ∷ is) w a h = and_top (record { no_arr = refl; no_table = refl; function = λ g e. absurd (none-some e) }) (of-items f is (w + 1) a (omega (arith, h)))
of-items f (i_arr r ∷ is) w a h = absurd (no-pick r.wide 1 5 (stage_is is) h (omega arith) (omega arith))
of-items f (i_data d x ns ∷ is) w a h = absurd (no-pick d 4 5 (stage_is is) h (omega arith) (omega arith))
of-items f (i_table x fs ∷ is) w a h = absurd (let z : ⊥ = omega arith in z)
of-items f (i_fn k ∷ is) w a h = and_top (record { no_arr = refl; no_table = refl; function = λ g e. subst CoreFunction (some_inj e) fact }) (of-items f is w a (omega (arith, h)))
  where
    fact : CoreFunction k
    fact = record { params = kinds_low k.params (omega (arith, h)); own = arrs_low k.arrs (omega (arith, h)); body = omega (arith, h) }
of-items f (i_use x ys ∷ is) w a h = absurd (let z : ⊥ = omega arith in z)

pub of-program : (p : Prog) → stage p ≡ 0 → AllT CoreTop (all_tops p 0 0)
of-program [] h = no_top
of-program (f ∷ []) h = all_append (tops f.name f.items 0 0) [] (of-items f.name f.items 0 0 h) no_top
of-program (f ∷ g ∷ fs) h = absurd (let z : ⊥ = omega arith in z)

items-no-arrays : (is : List Item) → stage_is is ≡ 0 → arrays_in is ≡ []
items-no-arrays [] h = refl
items-no-arrays (i_word x ∷ is) h = items-no-arrays is (omega (arith, h))
items-no-arrays (i_arr r ∷ is) h = absurd (no-pick r.wide 1 5 (stage_is is) h (omega arith) (omega arith))
items-no-arrays (i_data d x ns ∷ is) h = absurd (no-pick d 4 5 (stage_is is) h (omega arith) (omega arith))
items-no-arrays (i_table x fs ∷ is) h = absurd (let z : ⊥ = omega arith in z)
items-no-arrays (i_fn k ∷ is) h = items-no-arrays is (omega (arith, h))
items-no-arrays (i_use x ys ∷ is) h = absurd (let z : ⊥ = omega arith in z)

pub program-no-arrays : (p : Prog) → stage p ≡ 0 → all_arrays p ≡ []
program-no-arrays [] h = refl
program-no-arrays (f ∷ []) h = append-nil (arrays_in f.items) ∙ items-no-arrays f.items h
program-no-arrays (f ∷ g ∷ fs) h = absurd (let z : ⊥ = omega arith in z)

-- of what is sorted out
pub none_sorted : {A C : Type 0} (is : Top → Option A) (mk : Top → A → C) (ts : List Top) → AllT (λ t. is t ≡ none) ts → sorted is mk ts ≡ []
none_sorted is mk [] a = refl
none_sorted is mk (t ∷ ts) (and_top q a) = rw q (none_sorted is mk ts a)

pub each_sorted : {A C : Type 0} (is : Top → Option A) (mk : Top → A → C) (P : C → Type 0) (R : Top → Type 0) → ((t : Top) (x : A) → R t → is t ≡ some x → P (mk t x)) → (ts : List Top) → AllT R ts → Each P (sorted is mk ts)
each_sorted is mk P R k [] a = tt
each_sorted {A = A} is mk P R k (t ∷ ts) (and_top q a) = go (is t) refl (each_sorted is mk P R k ts a)
  where
    go : (o : Option A) → is t ≡ o → Each P (sorted is mk ts) → Each P (opt o (sorted is mk ts) (λ x. mk t x ∷ sorted is mk ts))
    go none e h = h
    go (some x) e h = (k t x q e, h)

pub all_map : {Q R : Top → Type 0} → ((t : Top) → Q t → R t) → (ts : List Top) → AllT Q ts → AllT R ts
all_map k [] a = no_top
all_map k (t ∷ ts) (and_top q a) = and_top (k t q) (all_map k ts a)
