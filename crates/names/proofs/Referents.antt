-- What a name stands for, by its kind's number; and that the generator asks no more of it.
use Rattle.std.proofs.Common.{◌≡◌, ℕ, true, sym, refl, ap, ◌∙◌}
use mathlib.Core.Option.{Option, some, none}
use Rattle.language.specs.Syntax.{opt, Name, Item, i_word, i_arr, i_data, i_table, i_fn, i_use, Fn, Prog}
use Rattle.language.specs.Meaning.{on_some, Is, is_word, is_arr, is_table, is_fn, Top, resolve, as_word, as_arr}
use Rattle.steps.specs.Steps.{o_top, s_num, s_getw, s_setw}
use Rattle.steps.specs.Generate.{Ref, r_word, r_arr, find, scope, slots_of, is_wide, ref_arr, ref_wide, ref_word, copies, sets_to}
use Rattle.names.specs.declared.found.Reference.TheVariants.{Other}
use Rattle.names.specs.Finds.{top_in}
use Rattle.names.specs.Refer.{of_ref, of_is, item_meant, meant, operand, wide, own_place, reads, sets, NamesGenerated}

pub meant_item : (f : Name) (i : Item) (w a : ℕ) → item_meant i w a ≡ opt (top_in f i w a) Other (λ t. of_is t.is)
meant_item f (i_word x) w a = refl
meant_item f (i_arr r) w a = refl
meant_item f (i_data d x ns) w a = refl
meant_item f (i_table x fs) w a = refl
meant_item f (i_fn g) w a = refl
meant_item f (i_use y xs) w a = refl

-- by what was found
pub meant_own : (p : Prog) (f : Name) (g : Fn) (x : Name) (r : Ref) → find (slots_of g) x 0 0 ≡ some r → of_ref r ≡ meant (scope p f (slots_of g)) x
meant_own p f g x r e = sym (ap (λ (o : Option Ref). opt o (opt (resolve p f x) Other (λ t. of_is t.is)) of_ref) e)

pub meant_top : (p : Prog) (f : Name) (g : Fn) (x : Name) (o : Option Top) → find (slots_of g) x 0 0 ≡ none → resolve p f x ≡ o → opt o Other (λ t. of_is t.is) ≡ meant (scope p f (slots_of g)) x
meant_top p f g x o e q = ap (λ (u : Option Top). opt u Other (λ t. of_is t.is)) (sym q) ∙ sym (ap (λ (u : Option Ref). opt u (opt (resolve p f x) Other (λ t. of_is t.is)) of_ref) e)

-- the generator's questions, of what was found
arrays : (r : Option Ref) (t : Option Top) → opt r (on_some (on_some t as_arr) (λ a. some (o_top a))) ref_arr ≡ operand (opt r (opt t Other (λ u. of_is u.is)) of_ref)
arrays (some (r_word i)) t = refl
arrays (some (r_arr i w)) t = refl
arrays none none = refl
arrays none (some t) = go t.is
  where
    go : (s : Is) → on_some (on_some (some (record { file = t.file; name = t.name; is = s })) as_arr) (λ a. some (o_top a)) ≡ operand (of_is s)
    go (is_word i) = refl
    go (is_arr a w) = refl
    go (is_table fs) = refl
    go (is_fn g) = refl

widths : (r : Option Ref) (t : Option Top) → opt r (opt t true (λ u. is_wide u.is)) ref_wide ≡ wide (opt r (opt t Other (λ u. of_is u.is)) of_ref)
widths (some (r_word i)) t = refl
widths (some (r_arr i w)) t = refl
widths none none = refl
widths none (some t) = go t.is
  where
    go : (s : Is) → is_wide s ≡ wide (of_is s)
    go (is_word i) = refl
    go (is_arr a w) = refl
    go (is_table fs) = refl
    go (is_fn g) = refl

places : (r : Option Ref) (t : Option Top) → on_some r ref_word ≡ own_place (opt r (opt t Other (λ u. of_is u.is)) of_ref)
places (some (r_word i)) t = refl
places (some (r_arr i w)) t = refl
places none none = refl
places none (some t) = go t.is
  where
    go : (s : Is) → none ≡ own_place (of_is s)
    go (is_word i) = refl
    go (is_arr a w) = refl
    go (is_table fs) = refl
    go (is_fn g) = refl

read : (d : ℕ) (r : Option Ref) (t : Option Top) → opt r (opt (on_some t as_word) (s_num d 0) (s_getw d)) (copies d) ≡ reads (opt r (opt t Other (λ u. of_is u.is)) of_ref) d
read d (some (r_word i)) t = refl
read d (some (r_arr i w)) t = refl
read d none none = refl
read d none (some t) = go t.is
  where
    go : (s : Is) → opt (as_word (record { file = t.file; name = t.name; is = s })) (s_num d 0) (s_getw d) ≡ reads (of_is s) d
    go (is_word i) = refl
    go (is_arr a w) = refl
    go (is_table fs) = refl
    go (is_fn g) = refl

set : (d : ℕ) (r : Option Ref) (t : Option Top) → opt r (opt (on_some t as_word) (s_num d 0) (λ i. s_setw i d)) (sets_to d) ≡ sets (opt r (opt t Other (λ u. of_is u.is)) of_ref) d
set d (some (r_word i)) t = refl
set d (some (r_arr i w)) t = refl
set d none none = refl
set d none (some t) = go t.is
  where
    go : (s : Is) → opt (as_word (record { file = t.file; name = t.name; is = s })) (s_num d 0) (λ i. s_setw i d) ≡ sets (of_is s) d
    go (is_word i) = refl
    go (is_arr a w) = refl
    go (is_table fs) = refl
    go (is_fn g) = refl

pub generated : NamesGenerated
generated Γ x =
    let r = find Γ.slots x 0 0 in
    let t = Γ.top x in
    record { array = arrays r t; width = widths r t; place = places r t; read = λ d. read d r t; set = λ a. set a r t }
