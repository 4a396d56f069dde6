-- What the generator makes of a name is what its reference makes of it.
use Rattle.std.proofs.Common.{◌≡◌, refl, ap}
use mathlib.Core.Option.{Option, some, none}
use Rattle.language.specs.Syntax.{opt, Name}
use Rattle.language.specs.Meaning.{on_some, Is, is_word, is_arr, is_table, is_fn, Top, as_word, as_arr}
use Rattle.steps.specs.Steps.{Opnd, o_top}
use Rattle.steps.specs.Generate.{Scope, Ref, r_word, r_arr, find, ref_arr, the_arr}
use Rattle.generator.specs.Resolved.{v_arr, read_ref, read_top, read_name, copy_ref, pass_name, set_ref, set_top, set_name}
use Rattle.names.specs.declared.found.Reference.TheVariants.{Other}
use Rattle.names.specs.Refer.{of_ref, of_is, meant}
use Rattle.names.proofs.Referents.{generated}
use Rattle.resolver.specs.Stands.{read_of, pass_of, set_of, array_of}

by_top : (P : Option Top → Type 0) → P none → ((f x : Name) (i : Is) → P (some (record { file = f; name = x; is = i }))) → (t : Option Top) → P t
by_top P a b none = a
by_top P a b (some t) = b t.file t.name t.is

pub read_is : (Γ : Scope) (x : Name) → read_name Γ x ≡ read_of (meant Γ x)
read_is Γ x = go (find Γ.slots x 0 0) (Γ.top x)
  where
    top : (i : Is) (f y : Name) → read_top (as_word (record { file = f; name = y; is = i })) ≡ read_of (of_is i)
    top (is_word i) f y = refl
    top (is_arr a w) f y = refl
    top (is_table fs) f y = refl
    top (is_fn g) f y = refl

    go : (r : Option Ref) (t : Option Top) → opt r (read_top (on_some t as_word)) read_ref ≡ read_of (opt r (opt t Other (λ u. of_is u.is)) of_ref)
    go (some (r_word k)) t = refl
    go (some (r_arr j w)) t = refl
    go none t = by_top (λ t. read_top (on_some t as_word) ≡ read_of (opt t Other (λ u. of_is u.is))) refl (λ f y i. top i f y) t

pub set_is : (Γ : Scope) (x : Name) → set_name Γ x ≡ set_of (meant Γ x)
set_is Γ x = go (find Γ.slots x 0 0) (Γ.top x)
  where
    top : (i : Is) (f y : Name) → set_top (as_word (record { file = f; name = y; is = i })) ≡ set_of (of_is i)
    top (is_word i) f y = refl
    top (is_arr a w) f y = refl
    top (is_table fs) f y = refl
    top (is_fn g) f y = refl

    go : (r : Option Ref) (t : Option Top) → opt r (set_top (on_some t as_word)) set_ref ≡ set_of (opt r (opt t Other (λ u. of_is u.is)) of_ref)
    go (some (r_word k)) t = refl
    go (some (r_arr j w)) t = refl
    go none t = by_top (λ t. set_top (on_some t as_word) ≡ set_of (opt t Other (λ u. of_is u.is))) refl (λ f y i. top i f y) t

-- an argument: an array, else a word
abbrev arrays : Option Ref → Option Top → Option Opnd
arrays r t = opt r (on_some (on_some t as_arr) (λ a. some (o_top a))) ref_arr

pub pass-is : (Γ : Scope) (x : Name) → pass_name Γ x ≡ pass_of (meant Γ x)
pass-is Γ x = go (find Γ.slots x 0 0) (Γ.top x)
  where
    top : (i : Is) (f y : Name) → opt (on_some (as_arr (record { file = f; name = y; is = i })) (λ a. some (o_top a))) (read_top (as_word (record { file = f; name = y; is = i }))) v_arr ≡ pass_of (of_is i)
    top (is_word i) f y = refl
    top (is_arr a w) f y = refl
    top (is_table fs) f y = refl
    top (is_fn g) f y = refl

    go : (r : Option Ref) (t : Option Top) → opt (arrays r t) (opt r (read_top (on_some t as_word)) copy_ref) v_arr ≡ pass_of (opt r (opt t Other (λ u. of_is u.is)) of_ref)
    go (some (r_word k)) t = refl
    go (some (r_arr j w)) t = refl
    go none t = by_top (λ t. opt (on_some (on_some t as_arr) (λ a. some (o_top a))) (read_top (on_some t as_word)) v_arr ≡ pass_of (opt t Other (λ u. of_is u.is))) refl (λ f y i. top i f y) t

pub array-is : (Γ : Scope) (x : Name) → the_arr Γ x ≡ array_of (meant Γ x)
array-is Γ x = ap (λ (o : Option Opnd). opt o (o_top 0) (λ o. o)) (generated Γ x).array
