-- The limits of items, part by part.
use Rattle.std.proofs.Common.{◌≡◌, ℕ, Bool, true, false, ◌&&◌, ◌⊎◌, inl, inr, leb, List, [], ◌∷◌, ◌++◌, refl, ap, ◌∙◌, ap₂, arith}
use Rattle.language.specs.Syntax.{pick, Name, Param, Arr, Fn}
use Rattle.language.specs.Words.{all, bit}
use Rattle.language.specs.Checks.{sizes, param_names, arr_names}
use Rattle.rows.specs.Trees.{Local, map_list, of_param, of_var, of_array, locals}
use Rattle.limits.proofs.Flags.{and_assoc}
use Rattle.limits.specs.Within.{local_names, local_sizes, few}

pub sizes_local : (as₁ : List Arr) → local_sizes (map_list of_array as₁) ≡ sizes 4096 as₁
sizes_local [] = refl
sizes_local (a ∷ as₁) = and_assoc (leb 1 a.size) (leb a.size 4096) (local_sizes (map_list of_array as₁)) ∙ ap (λ (t : Bool). leb 1 a.size && (leb a.size 4096 && t)) (sizes_local as₁)

names-arrays : (as₁ : List Arr) → local_names (map_list of_array as₁) ≡ arr_names as₁
names-arrays [] = refl
names-arrays (a ∷ as₁) = ap (λ (l : List Name). a.name ∷ l) (names-arrays as₁)

names-vars : (xs : List Name) (ls : List Local) → local_names (map_list of_var xs ++ ls) ≡ xs ++ local_names ls
names-vars [] ls = refl
names-vars (x ∷ xs) ls = ap (λ (l : List Name). x ∷ l) (names-vars xs ls)

names-params : (qs : List Param) (ls : List Local) → local_names (map_list of_param qs ++ ls) ≡ param_names qs ++ local_names ls
names-params [] ls = refl
names-params (q ∷ qs) ls = ap (λ (l : List Name). q.name ∷ l) (names-params qs ls)

pub names_local : (g : Fn) → local_names (locals g) ≡ param_names g.params ++ (g.vars ++ arr_names g.arrs)
names_local g =
    let us = map_list of_array g.arrs in
    names-params g.params (map_list of_var g.vars ++ us) ∙ ap (λ (l : List Name). param_names g.params ++ l) (names-vars g.vars us ∙ ap (λ (l : List Name). g.vars ++ l) (names-arrays g.arrs))

-- what the values of an array are below, words or bytes
pub limit_is : {v l : ℕ} (wide : Bool) → v ≡ bit wide → ((v ≡ 1) × (l ≡ all)) ⊎ ((v ≡ 1 → ⊥) × (l ≡ 256)) → l ≡ pick wide all 256
limit_is true e (inl k) = k.1
limit_is true e (inr k) = absurd (k.0 e)
limit_is false e (inl k) = absurd (omega (arith, e, k.0))
limit_is false e (inr k) = k.1

pub few-same : {a b c x y z : ℕ} → a ≡ x → b ≡ y → c ≡ z → few a b c ≡ few x y z
few-same e f g = ap₂ (λ (s t : Bool). s && t) (ap (λ (n : ℕ). leb n 8) e) (ap₂ (λ (s t : Bool). s && t) (ap (λ (n : ℕ). leb n 64) f) (ap (λ (n : ℕ). leb n 16) g))
