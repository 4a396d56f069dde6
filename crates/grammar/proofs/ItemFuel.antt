-- The steps of parameters, arrays, items and files call themselves on fewer pieces, so that they have equations by Unrolling.
use mathlib.Core.Path.{◌≡◌, refl, ◌∙◌, ap}
use mathlib.Core.Bool.{Bool, true, false, ◌&&◌}
use mathlib.Core.List.{List, [], ◌∷◌}
use mathlib.Core.Option.{Option, some, none}
use Prim.Native.Nat.{ℕ, suc-le-suc}
use native.Mathlib.Omega.{arith}
use native.Mathlib.Nat.{le_refl}
use lib.ListN.{length}
use lib.Dec.{leb}
use Rattle.language.specs.Syntax.{pick, opt, Name, same, Param, Arr, Item, Prog}
use Rattle.grammar.specs.Text.{k_file, k_var, k_array, k_bytes, t_lp, t_rp, t_lb, t_rb, t_lc, t_comma, t_semi, t_colon, t_gets, is_name, IsNumber}
use Rattle.grammar.specs.Parse.{Res, fail, got, bind, num_of}
use Rattle.grammar.specs.ParseAll.{body_step, names_in, eat_num, nums_in, par_in, par_kind, par, pars_more, pars_step, pars_of, vars_in, size, arr, arrs_as, arrs_step, Head, h_var, h_array, h_bytes, h_table, h_use, h_fn, h_none, head_of, in_quotes, text_to, array_it, bytes_it, fn_it, it_by, item, items_step, files_step}
use Rattle.grammar.proofs.PieceKinds.{digits_of}
use Rattle.grammar.proofs.ExprSound.{Post, none_p, got_p, post-bind, post-pick, post-eat, post-eat_name}
use Rattle.grammar.proofs.ExprFuel.{Fewer, NoMore, weaken, bind-same, pick_agree, eat_agree, eat_name_agree}
use Rattle.grammar.proofs.Unrolling.{Less, SameBelow, Well, again_l}
use Rattle.grammar.proofs.StmtFuel.{body_well}

pub post-opt : {A C : Type 0} {Q : C → List Name → Type 0} (o : Option A) (k : A → Res C) → ((a : A) → o ≡ some a → Post Q (k a)) → Post Q (opt o fail k)
post-opt none k f = none_p
post-opt (some a) k f = f a refl

pub num-of : (w : Name) (n : ℕ) → num_of w ≡ some n → IsNumber w n
num-of w n h = digits_of (leb 1 (length w) && leb (length w) 10) w n h

pub post-eat_num : {C : Type 0} {Q : C → List Name → Type 0} (s : List Name) (k : ℕ → List Name → Res C) → ((w : Name) (n : ℕ) (r : List Name) → s ≡ w ∷ r → IsNumber w n → Post Q (k n r)) → Post Q (eat_num s k)
post-eat_num [] k f = none_p
post-eat_num (w ∷ r) k f = post-opt (num_of w) _ (λ n e. f w n r refl (num-of w n e))

pub post-size : {C : Type 0} {Q : C → List Name → Type 0} (s : List Name) (k : ℕ → List Name → Res C) → ((w : Name) (n : ℕ) (r : List Name) → s ≡ t_lb ∷ w ∷ t_rb ∷ t_semi ∷ r → IsNumber w n → Post Q (k n r)) → Post Q (size s k)
post-size s k f =
    post-eat t_lb s _ (λ s₂ q₁. post-eat_num s₂ _ (λ w n s₃ q₂ h. post-eat t_rb s₃ _ (λ s₄ q₃. post-eat t_semi s₄ _ (λ r q₄. f w n r (rw (q₁, q₂, q₃, q₄)) h))))

names_to-l : (s : List Name) → Post (Fewer s) (names_in s)
names_to-l [] = none_p
names_to-l (x ∷ []) = none_p
names_to-l (x ∷ w ∷ s) =
    post-pick (is_name x)
    (λ h. post-pick (same w t_comma) (λ y. post-bind _ (names_to-l s) (λ xs r k. got_p (omega arith))) (λ y. post-pick (same w t_semi) (λ z. got_p (omega arith)) (λ z. none_p)))
    (λ h. none_p)

nums_to-l : (s : List Name) → Post (Fewer s) (nums_in s)
nums_to-l [] = none_p
nums_to-l (x ∷ []) = none_p
nums_to-l (x ∷ w ∷ s) =
    post-opt (num_of x) _ (λ n e. post-pick (same w t_comma) (λ y. post-bind _ (nums_to-l s) (λ xs r k. got_p (omega arith))) (λ y. post-pick (same w t_semi) (λ z. got_p (omega arith)) (λ z. none_p)))

par_in-l : (s : List Name) → Post (NoMore s) (par_in s)
par_in-l [] = none_p
par_in-l (w ∷ s) = post-pick (same w t_rb) (λ y. got_p (omega arith)) (λ y. post-pick (same w t_colon) (λ z. post-eat t_rb s _ (λ r q. got_p (omega (arith, ap length q)))) (λ z. none_p))

par_kind-l : (s : List Name) → Post (NoMore s) (par_kind s)
par_kind-l [] = got_p (le_refl _)
par_kind-l (w ∷ s) = post-pick (same w t_lb) (λ y. weaken (par_in-l s) (λ k r h. omega arith)) (λ y. got_p (le_refl _))

par-l : (s : List Name) → Post (Fewer s) (par s)
par-l s = post-eat_name s _ (λ x r q h. post-bind _ (par_kind-l r) (λ k r' g. got_p (omega (arith, ap length q))))

module _ (G : List Name → Res (List Param)) (L : Less G) where
  pars_more_l : (q : Param) (s : List Name) → Post (NoMore s) (pars_more G q s)
  pars_more_l q [] = none_p
  pars_more_l q (w ∷ s) = post-pick (same w t_comma) (λ y. post-bind _ (L s) (λ qs r h. got_p (omega arith))) (λ y. post-pick (same w t_rp) (λ z. got_p (omega arith)) (λ z. none_p))

  pars_step_l : (s : List Name) → Post (NoMore s) (pars_step G s)
  pars_step_l s = post-bind _ (par-l s) (λ q r h. weaken (pars_more_l q r) (λ qs r' k. omega arith))

module _ (G H : List Name → Res (List Param)) (L : Less G) where
  pars_more_a : (q : Param) (s : List Name) → SameBelow G H s → pars_more G q s ≡ pars_more H q s
  pars_more_a q [] h = refl
  pars_more_a q (w ∷ s) h = pick_agree (same w t_comma) _ (λ y. ap (λ x. bind x (λ qs r. got (q ∷ qs) r)) (h s (le_refl _)))

  pars_step_a : (s : List Name) → SameBelow G H s → pars_step G s ≡ pars_step H s
  pars_step_a s h = bind-same _ _ (par-l s) (λ q r k. pars_more_a q r (λ t g. h t (omega arith)))

pub pars_well : Well pars_step
pars_well = record { less = pars_step_l; only = pars_step_a }

arr-l : (b : Bool) (s : List Name) → Post (Fewer s) (arr b s)
arr-l b s = post-eat_name s _ (λ x s₁ q h. post-size s₁ _ (λ w n r e k. got_p (omega (arith, ap length q, ap length e))))

module _ (G : List Name → Res (List Arr)) (L : Less G) where
  arrs_as_l : (b : Bool) (s : List Name) → Post (Fewer s) (arrs_as G b s)
  arrs_as_l b s = post-bind _ (arr-l b s) (λ a r h. post-bind _ (L r) (λ as₁ r' k. got_p (omega arith)))

  arrs_step_l : (s : List Name) → Post (NoMore s) (arrs_step G s)
  arrs_step_l [] = got_p (le_refl _)
  arrs_step_l (w ∷ s) = post-pick (same w k_array) (λ y. weaken (arrs_as_l true s) (λ a r h. omega arith)) (λ y. post-pick (same w k_bytes) (λ z. weaken (arrs_as_l false s) (λ a r h. omega arith)) (λ z. got_p (le_refl _)))

module _ (G H : List Name → Res (List Arr)) (L : Less G) where
  arrs_as_a : (b : Bool) (s : List Name) → SameBelow G H s → arrs_as G b s ≡ arrs_as H b s
  arrs_as_a b s h = bind-same _ _ (arr-l b s) (λ a r k. ap (λ x. bind x (λ as₁ r'. got (a ∷ as₁) r')) (h r k))

  arrs_step_a : (s : List Name) → SameBelow G H s → arrs_step G s ≡ arrs_step H s
  arrs_step_a [] h = refl
  arrs_step_a (w ∷ s) h =
      ap (λ x. pick (same w k_array) x (pick (same w k_bytes) (arrs_as G false s) (got [] (w ∷ s)))) (arrs_as_a true s (λ t k. h t (omega arith)))
      ∙ ap (λ x. pick (same w k_array) (arrs_as H true s) (pick (same w k_bytes) x (got [] (w ∷ s)))) (arrs_as_a false s (λ t k. h t (omega arith)))

pub arrs_well : Well arrs_step
arrs_well = record { less = arrs_step_l; only = arrs_step_a }

pars_of-l : (s : List Name) → Post (NoMore s) (pars_of s)
pars_of-l [] = none_p
pars_of-l (w ∷ s) = post-pick (same w t_rp) (λ y. got_p (omega arith)) (λ y. again_l pars_step pars_well (w ∷ s))

vars_of-l : (s : List Name) → Post (NoMore s) (vars_in s)
vars_of-l [] = got_p (le_refl _)
vars_of-l (w ∷ s) = post-pick (same w k_var) (λ y. weaken (names_to-l s) (λ xs r h. omega arith)) (λ y. got_p (le_refl _))

text_to-l : (x : Name) (s : List Name) → Post (NoMore s) (text_to x s)
text_to-l x [] = none_p
text_to-l x (v ∷ s) = post-opt (in_quotes v) _ (λ ns e. post-eat t_semi s _ (λ r q. got_p (omega (arith, ap length q))))

array_it-l : (x : Name) (s : List Name) → Post (NoMore s) (array_it x s)
array_it-l x [] = none_p
array_it-l x (w ∷ s) = post-pick (same w t_gets) (λ y. post-bind _ (nums_to-l s) (λ ns r h. got_p (omega arith))) (λ y. post-size (w ∷ s) _ (λ v n r e h. got_p (omega (arith, ap length e))))

bytes_it-l : (x : Name) (s : List Name) → Post (NoMore s) (bytes_it x s)
bytes_it-l x [] = none_p
bytes_it-l x (w ∷ s) = post-pick (same w t_gets) (λ y. weaken (text_to-l x s) (λ ns r h. omega arith)) (λ y. post-size (w ∷ s) _ (λ v n r e h. got_p (omega (arith, ap length e))))

fn_it-l : (x : Name) (s : List Name) → Post (NoMore s) (fn_it x s)
fn_it-l x s =
    post-eat t_lp s _ (λ s₁ q₁. post-bind _ (pars_of-l s₁) (λ qs s₂ h₁. post-eat t_lc s₂ _ (λ s₃ q₂. post-bind _ (vars_of-l s₃) (λ xs s₄ h₂. post-bind _ (again_l arrs_step arrs_well s₄) (λ as₁ s₅ h₃. post-bind _ (again_l body_step body_well s₅) (λ b r h₄.
    got_p (omega (arith, ap length q₁, ap length q₂))))))))

it_by-l : (h : Head) (s : List Name) → Post (NoMore s) (it_by h s)
it_by-l h_var s = post-eat_name s _ (λ x s₁ q h. post-eat t_semi s₁ _ (λ r e. got_p (omega (arith, ap length q, ap length e))))
it_by-l h_array s = post-eat_name s _ (λ x s₁ q h. weaken (array_it-l x s₁) (λ i r k. omega (arith, ap length q)))
it_by-l h_bytes s = post-eat_name s _ (λ x s₁ q h. weaken (bytes_it-l x s₁) (λ i r k. omega (arith, ap length q)))
it_by-l h_table s = post-eat_name s _ (λ x s₁ q h. post-eat t_gets s₁ _ (λ s₂ e. post-bind _ (names_to-l s₂) (λ xs r k. got_p (omega (arith, ap length q, ap length e)))))
it_by-l h_use s = post-eat_name s _ (λ x s₁ q h. post-eat t_colon s₁ _ (λ s₂ e. post-bind _ (names_to-l s₂) (λ xs r k. got_p (omega (arith, ap length q, ap length e)))))
it_by-l h_fn s = post-eat_name s _ (λ x s₁ q h. weaken (fn_it-l x s₁) (λ i r k. omega (arith, ap length q)))
it_by-l h_none s = none_p

item-l : (s : List Name) → Post (Fewer s) (item s)
item-l [] = none_p
item-l (w ∷ s) = weaken (it_by-l (head_of w) s) (λ i r h. suc-le-suc h)

items_step-l : (G : List Name → Res (List Item)) → Less G → Less (items_step G)
items_step-l G L [] = got_p (le_refl _)
items_step-l G L (w ∷ s) = post-pick (same w k_file) (λ y. got_p (le_refl _)) (λ y. post-bind _ (item-l (w ∷ s)) (λ i r h. post-bind _ (L r) (λ is r' k. got_p (omega arith))))

items_step-a : (G H : List Name → Res (List Item)) → Less G → (s : List Name) → SameBelow G H s → items_step G s ≡ items_step H s
items_step-a G H L [] h = refl
items_step-a G H L (w ∷ s) h = ap (λ x. pick (same w k_file) (got [] (w ∷ s)) x) (bind-same _ _ (item-l (w ∷ s)) (λ i r k. ap (λ x. bind x (λ is r'. got (i ∷ is) r')) (h r k)))

pub items_well : Well items_step
items_well = record { less = items_step-l; only = items_step-a }

files_step-l : (G : List Name → Res Prog) → Less G → Less (files_step G)
files_step-l G L [] = got_p (le_refl _)
files_step-l G L (w ∷ s) =
    post-pick (same w k_file)
    (λ y. post-eat_name s _ (λ x s₁ q h. post-eat t_semi s₁ _ (λ s₂ e. post-bind _ (again_l items_step items_well s₂) (λ is r k. post-bind _ (L r) (λ fs r' g. got_p (omega (arith, ap length q, ap length e)))))))
    (λ y. none_p)

files_step-a : (G H : List Name → Res Prog) → Less G → (s : List Name) → SameBelow G H s → files_step G s ≡ files_step H s
files_step-a G H L [] h = refl
files_step-a G H L (w ∷ s) h =
    pick_agree (same w k_file) _ (λ y. eat_name_agree s _ _ (λ x s₁ q. eat_agree t_semi s₁ _ _ (λ s₂ e. bind-same _ _ (again_l items_step items_well s₂) (λ is r k.
    ap (λ v. bind v (λ fs r'. got (record { name = x; items = is } ∷ fs) r')) (h r (omega arith))))))

pub files_well : Well files_step
files_well = record { less = files_step-l; only = files_step-a }
