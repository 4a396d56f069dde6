-- A function's names as one list, their kinds, and the parameters of what is called.
use Rattle.std.proofs.Common.{◌≡◌, ℕ, suc, ◌+◌, true≢false, Bool, true, false, ◌||◌, List, [], ◌∷◌, ◌++◌, length, Some, None, sym, refl, ap, ◌∙◌, subst, ap₂, append_assoc}
use mathlib.Core.Option.{Option, some, none}
use Rattle.std.specs.Prelude.{is_some}
use Rattle.std.specs.declared.option.Option as std
use Rattle.language.specs.Syntax.{pick, opt, Name, same, listed, Kind, k_word, k_arr, Param, Arr, Fn, Item, i_word, i_arr, i_data, i_table, i_fn, i_use, Prog}
use Rattle.language.specs.Meaning.{on_some, or_else, Top, resolve, as_fn, as_table}
use Rattle.language.specs.Checks.{in_params, in_arrs, kind_of, kind_is, is_local, fn_named, head_fn, params_of, params_of_table}
use Rattle.steps.specs.Generate.{Slot, w_slot, a_slot, Ref, find, slot_of, arr_slots, var_slots, slots_from, slots_of}
use Rattle.rows.specs.Has.{Has, named}
use Rattle.rows.specs.Trees.{Local, list_row, map_list, kind_no, of_param, of_var, of_array, locals, item_row}
use Rattle.names.specs.declared.found.Spot.{Spot}
use Rattle.limits.specs.declared.entries.Entries.{Entries}
use Rattle.limits.specs.declared.entries.Locals.{Locals}
use Rattle.rows.specs.declared.kind.LocalKind.{LocalKind}
use Rattle.rows.specs.declared.kind.ItemKind.TheVariants.{Table, Function}
use Rattle.rows.specs.Kinds.{local_kind, kind_of_item as item_kind}
use Rattle.names.specs.declared.found.Own.{Own}
use Rattle.names.specs.Finds.{slots_in, ref_kind, top_in, FindsOwn, IsTop, Resolves}
use Rattle.names.specs.Kinds.{kind_found, kind_of_item, item_params, item_table, kind_top, FindsParams, called, FindsCalled}
use Rattle.names.proofs.OwnNames.{ref-of, find-step, ref-of-kind, word_bit, array_bit}

-- rows of lists, one behind another
pub list_row-append : {A : Type 0} (row : A → List ℕ) (xs ys : List A) → list_row row (xs ++ ys) ≡ list_row row xs ++ list_row row ys
list_row-append row [] ys = refl
list_row-append row (x ∷ xs) ys = ap (λ r. row x ++ r) (list_row-append row xs ys) ∙ sym (append_assoc (row x) (list_row row xs) (list_row row ys))

pub map-length : {A C : Type 0} (f : A → C) (xs : List A) → length (map_list f xs) ≡ length xs
map-length f [] = refl
map-length f (x ∷ xs) = ap suc (map-length f xs)

-- an item of any other kind has no parameters, or is no table
pub params_none : (i : Item) → (item_kind i ≡ Function → ⊥) → item_params i ≡ none
params_none (i_word x) n = refl
params_none (i_arr q) n = refl
params_none (i_data v y ns) n = refl
params_none (i_table y fs) n = refl
params_none (i_fn g) n = absurd (n refl)
params_none (i_use y ys) n = refl

pub table_none : (p : Prog) (f : Name) (i : Item) → (item_kind i ≡ Table → ⊥) → item_table p f i ≡ none
table_none p f (i_word x) n = refl
table_none p f (i_arr q) n = refl
table_none p f (i_data v y ns) n = refl
table_none p f (i_table y fs) n = absurd (n refl)
table_none p f (i_fn g) n = refl
table_none p f (i_use y ys) n = refl

-- what stands at the top of an item
top-kind-is : (f : Name) (i : Item) (w a : ℕ) → on_some (top_in f i w a) (λ t. kind_is t.is) ≡ kind_of_item i
top-kind-is f (i_word x) w a = refl
top-kind-is f (i_arr r) w a = refl
top-kind-is f (i_data d x ns) w a = refl
top-kind-is f (i_table x fs) w a = refl
top-kind-is f (i_fn g) w a = refl
top-kind-is f (i_use x ys) w a = refl

top-params_are : (f : Name) (i : Item) (w a : ℕ) → on_some (on_some (top_in f i w a) as_fn) (λ h. some h.params) ≡ item_params i
top-params_are f (i_word x) w a = refl
top-params_are f (i_arr r) w a = refl
top-params_are f (i_data d x ns) w a = refl
top-params_are f (i_table x fs) w a = refl
top-params_are f (i_fn g) w a = refl
top-params_are f (i_use x ys) w a = refl

top-table-is : (p : Prog) (f : Name) (i : Item) (w a : ℕ) → on_some (top_in f i w a) (λ t. on_some (as_table t) (λ fs. head_fn p t.file fs)) ≡ item_table p f i
top-table-is p f (i_word x) w a = refl
top-table-is p f (i_arr r) w a = refl
top-table-is p f (i_data d x ns) w a = refl
top-table-is p f (i_table x fs) w a = refl
top-table-is p f (i_fn g) w a = refl
top-table-is p f (i_use x ys) w a = refl

params_to : (w : List ℕ) {o q : Option (List Param)} (r : std.Option (Entries Locals)) → q ≡ o → FindsParams w o r → FindsParams w q r
params_to w None e v = e ∙ v
params_to w (Some n) e v = record { params = v.params; is = e ∙ v.is; there = v.there }

-- at an item that was found
module _ {w : List ℕ} {s : Spot} {o : Option Top} (v : IsTop w s o) where
  pub kind_here : {n : std.Option LocalKind} → ((i : Item) → Has w s.item (item_row i) → n ≡ kind_found (kind_of_item i)) → n ≡ kind_found (on_some o (λ t. kind_is t.is))
  kind_here it = it v.item v.at_item ∙ ap kind_found (sym (ap (λ (q : Option Top). on_some q (λ t. kind_is t.is)) v.is ∙ top-kind-is v.file v.item s.words s.arrays))

  pub params_here : (q : std.Option (Entries Locals)) → ((i : Item) → Has w s.item (item_row i) → FindsParams w (item_params i) q) → FindsParams w (on_some (on_some o as_fn) (λ h. some h.params)) q
  params_here q it = params_to w q (ap (λ (t : Option Top). on_some (on_some t as_fn) (λ h. some h.params)) v.is ∙ top-params_are v.file v.item s.words s.arrays) (it v.item v.at_item)

  pub table_here : (p : Prog) (q : std.Option (Entries Locals)) → ((f : Name) (i : Item) → Has w s.file (named f) → Has w s.item (item_row i) → FindsParams w (item_table p f i) q) → FindsParams w (on_some o (λ t. on_some (as_table t) (λ fs. head_fn p t.file fs))) q
  table_here p q it = params_to w q (ap (λ (u : Option Top). on_some u (λ t. on_some (as_table t) (λ fs. head_fn p t.file fs))) v.is ∙ top-table-is p v.file v.item s.words s.arrays) (it v.file v.item v.at_file v.at_item)

-- a function's names: the kind of the first that is x
in_list : List Local → Name → Option Kind
in_list [] x = none
in_list (l ∷ ls) x = pick (same l.name x) (some l.kind) (in_list ls x)

list_found : (ls : List Local) (x : Name) (i j : ℕ) → in_list ls x ≡ on_some (find (slots_in ls) x i j) (λ r. some (ref_kind r))
unfolding in_list
list_found [] x i j = refl
list_found (l ∷ ls) x i j =
    let m = i + word_bit (kind_no l.kind) in
    let n = j + array_bit (kind_no l.kind) in
    ap (pick (same l.name x) (some l.kind)) (list_found ls x m n)
    ∙ go (same l.name x) (find (slots_in ls) x m n)
    ∙ sym (ap (λ (o : Option Ref). on_some o (λ r. some (ref_kind r))) (find-step l.name l.kind (slots_in ls) x i j))
  where
    go : (b : Bool) (o : Option Ref) → pick b (some l.kind) (on_some o (λ r. some (ref_kind r))) ≡ on_some (pick b (some (ref-of l.kind i j)) o) (λ r. some (ref_kind r))
    go true o = ap some (sym (ref-of-kind l.kind i j))
    go false o = refl

in_app : (ls ms : List Local) (x : Name) → in_list (ls ++ ms) x ≡ or_else (in_list ls x) (in_list ms x)
unfolding in_list
in_app [] ms x = refl
in_app (l ∷ ls) ms x = ap (λ (o : Option Kind). pick (same l.name x) (some l.kind) o) (in_app ls ms x) ∙ go (same l.name x)
  where
    go : (b : Bool) → pick b (some l.kind) (or_else (in_list ls x) (in_list ms x)) ≡ or_else (pick b (some l.kind) (in_list ls x)) (in_list ms x)
    go true = refl
    go false = refl

in_ps : (qs : List Param) (x : Name) → in_list (map_list of_param qs) x ≡ in_params qs x
unfolding in_list
in_ps [] x = refl
in_ps (q ∷ qs) x = ap (λ (o : Option Kind). pick (same q.name x) (some q.kind) o) (in_ps qs x)

in_vars : (xs : List Name) (x : Name) → in_list (map_list of_var xs) x ≡ pick (listed x xs) (some k_word) none
unfolding in_list
in_vars [] x = refl
in_vars (y ∷ xs) x = ap (λ (o : Option Kind). pick (same y x) (some k_word) o) (in_vars xs x) ∙ go (same y x) (listed x xs)
  where
    go : (a b : Bool) → pick a (some k_word) (pick b (some k_word) none) ≡ pick (a || b) (some k_word) none
    go true b = refl
    go false b = refl

in_as : (as₁ : List Arr) (x : Name) → in_list (map_list of_array as₁) x ≡ in_arrs as₁ x
unfolding in_list
in_as [] x = refl
in_as (a ∷ as₁) x = ap (λ (o : Option Kind). pick (same a.name x) (some (k_arr a.wide)) o) (in_as as₁ x)

in_locals : (g : Fn) (x : Name) → in_list (locals g) x ≡ or_else (in_params g.params x) (or_else (pick (listed x g.vars) (some k_word) none) (in_arrs g.arrs x))
in_locals g x = in_app (map_list of_param g.params) (map_list of_var g.vars ++ map_list of_array g.arrs) x ∙ ap₂ or_else (in_ps g.params x) (in_app (map_list of_var g.vars) (map_list of_array g.arrs) x ∙ ap₂ or_else (in_vars g.vars x) (in_as g.arrs x))

or_or : (a b c : Option Kind) → or_else (or_else a b) c ≡ or_else a (or_else b c)
or_or none b c = refl
or_or (some k) b c = refl

-- the generator has the same names in the same order
slots_are : (g : Fn) → slots_in (locals g) ≡ slots_of g
slots_are g = ps g.params
  where
    rs : (bs : List Arr) → slots_in (map_list of_array bs) ≡ arr_slots bs
    rs [] = refl
    rs (b ∷ bs) = ap (λ (l : List Slot). a_slot b.name b.wide ∷ l) (rs bs)

    vs : (xs : List Name) → slots_in (map_list of_var xs ++ map_list of_array g.arrs) ≡ var_slots xs g.arrs
    vs [] = rs g.arrs
    vs (x ∷ xs) = ap (λ (l : List Slot). w_slot x ∷ l) (vs xs)

    ps : (qs : List Param) → slots_in (map_list of_param qs ++ (map_list of_var g.vars ++ map_list of_array g.arrs)) ≡ slots_from qs g.vars g.arrs
    ps [] = vs g.vars
    ps (q ∷ qs) = ap (λ (l : List Slot). slot_of q.name q.kind ∷ l) (ps qs)

pub own-slots : (g : Fn) (x : Name) (q : std.Option Own) → FindsOwn (slots_in (locals g)) x q → FindsOwn (slots_of g) x q
own-slots g x q v = subst (λ (ss : List Slot). FindsOwn ss x q) (slots_are g) v

pub own-some : (g : Fn) (x : Name) (q : std.Option Own) → FindsOwn (slots_of g) x q → is_some q ≡ true → (r : Ref) × (find (slots_of g) x 0 0 ≡ some r)
own-some g x None v e = absurd (true≢false (sym e))
own-some g x (Some o) v e = (v.ref, v.is)

pub own-none : (g : Fn) (x : Name) (q : std.Option Own) → FindsOwn (slots_of g) x q → is_some q ≡ false → find (slots_of g) x 0 0 ≡ none
own-none g x None v e = v
own-none g x (Some o) v e = absurd (true≢false e)

own-kind : (g : Fn) (x : Name) → in_list (locals g) x ≡ on_some (find (slots_of g) x 0 0) (λ r. some (ref_kind r))
own-kind g x = list_found (locals g) x 0 0 ∙ ap (λ (ss : List Slot). on_some (find ss x 0 0) (λ r. some (ref_kind r))) (slots_are g)

-- a name's kind: among the function's own, else at the top
kind-split : (p : Prog) (f : Name) (g : Fn) (x : Name) → kind_of p f g x ≡ or_else (in_list (locals g) x) (kind_top p f x)
kind-split p f g x =
    sym (ap (λ (o : Option Kind). or_else o (kind_top p f x)) (in_locals g x) ∙ or_or (in_params g.params x) (or_else (pick (listed x g.vars) (some k_word) none) (in_arrs g.arrs x)) (kind_top p f x) ∙ ap (or_else (in_params g.params x)) (or_or (pick (listed x g.vars) (some k_word) none) (in_arrs g.arrs x) (kind_top p f x)))

pub kind-own : (p : Prog) (f : Name) (g : Fn) (x : Name) {r : Ref} {n : std.Option LocalKind} → find (slots_of g) x 0 0 ≡ some r → n ≡ Some (local_kind (ref_kind r)) → n ≡ kind_found (kind_of p f g x)
kind-own p f g x {r} {n} e k =
    let q : in_list (locals g) x ≡ some (ref_kind r) = own-kind g x ∙ ap (λ (o : Option Ref). on_some o (λ t. some (ref_kind t))) e in
    k ∙ sym (ap kind_found (kind-split p f g x ∙ ap (λ (o : Option Kind). or_else o (kind_top p f x)) q))

pub kind_else : (p : Prog) (f : Name) (g : Fn) (x : Name) {n : std.Option LocalKind} → find (slots_of g) x 0 0 ≡ none → n ≡ kind_found (kind_top p f x) → n ≡ kind_found (kind_of p f g x)
kind_else p f g x {n} e k =
    let q : in_list (locals g) x ≡ none = own-kind g x ∙ ap (λ (o : Option Ref). on_some o (λ t. some (ref_kind t))) e in
    k ∙ sym (ap kind_found (kind-split p f g x ∙ ap (λ (o : Option Kind). or_else o (kind_top p f x)) q))

-- whether a name is one of the function's own
is-own : (g : Fn) (x : Name) → is_local g x ≡ opt (in_list (locals g) x) false (λ k. true)
is-own g x = go (in_params g.params x) (listed x g.vars) (in_arrs g.arrs x) ∙ sym (ap (λ (o : Option Kind). opt o false (λ k. true)) (in_locals g x))
  where
    go : (a : Option Kind) (b : Bool) (c : Option Kind) → opt a (b || opt c false (λ k. true)) (λ k. true) ≡ opt (or_else a (or_else (pick b (some k_word) none) c)) false (λ k. true)
    go none true c = refl
    go none false c = refl
    go (some k) b c = refl

own-found : (g : Fn) (x : Name) (o : Option Ref) → find (slots_of g) x 0 0 ≡ o → is_local g x ≡ opt (on_some o (λ t. some (ref_kind t))) false (λ k. true)
own-found g x o e = is-own g x ∙ ap (λ (q : Option Kind). opt q false (λ k. true)) (own-kind g x ∙ ap (λ (q : Option Ref). on_some q (λ t. some (ref_kind t))) e)

pub called-own : (p : Prog) (f : Name) (g : Fn) (x : Name) {r : Ref} → find (slots_of g) x 0 0 ≡ some r → called p f g x ≡ none
called-own p f g x {r} e = ap (λ (b : Bool). pick b none (resolve p f x)) (own-found g x (some r) e)

pub called-top : (w : List ℕ) (p : Prog) (f : Name) (g : Fn) (x : Name) → find (slots_of g) x 0 0 ≡ none → (q : std.Option Spot) → Resolves w p f x q → FindsCalled w (called p f g x) q
called-top w p f g x e None v = ap (λ (b : Bool). pick b none (resolve p f x)) (own-found g x none e) ∙ v
called-top w p f g x e (Some s) v =
    let u = v.top in
    record { file = u.file; item = u.item; at_file = u.at_file; at_item = u.at_item; is = ap (λ (b : Bool). pick b none (resolve p f x)) (own-found g x none e) ∙ u.is; not_use = u.not_use }

-- the parameters of what is called
params-called : (p : Prog) (f : Name) (g : Fn) (x : Name) → params_of p f g x ≡ on_some (on_some (called p f g x) as_fn) (λ h. some h.params)
params-called p f g x = go (is_local g x)
  where
    go : (b : Bool) → pick b none (on_some (fn_named p f x) (λ h. some h.params)) ≡ on_some (on_some (pick b none (resolve p f x)) as_fn) (λ h. some h.params)
    go true = refl
    go false = refl

table-called : (p : Prog) (f : Name) (g : Fn) (x : Name) → params_of_table p f g x ≡ on_some (called p f g x) (λ t. on_some (as_table t) (λ fs. head_fn p t.file fs))
table-called p f g x = go (is_local g x)
  where
    go : (b : Bool) → pick b none (on_some (resolve p f x) (λ t. on_some (as_table t) (λ fs. head_fn p t.file fs))) ≡ on_some (pick b none (resolve p f x)) (λ t. on_some (as_table t) (λ fs. head_fn p t.file fs))
    go true = refl
    go false = refl

module _ (p : Prog) (f : Name) (g : Fn) (x : Name) where
  pub no_params : called p f g x ≡ none → params_of p f g x ≡ none
  no_params e = params-called p f g x ∙ ap (λ (o : Option Top). on_some (on_some o as_fn) (λ h. some h.params)) e

  pub no_table : called p f g x ≡ none → params_of_table p f g x ≡ none
  no_table e = table-called p f g x ∙ ap (λ (o : Option Top). on_some o (λ t. on_some (as_table t) (λ fs. head_fn p t.file fs))) e

  pub yes_params : {w : List ℕ} {s : Spot} (q : std.Option (Entries Locals)) → IsTop w s (called p f g x) → ((i : Item) → Has w s.item (item_row i) → FindsParams w (item_params i) q) → FindsParams w (params_of p f g x) q
  yes_params {w} q v it = params_to w q (params-called p f g x) (params_here v q it)

  pub yes_table : {w : List ℕ} {s : Spot} (q : std.Option (Entries Locals)) → IsTop w s (called p f g x) → ((f : Name) (i : Item) → Has w s.file (named f) → Has w s.item (item_row i) → FindsParams w (item_table p f i) q) → FindsParams w (params_of_table p f g x) q
  yes_table {w} q v it = params_to w q (table-called p f g x) (table_here v p q it)
