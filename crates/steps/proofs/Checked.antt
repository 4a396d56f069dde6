-- What the checks give: no program comes to where nothing is meant, and its steps are linked.
use Rattle.std.proofs.Common.{◌≡◌, ℕ, zero, suc, ◌+◌, ◌<◌, ◌≤◌, Bool, true, false, ◌&&◌, ◌||◌, T, eqb, leb, List, [], ◌∷◌, ◌++◌, length, sym, refl, ap, ◌∙◌, subst, ap₂, append_assoc, arith, ltb→lt, length-append}
use mathlib.Core.Bool.{false≢true}
use mathlib.Core.Option.{Option, some, none}
use Rattle.std.proofs.lemmas.Bool.Decides.{nat_tests}
use Rattle.language.specs.Syntax.{pick, opt, nth, Name, same, listed, Expr, num, var, bin, un, and1, or1, idx, len, call, by_table, input, Exprs, no as no_more_es, and_then, Stmt, set1, store1, ex1, out1, if1, while1, ret1, break1, next1, Block, end, seq1, Kind, k_word, k_arr, Param, Arr, Fn, Item, i_word, i_arr, i_data, i_table, i_fn, i_use, Prog}
use Rattle.language.specs.Meaning.{on_some, or_else, Is, is_word, is_arr, is_table, is_fn, Top, tops, words_in, arrays_in, all_tops, all_words, top_of, used_in, items_of, resolve, as_word, as_arr, as_fn, as_table, all_arrays, first_file, w_main}
use Rattle.language.specs.Checks.{same_k, kind_is, in_params, in_arrs, kind_of, is_kind, any_arr, names_arr, names_in, fits_arg, no_more, fn_named, is_local, params_of, head_fn, params_of_table, same_ps, alike, ok_e, ok_es, ok_s, ok_b, ok_fn, ok_item, ok_is, ok_fs, ok, has_main, param_names, once, sizes, arr_names, file_names, totals}
use Rattle.steps.specs.Steps.{Opnd, Step, s_ret, Act, MFn, MProg, MSt}
use Rattle.steps.specs.Generate.{Ref, r_word, r_arr, find, slot_of, arr_slots, var_slots, slots_from, slots_of, gen_arr, arr_arg, sorted, pos, number, fn_no, fn_nos, scope, gen_fn, boot, gen_prog}
use Rattle.steps.proofs.Outcome.{At}
use Rattle.steps.proofs.Variables.{none-some, some_inj, pick2, wides, wides_++, wides-length, nth_at, snoc_length, kinds}
use Rattle.steps.proofs.Match.{Env, Fun, w_b, WfVar, WfArr, own, top, own_arr, top_arr, Calls, Tables, WfE, WfEs, WfS, WfB, Linked}
use Rattle.steps.specs.Correct.{MidRight, MidAlwaysRight}
use Rattle.steps.proofs.WholeProgram.{Boot, mid_right}

pub and-true : (a b : Bool) → (a && b) ≡ true → (a ≡ true) × (b ≡ true)
and-true true b e = (refl, e)
and-true false b e = absurd (false≢true e)

-- the weight of all functions
pub heavy : List Top → ℕ
heavy [] = 1
heavy (t ∷ ts) = opt (as_fn t) 0 (λ g. suc (suc (w_b g.body))) + heavy ts

abbrev pub env : Prog → Env
env p = record { p = p; P = gen_prog p; W = heavy (all_tops p 0 0); no = fn_no p; nos = fn_nos p }

-- all at the top is right
pub data AllT (Q : Top → Type 0) : List Top → Type 0 where
  no_top : AllT Q []
  and_top : {t : Top} {ts : List Top} → Q t → AllT Q ts → AllT Q (t ∷ ts)

pub all_append : {Q : Top → Type 0} (ts us : List Top) → AllT Q ts → AllT Q us → AllT Q (ts ++ us)
all_append [] us a b = b
all_append (t ∷ ts) us (and_top q a) b = and_top q (all_append ts us a b)

all-at : {Q : Top → Type 0} (ts : List Top) (f x : Name) (t : Top) → AllT Q ts → top_of ts f x ≡ some t → Q t
all-at [] f x t a e = absurd (none-some e)
all-at {Q} (u ∷ us) f x t (and_top q a) e = go (same u.file f && same u.name x) e (λ d. all-at us f x t a d)
  where
    go : (b : Bool) → pick b (some u) (top_of us f x) ≡ some t → (top_of us f x ≡ some t → Q t) → Q t
    go true d k = let z : u ≡ t = cc in subst Q z q
    go false d k = k d

pub all-resolve : {Q : Top → Type 0} (p : Prog) (f x : Name) (t : Top) → AllT Q (all_tops p 0 0) → resolve p f x ≡ some t → Q t
all-resolve {Q} p f x t a e = go (top_of (all_tops p 0 0) f x) refl e
  where
    go2 : (o : Option Name) → on_some o (λ g. top_of (all_tops p 0 0) g x) ≡ some t → Q t
    go2 none d = absurd (none-some d)
    go2 (some g) d = all-at (all_tops p 0 0) g x t a d

    go : (o : Option Top) → top_of (all_tops p 0 0) f x ≡ o → or_else o (on_some (used_in (items_of p f) x) (λ g. top_of (all_tops p 0 0) g x)) ≡ some t → Q t
    go none h d = go2 (used_in (items_of p f) x) d
    go (some u) h d = all-at (all_tops p 0 0) f x t a (h ∙ d)

-- the number of a name among those of its sort
module _ {A C : Type 0} (is : Top → Option A) (mk : Top → A → C) where
  pos_at : (ts : List Top) (f x : Name) (t : Top) (g : A) → top_of ts f x ≡ some t → is t ≡ some g → nth (sorted is mk ts) (pos is ts f x) ≡ some (mk t g)
  pos_at [] f x t g e a = absurd (none-some e)
  pos_at (u ∷ us) f x t g e a = go (same u.file f && same u.name x) (is u) refl e (λ d. pos_at us f x t g d a)
    where
      go : (b : Bool) (o : Option A) → is u ≡ o → pick b (some u) (top_of us f x) ≡ some t → (top_of us f x ≡ some t → nth (sorted is mk us) (pos is us f x) ≡ some (mk t g)) → nth (opt o (sorted is mk us) (λ h. mk u h ∷ sorted is mk us)) (pick b 0 (opt o (pos is us f x) (λ h. suc (pos is us f x)))) ≡ some (mk t g)
      go true o h d k = let z : u ≡ t = some_inj d in let y : o ≡ some g = sym h ∙ (ap is z ∙ a) in rw (y, z) refl
      go false none h d k = k d
      go false (some w) h d k = k d

  pub number_at : (p : Prog) (f x : Name) (t : Top) (g : A) → resolve p f x ≡ some t → is t ≡ some g → nth (sorted is mk (all_tops p 0 0)) (number is p f x) ≡ some (mk t g)
  number_at p f x t g e a = go (top_of (all_tops p 0 0) f x) refl e
    where
      go2 : (o : Option Name) → on_some o (λ g. top_of (all_tops p 0 0) g x) ≡ some t → nth (sorted is mk (all_tops p 0 0)) (opt o 0 (λ g. pos is (all_tops p 0 0) g x)) ≡ some (mk t g)
      go2 none d = absurd (none-some d)
      go2 (some h) d = pos_at (all_tops p 0 0) h x t g d a

      go : (o : Option Top) → top_of (all_tops p 0 0) f x ≡ o → or_else o (on_some (used_in (items_of p f) x) (λ g. top_of (all_tops p 0 0) g x)) ≡ some t → nth (sorted is mk (all_tops p 0 0)) (opt o (opt (used_in (items_of p f) x) 0 (λ g. pos is (all_tops p 0 0) g x)) (λ t. pos is (all_tops p 0 0) f x)) ≡ some (mk t g)
      go none h d = go2 (used_in (items_of p f) x) d
      go (some u) h d = pos_at (all_tops p 0 0) f x t g (h ∙ d) a

nos-at : (p : Prog) (f : Name) (xs : List Name) (i : ℕ) (x : Name) → nth xs i ≡ some x → nth (fn_nos p f xs) i ≡ some (fn_no p f x)
nos-at p f [] i x e = absurd (none-some e)
nos-at p f (y ∷ ys) zero x e = ap (λ z. some (fn_no p f z)) (some_inj e)
nos-at p f (y ∷ ys) (suc i) x e = nos-at p f ys i x e

nos-out : (p : Prog) (f : Name) (xs : List Name) (i : ℕ) → nth xs i ≡ none → nth (fn_nos p f xs) i ≡ none
nos-out p f [] i e = refl
nos-out p f (y ∷ ys) zero e = absurd (none-some (sym e))
nos-out p f (y ∷ ys) (suc i) e = nos-out p f ys i e

same_sym : (x y : Name) → same x y ≡ same y x
same_sym [] [] = refl
same_sym [] (y ∷ ys) = refl
same_sym (x ∷ xs) [] = refl
same_sym (x ∷ xs) (y ∷ ys) = ap (λ b. b && same xs ys) (eqb_sym x y) ∙ ap (λ b. eqb y x && b) (same_sym xs ys)
  where
    eqb_sym : (a b : ℕ) → eqb a b ≡ eqb b a
    eqb_sym a b = grind (arith, nat_tests)

-- a function's own names have their kinds
abbrev kind_ref : Option Ref → Option Kind
kind_ref none = none
kind_ref (some (r_word k)) = some k_word
kind_ref (some (r_arr k w)) = some (k_arr w)

arrs-kind : (bs : List Arr) (x : Name) (i j : ℕ) → kind_ref (find (arr_slots bs) x i j) ≡ in_arrs bs x
arrs-kind [] x i j = refl
arrs-kind (b ∷ bs) x i j = pick2 (λ o k. kind_ref o ≡ k) (same b.name x) refl (arrs-kind bs x i (suc j))

vars-kind : (ys : List Name) (bs : List Arr) (x : Name) (i j : ℕ) → kind_ref (find (var_slots ys bs) x i j) ≡ or_else (pick (listed x ys) (some k_word) none) (in_arrs bs x)
vars-kind [] bs x i j = arrs-kind bs x i j
vars-kind (y ∷ ys) bs x i j = rw (same_sym y x) (go (same x y) (vars-kind ys bs x (suc i) j))
  where
    go : (t : Bool) → kind_ref (find (var_slots ys bs) x (suc i) j) ≡ or_else (pick (listed x ys) (some k_word) none) (in_arrs bs x) → kind_ref (pick t (some (r_word i)) (find (var_slots ys bs) x (suc i) j)) ≡ or_else (pick (t || listed x ys) (some k_word) none) (in_arrs bs x)
    go true h = refl
    go false h = h

abbrev «local» : List Param → List Name → List Arr → Name → Option Kind
«local» qs ys bs x = or_else (in_params qs x) (or_else (pick (listed x ys) (some k_word) none) (in_arrs bs x))

find-kind : (qs : List Param) (ys : List Name) (bs : List Arr) (x : Name) (i j : ℕ) → kind_ref (find (slots_from qs ys bs) x i j) ≡ «local» qs ys bs x
find-kind [] ys bs x i j = vars-kind ys bs x i j
find-kind (q ∷ qs) ys bs x i j = go q.kind (same q.name x) refl (find-kind qs ys bs x (suc i) j) (find-kind qs ys bs x i (suc j))
  where
    go : (k : Kind) (t : Bool) → same q.name x ≡ t → kind_ref (find (slots_from qs ys bs) x (suc i) j) ≡ «local» qs ys bs x → kind_ref (find (slots_from qs ys bs) x i (suc j)) ≡ «local» qs ys bs x → kind_ref (find (slot_of q.name k ∷ slots_from qs ys bs) x i j) ≡ or_else (pick t (some k) (in_params qs x)) (or_else (pick (listed x ys) (some k_word) none) (in_arrs bs x))
    go k_word true e h g = rw e
    go k_word false e h g = rw e h
    go (k_arr w) true e h g = rw e
    go (k_arr w) false e h g = rw e g

or_assoc : {A : Type 0} (a b c d : Option A) → or_else a (or_else b (or_else c d)) ≡ or_else (or_else a (or_else b c)) d
or_assoc none none c d = refl
or_assoc none (some y) c d = refl
or_assoc (some x) b c d = refl

kind-find : (p : Prog) (f : Name) (g : Fn) (x : Name) → kind_of p f g x ≡ or_else (kind_ref (find (slots_of g) x 0 0)) (on_some (resolve p f x) (λ t. kind_is t.is))
kind-find p f g x = or_assoc (in_params g.params x) _ (in_arrs g.arrs x) _ ∙ ap (λ o. or_else o (on_some (resolve p f x) (λ t. kind_is t.is))) (sym (find-kind g.params g.vars g.arrs x 0 0))

same_kind : (j k : Kind) → same_k j k ≡ true → j ≡ k
same_kind k_word k_word h = refl
same_kind k_word (k_arr w) h = absurd (false≢true h)
same_kind (k_arr w) k_word h = absurd (false≢true h)
same_kind (k_arr true) (k_arr true) h = refl
same_kind (k_arr true) (k_arr false) h = absurd (false≢true h)
same_kind (k_arr false) (k_arr true) h = absurd (false≢true h)
same_kind (k_arr false) (k_arr false) h = refl

pub kind_true : (o : Option Kind) (k : Kind) → is_kind o k ≡ true → o ≡ some k
kind_true none k h = absurd (false≢true h)
kind_true (some j) k h = ap some (same_kind j k h)

arr_true : (o : Option Kind) → any_arr o ≡ true → (w : Bool) × (o ≡ some (k_arr w))
arr_true none h = absurd (false≢true h)
arr_true (some k_word) h = absurd (false≢true h)
arr_true (some (k_arr w)) h = (w, refl)

same-kinds : (qs rs : List Param) → same_ps qs rs ≡ true → kinds qs ≡ kinds rs
same-kinds [] [] h = refl
same-kinds [] (r ∷ rs) h = absurd (false≢true h)
same-kinds (q ∷ qs) [] h = absurd (false≢true h)
same-kinds (q ∷ qs) (r ∷ rs) h = let s = and-true (same_k q.kind r.kind) (same_ps qs rs) h in ap₂ (λ k ks. k ∷ ks) (same_kind q.kind r.kind s.0) (same-kinds qs rs s.1)

pub opt_true : {A : Type 0} (o : Option A) (k : A → Bool) → opt o false k ≡ true → (x : A) × (o ≡ some x) × (k x ≡ true)
opt_true none k h = absurd (false≢true h)
opt_true (some x) k h = (x, refl, h)

pub some_then : {A C : Type 0} {y : C} (o : Option A) (k : A → Option C) → on_some o k ≡ some y → (x : A) × (o ≡ some x) × (k x ≡ some y)
some_then none k e = absurd (none-some e)
some_then (some x) k e = (x, refl, e)

pub not_local : {A : Type 0} {y : A} (b : Bool) (o : Option A) → pick b none o ≡ some y → o ≡ some y
not_local true o e = absurd (none-some e)
not_local false o e = e

kinds-no : {w : Bool} → some (k_arr w) ≡ some k_word → ⊥
kinds-no e = let z : ◌≡◌ {A = ℕ} 0 1 = cc in omega arith

kinds-on : {w : Bool} → some k_word ≡ some (k_arr w) → ⊥
kinds-on e = let z : ◌≡◌ {A = ℕ} 0 1 = cc in omega arith

width_is : {w u : Bool} → some (k_arr w) ≡ some (k_arr u) → w ≡ u
width_is e = cc

-- what the checks say of all that stands at the top
abbrev pub TopIs : Prog → Name → Is → Type 0
TopIs p f (is_word i) = i < all_words p
TopIs p f (is_arr a w) = nth (wides (all_arrays p)) a ≡ some w
TopIs p f (is_table fs) = opt (head_fn p f fs) false (λ qs. alike p f qs fs) ≡ true
TopIs p f (is_fn g) = ok_fn p f g ≡ true

abbrev pub Good : Prog → Top → Type 0
Good p t = TopIs p t.file t.is

module _ (p : Prog) (goods : AllT (Good p) (all_tops p 0 0)) (f : Name) (g : Fn) (j : Act) (ws : List Bool) where
  abbrev pub c : Fun
  c = record { file = f; Γ = scope p f (slots_of g); j = j; G = gen_fn p f g; ws = ws }

  wf_var : (x : Name) → kind_of p f g x ≡ some k_word → WfVar (env p) c x
  wf_var x e = go (find (slots_of g) x 0 0) refl (sym (kind-find p f g x) ∙ e)
    where
      go3 : (t : Top) (i : Is) → t.is ≡ i → TopIs p t.file i → find (slots_of g) x 0 0 ≡ none → resolve p f x ≡ some t → kind_is i ≡ some k_word → WfVar (env p) c x
      go3 t (is_word i) u o h r d = top t i h r (rw u) r o
      go3 t (is_arr a w) u o h r d = absurd (kinds-no d)
      go3 t (is_table fs) u o h r d = absurd (none-some d)
      go3 t (is_fn k) u o h r d = absurd (none-some d)

      go2 : (o : Option Top) → resolve p f x ≡ o → find (slots_of g) x 0 0 ≡ none → on_some o (λ t. kind_is t.is) ≡ some k_word → WfVar (env p) c x
      go2 none r h d = absurd (none-some d)
      go2 (some t) r h d = go3 t t.is refl (all-resolve p f x t goods r) h r d

      go : (o : Option Ref) → find (slots_of g) x 0 0 ≡ o → or_else (kind_ref o) (on_some (resolve p f x) (λ t. kind_is t.is)) ≡ some k_word → WfVar (env p) c x
      go (some (r_word k)) h d = own k h
      go (some (r_arr k w)) h d = absurd (kinds-no d)
      go none h d = go2 (resolve p f x) refl h d

  wf_arr : (x : Name) (w : Bool) → kind_of p f g x ≡ some (k_arr w) → WfArr (env p) c x w
  wf_arr x w e = go (find (slots_of g) x 0 0) refl (sym (kind-find p f g x) ∙ e)
    where
      go3 : (t : Top) (i : Is) → t.is ≡ i → TopIs p t.file i → find (slots_of g) x 0 0 ≡ none → resolve p f x ≡ some t → kind_is i ≡ some (k_arr w) → WfArr (env p) c x w
      go3 t (is_word i) u o h r d = absurd (kinds-on d)
      go3 t (is_arr a k) u o h r d = top_arr t a h r (rw u) (rw u) r (rw u (width_is d)) (o ∙ ap some (width_is d))
      go3 t (is_table fs) u o h r d = absurd (none-some d)
      go3 t (is_fn k) u o h r d = absurd (none-some d)

      go2 : (o : Option Top) → resolve p f x ≡ o → find (slots_of g) x 0 0 ≡ none → on_some o (λ t. kind_is t.is) ≡ some (k_arr w) → WfArr (env p) c x w
      go2 none r h d = absurd (none-some d)
      go2 (some t) r h d = go3 t t.is refl (all-resolve p f x t goods r) h r d

      go : (o : Option Ref) → find (slots_of g) x 0 0 ≡ o → or_else (kind_ref o) (on_some (resolve p f x) (λ t. kind_is t.is)) ≡ some (k_arr w) → WfArr (env p) c x w
      go (some (r_word k)) h d = absurd (kinds-on d)
      go (some (r_arr k u)) h d = own_arr k (h ∙ ap (λ b. some (r_arr k b)) (width_is d))
      go none h d = go2 (resolve p f x) refl h d

  -- a word is no array
  no_arr : (x : Name) → WfVar (env p) c x → gen_arr c.Γ x ≡ none
  no_arr x (own k e) = rw e
  no_arr x (top t i e r a z l) = rw (e, z) (go t.is refl a)
    where
      go : (u : Is) → t.is ≡ u → as_word t ≡ some i → on_some (as_arr t) (λ a. some (Rattle.steps.specs.Steps.o_top a)) ≡ none
      go (is_word k) h b = rw h
      go (is_arr k w) h b = absurd (none-some (rw h at b))
      go (is_table fs) h b = rw h
      go (is_fn k) h b = rw h

  word_arg : (e : Expr) → WfE (env p) c e → arr_arg c.Γ e ≡ none
  word_arg (num n) w = refl
  word_arg (var x) w = no_arr x w
  word_arg (bin o a b) w = refl
  word_arg (un o a) w = refl
  word_arg (and1 a b) w = refl
  word_arg (or1 a b) w = refl
  word_arg (idx x e) w = refl
  word_arg (len x) w = refl
  word_arg (call x es) w = refl
  word_arg (by_table x e es) w = refl
  word_arg input w = refl

  arr_arg_is : (e : Expr) (w : Bool) → names_arr p f g w e ≡ true → (x : Name) × (e ≡ var x) × WfArr (env p) c x w
  arr_arg_is (var x) w h = (x, refl, wf_arr x w (kind_true (kind_of p f g x) (k_arr w) h))
  arr_arg_is (num n) w h = absurd (false≢true h)
  arr_arg_is (bin o a b) w h = absurd (false≢true h)
  arr_arg_is (un o a) w h = absurd (false≢true h)
  arr_arg_is (and1 a b) w h = absurd (false≢true h)
  arr_arg_is (or1 a b) w h = absurd (false≢true h)
  arr_arg_is (idx x e) w h = absurd (false≢true h)
  arr_arg_is (len x) w h = absurd (false≢true h)
  arr_arg_is (call x es) w h = absurd (false≢true h)
  arr_arg_is (by_table x e es) w h = absurd (false≢true h)
  arr_arg_is input w h = absurd (false≢true h)

  wf_arg : (e : Expr) (es : Exprs) (k : Kind) (ks : List Kind) → fits_arg p f g e (ok_e p f g e) (some k) ≡ true → (ok_e p f g e ≡ true → WfE (env p) c e) → WfEs (env p) c es ks → WfEs (env p) c (and_then e es) (k ∷ ks)
  wf_arg e es k_word ks o h r = let z = h o in (word_arg e z, z, r)
  wf_arg e es (k_arr w) ks o h r = (arr_arg_is e w o, r)

  named : (f x : Name) (h : Fn) → fn_named p f x ≡ some h → Calls (env p) f x (kinds h.params)
  named f x h e = let r = some_then (resolve p f x) as_fn e in (r.0, h, r.1, r.2, refl)

  wf_calls : (x : Name) (qs : List Param) → params_of p f g x ≡ some qs → Calls (env p) f x (kinds qs)
  wf_calls x qs e = let r = some_then (fn_named p f x) (λ h. some h.params) (not_local (is_local g x) _ e) in subst (λ z. Calls (env p) f x (kinds z)) (some_inj r.2) (named f x r.0 r.1)

  row : (f : Name) (qs : List Param) (fs : List Name) → alike p f qs fs ≡ true → (i : ℕ) (x : Name) → nth fs i ≡ some x → Calls (env p) f x (kinds qs)
  row f qs [] o i x e = absurd (none-some e)
  row f qs (y ∷ ys) o zero x e = let s = and-true (opt (fn_named p f y) false (λ h. same_ps qs h.params)) (alike p f qs ys) o in let h = opt_true (fn_named p f y) (λ h. same_ps qs h.params) s.0 in let k = same-kinds qs h.0.params h.2 in subst (λ ks. Calls (env p) f x ks) (sym k) (subst (λ z. Calls (env p) f z (kinds h.0.params)) (some_inj e) (named f y h.0 h.1))
  row f qs (y ∷ ys) o (suc i) x e = row f qs ys (and-true (opt (fn_named p f y) false (λ h. same_ps qs h.params)) (alike p f qs ys) o).1 i x e

  wf_tables : (x : Name) (qs : List Param) → params_of_table p f g x ≡ some qs → Tables (env p) c x (kinds qs)
  wf_tables x qs e =
      let r = some_then (resolve p f x) (λ t. on_some (as_table t) (λ fs. head_fn p t.file fs)) (not_local (is_local g x) _ e) in
      let q = some_then (as_table r.0) (λ fs. head_fn p r.0.file fs) r.2 in
      (r.0, q.0, r.1, q.1, number_at as_table (λ t fs. fn_nos p t.file fs) p f x r.0 q.0 r.1 q.1, row r.0.file qs q.0 (alike_of r.0 r.0.is refl (all-resolve p f x r.0 goods r.1) q.0 q.1 q.2))
    where
      alike_of : (t : Top) (i : Is) → t.is ≡ i → TopIs p t.file i → (fs : List Name) → as_table t ≡ some fs → head_fn p t.file fs ≡ some qs → alike p t.file qs fs ≡ true
      alike_of t (is_word k) u o fs a h = absurd (none-some (rw u at a))
      alike_of t (is_arr k w) u o fs a h = absurd (none-some (rw u at a))
      alike_of t (is_table ks) u o fs a h = let z : ks ≡ fs = some_inj (rw u at a) in rw h at (rw z at o)
      alike_of t (is_fn k) u o fs a h = absurd (none-some (rw u at a))

  mutual
    wf_e : (e : Expr) → ok_e p f g e ≡ true → WfE (env p) c e
    wf_e (num n) o = ltb→lt n 4294967296 (subst T (sym o) tt)
    wf_e (var x) o = wf_var x (kind_true (kind_of p f g x) k_word o)
    wf_e (bin k a b) o = let s = and-true _ _ o in (wf_e a s.0, wf_e b s.1)
    wf_e (un k a) o = wf_e a o
    wf_e (and1 a b) o = let s = and-true _ _ o in (wf_e a s.0, wf_e b s.1)
    wf_e (or1 a b) o = let s = and-true _ _ o in (wf_e a s.0, wf_e b s.1)
    wf_e (idx x e) o = let s = and-true (any_arr (kind_of p f g x)) (ok_e p f g e) o in let k = arr_true (kind_of p f g x) s.0 in ((k.0, wf_arr x k.0 k.1), wf_e e s.1)
    wf_e (len x) o = let k = arr_true (kind_of p f g x) o in (k.0, wf_arr x k.0 k.1)
    wf_e (call x es) o = let q = opt_true (params_of p f g x) (λ qs. ok_es p f g qs es) o in (kinds q.0, wf_calls x q.0 q.1, refl, wf_es es q.0 q.2)
    wf_e (by_table x e es) o = let s = and-true (ok_e p f g e) (opt (params_of_table p f g x) false (λ qs. ok_es p f g qs es)) o in let q = opt_true (params_of_table p f g x) (λ qs. ok_es p f g qs es) s.1 in (kinds q.0, wf_tables x q.0 q.1, wf_e e s.0, wf_es es q.0 q.2)
    wf_e input o = tt

    wf_es : (es : Exprs) (qs : List Param) → ok_es p f g qs es ≡ true → WfEs (env p) c es (kinds qs)
    wf_es no_more_es [] o = tt
    wf_es no_more_es (q ∷ qs) o = absurd (false≢true o)
    wf_es (and_then e es) [] o = absurd (false≢true o)
    wf_es (and_then e es) (q ∷ qs) o = let s = and-true (fits_arg p f g e (ok_e p f g e) (some q.kind)) (ok_es p f g qs es) o in wf_arg e es q.kind (kinds qs) s.0 (wf_e e) (wf_es es qs s.1)

  mutual
    wf_s : (a : Stmt) (l : Bool) → ok_s p f g l a ≡ true → WfS (env p) c l a
    wf_s (set1 x e) l o = let s = and-true (is_kind (kind_of p f g x) k_word) (ok_e p f g e) o in (wf_var x (kind_true (kind_of p f g x) k_word s.0), wf_e e s.1)
    wf_s (store1 x i e) l o = let s = and-true (any_arr (kind_of p f g x)) (ok_e p f g i && ok_e p f g e) o in let r = and-true (ok_e p f g i) (ok_e p f g e) s.1 in let k = arr_true (kind_of p f g x) s.0 in ((k.0, wf_arr x k.0 k.1), wf_e i r.0, wf_e e r.1)
    wf_s (ex1 e) l o = wf_e e o
    wf_s (out1 e) l o = wf_e e o
    wf_s (if1 e a b) l o = let s = and-true _ _ o in let r = and-true _ _ s.1 in (wf_e e s.0, wf_b a l r.0, wf_b b l r.1)
    wf_s (while1 e b) l o = let s = and-true _ _ o in (wf_e e s.0, wf_b b true s.1)
    wf_s (ret1 e) l o = wf_e e o
    wf_s break1 l o = o
    wf_s next1 l o = o

    pub wf_b : (b : Block) (l : Bool) → ok_b p f g l b ≡ true → WfB (env p) c l b
    wf_b end l o = tt
    wf_b (seq1 a b) l o = let s = and-true _ _ o in (wf_s a l s.0, wf_b b l s.1)

-- code stands where it stands
at-behind : (pre xs : List Step) → At (pre ++ xs) (length pre) xs
at-behind pre [] = tt
at-behind pre (x ∷ xs) = (first pre, let e : length (pre ++ (x ∷ [])) ≡ suc (length pre) = simp length-append (omega arith) in subst (λ c. At c (suc (length pre)) xs) (append_assoc pre (x ∷ []) xs) (subst (λ i. At ((pre ++ (x ∷ [])) ++ xs) i xs) e (at-behind (pre ++ (x ∷ [])) xs)))
  where
    first : (ys : List Step) → nth (ys ++ (x ∷ xs)) (length ys) ≡ some x
    first [] = refl
    first (y ∷ ys) = first ys

whole : (xs : List Step) → At xs 0 xs
whole xs = at-behind [] xs

pub body_ok : (p : Prog) (f : Name) (g : Fn) → ok_fn p f g ≡ true → ok_b p f g false g.body ≡ true
body_ok p f g o = let a = and-true (leb (length g.params) 8) _ o in let b = and-true (leb (length g.vars) 64) _ a.1 in let c = and-true (leb (length g.arrs) 16) _ b.1 in let d = and-true (sizes 4096 g.arrs) _ c.1 in (and-true (once (param_names g.params ++ (g.vars ++ arr_names g.arrs))) _ d.1).1

-- these stand behind w words and the arrays pre
good-tops : (p : Prog) (f : Name) (is : List Item) (w a : ℕ) (pre post : List Bool) → ok_is p f is ≡ true → w + words_in is ≤ all_words p → wides (all_arrays p) ≡ pre ++ (wides (arrays_in is) ++ post) → length pre ≡ a → AllT (Good p) (tops f is w a)
good-tops p f [] w a pre post o l e n = no_top
good-tops p f (i_word x ∷ is) w a pre post o l e n = and_top (omega arith) (good-tops p f is (w + 1) a pre post o (omega arith) e n)
good-tops p f (i_arr r ∷ is) w a pre post o l e n = and_top (ap₂ nth e (sym n) ∙ nth_at pre (wides (arrays_in is) ++ post) r.wide) (good-tops p f is w (a + 1) (pre ++ (r.wide ∷ [])) post (and-true (ok_item p f (i_arr r)) (ok_is p f is) o).1 l (e ∙ sym (append_assoc pre (r.wide ∷ []) (wides (arrays_in is) ++ post))) (snoc_length pre r.wide a n))
good-tops p f (i_data d x ns ∷ is) w a pre post o l e n = and_top (ap₂ nth e (sym n) ∙ nth_at pre (wides (arrays_in is) ++ post) d) (good-tops p f is w (a + 1) (pre ++ (d ∷ [])) post (and-true (ok_item p f (i_data d x ns)) (ok_is p f is) o).1 l (e ∙ sym (append_assoc pre (d ∷ []) (wides (arrays_in is) ++ post))) (snoc_length pre d a n))
good-tops p f (i_table x fs ∷ is) w a pre post o l e n = let s = and-true (ok_item p f (i_table x fs)) (ok_is p f is) o in and_top s.0 (good-tops p f is w a pre post s.1 l e n)
good-tops p f (i_fn g ∷ is) w a pre post o l e n = let s = and-true (ok_fn p f g) (ok_is p f is) o in and_top s.0 (good-tops p f is w a pre post s.1 l e n)
good-tops p f (i_use x ys ∷ is) w a pre post o l e n = good-tops p f is w a pre post (and-true (ok_item p f (i_use x ys)) (ok_is p f is) o).1 l e n

good-all : (p fs : Prog) (w a : ℕ) (pre : List Bool) → ok_fs p fs ≡ true → w + all_words fs ≤ all_words p → wides (all_arrays p) ≡ pre ++ wides (all_arrays fs) → length pre ≡ a → AllT (Good p) (all_tops fs w a)
good-all p [] w a pre o l e n = no_top
good-all p (f ∷ fs) w a pre o l e n =
    let s = and-true (once (names_in f.items)) (ok_is p f.name f.items && ok_fs p fs) o in let r = and-true (ok_is p f.name f.items) (ok_fs p fs) s.1 in
    let d : wides (all_arrays p) ≡ pre ++ (wides (arrays_in f.items) ++ wides (all_arrays fs)) = e ∙ ap (λ z. pre ++ z) (wides_++ (arrays_in f.items) (all_arrays fs)) in
    all_append _ _ (good-tops p f.name f.items w a pre (wides (all_arrays fs)) r.0 (omega arith) d n)
    (good-all p fs (w + words_in f.items) (a + length (arrays_in f.items)) (pre ++ wides (arrays_in f.items)) r.1 (omega arith) (d ∙ sym (append_assoc pre (wides (arrays_in f.items)) (wides (all_arrays fs)))) (length-append pre (wides (arrays_in f.items)) ∙ ap₂ (λ x y. x + y) n (wides-length (arrays_in f.items))))

light-all : (ts : List Top) (n : ℕ) → heavy ts ≤ n → AllT (λ t. (g : Fn) → as_fn t ≡ some g → suc (suc (w_b g.body)) ≤ n) ts
unfolding heavy
light-all [] n h = no_top
light-all (t ∷ ts) n h = and_top (λ g e. go (as_fn t) refl h g e) (light-all ts n (omega arith))
  where
    go : (o : Option Fn) → as_fn t ≡ o → opt o 0 (λ g. suc (suc (w_b g.body))) + heavy ts ≤ n → (g : Fn) → as_fn t ≡ some g → suc (suc (w_b g.body)) ≤ n
    go none a l g e = absurd (none-some (sym a ∙ e))
    go (some k) a l g e = let u : k ≡ g = cc in rw (← u) (omega arith)

some_heavy : (ts : List Top) → 1 ≤ heavy ts
unfolding heavy
some_heavy [] = omega arith
some_heavy (t ∷ ts) = omega (arith, some_heavy ts)

none_left : (qs : List Param) → no_more qs ≡ true → kinds qs ≡ []
none_left [] e = refl
none_left (q ∷ qs) e = absurd (false≢true e)

pub fn-ok : (p : Prog) (t : Top) (g : Fn) (i : Is) → t.is ≡ i → TopIs p t.file i → as_fn t ≡ some g → ok_fn p t.file g ≡ true
fn-ok p t g (is_word k) u o a = absurd (none-some (rw u at a))
fn-ok p t g (is_arr k w) u o a = absurd (none-some (rw u at a))
fn-ok p t g (is_table ks) u o a = absurd (none-some (rw u at a))
fn-ok p t g (is_fn h) u o a = let z : h ≡ g = some_inj (rw u at a) in rw z at o

module _ (p : Prog) (o : ok p ≡ true) where
  pub goods : AllT (Good p) (all_tops p 0 0)
  goods = let a = and-true (once (file_names p)) _ o in let b = and-true (has_main p) _ a.1 in let c = and-true (leb (totals p) 262144) _ b.1 in good-all p p 0 0 [] c.1 (omega arith) refl refl

  pub linked : Linked (env p)
  linked = record {
    some_step = some_heavy (all_tops p 0 0);
    not_first = λ f x. omega arith;
    fn = λ f x t g r a. (scope p t.file (slots_of g), gen_fn p t.file g, λ as₁ ws. record { here = number_at as_fn (λ t g. gen_fn p t.file g) p f x t g r a; code = whole _; slots = refl; params = refl; arrays = refl; vars = refl; own = refl; costs = refl; wf = wf_b p goods t.file g (record { fn = fn_no p f x; arrs = as₁ }) ws g.body false (body_ok p t.file g (fn-ok p t g t.is refl (all-resolve p f x t goods r) a)); light = all-resolve p f x t (light-all (all_tops p 0 0) _ (omega arith)) r g a });
    nos = nos-at p;
    nos_none = nos-out p;
  }

  pub main_fn : Boot (env p) (record { file = first_file p; Γ = scope p (first_file p) []; j = record { fn = 0; arrs = [] }; G = boot p; ws = wides (all_arrays p) })
  main_fn =
      let a = and-true (once (file_names p)) _ o in let b = and-true (has_main p) _ a.1 in
      let g = opt_true (on_some (top_of (all_tops p 0 0) (first_file p) w_main) as_fn) (λ g. no_more g.params) b.0 in
      let t = some_then (top_of (all_tops p 0 0) (first_file p) w_main) as_fn g.1 in
      record { first = refl; here = refl; slots = refl; ws = refl; file = refl; code = whole (boot p).code; wf = ([], (t.0, g.0, ap (λ u. or_else u (on_some (used_in (items_of p (first_file p)) w_main) (λ h. top_of (all_tops p 0 0) h w_main))) t.1, t.2, none_left g.0.params g.2), refl, tt); words = refl; arrays = refl }

  pub right : (ins : List ℕ) → MidRight p (gen_prog p) ins
  right ins = mid_right (env p) linked _ main_fn ins

pub mid-holds : MidAlwaysRight
mid-holds p o ins = right p o ins
