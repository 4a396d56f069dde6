-- What are items and files by the relation are read as those: the whole parser is complete (`parse-complete`).
use mathlib.Core.Path.{◌≡◌, refl, sym, ◌∙◌, ap}
use mathlib.Core.Bool.{Bool, true, false}
use mathlib.Core.List.{List, [], ◌∷◌, ◌++◌, append_assoc}
use mathlib.Core.Option.{some}
use Prim.Native.Nat.{ℕ}
use lib.Dec.{T}
use Rattle.language.specs.Syntax.{Name, same, k_word, Param, Arr, Block, Item, i_data, i_table, i_fn, i_use, Prog}
use Rattle.grammar.specs.Text.{k_file, k_var, k_array, k_bytes, t_lp, t_rp, t_lb, t_rb, t_lc, t_rc, t_comma, t_semi, is_name, IsNumber, AreNames, one_n, more_n, AreNumbers, one_v, more_v, IsParam, word_p, wide_p, byte_p, AreParams, none_ps, one_ps, more_ps, AreVars, no_vars, some_vars, AreArrays, no_arrs, wide_a, byte_a, IsBlock, IsItem, word_i, wide_i, byte_i, data_i, text_i, table_i, use_i, fn_i, AreItems, no_items, more_items, AreFiles, no_files, more_files}
use Rattle.grammar.specs.Parse.{got, bind, eat, num_of, look}
use Rattle.grammar.specs.ParseAll.{again, body, names_in, nums_in, par_kind, par, pars_more, pars_step, pars_of, vars_in, arr, arrs_as, arrs_step, head_of, fn_it, item, items_step, parse, lead}
use Rattle.grammar.proofs.PieceKinds.{T_of, true_of, same-eq}
use Rattle.grammar.proofs.ExprComplete.{fail-got}
use Rattle.grammar.proofs.Equations.{pars-is, arrs-is, items-is, files-is}
use Rattle.grammar.proofs.StmtComplete.{NotK, Plain, ParsedB, body_complete}

num-is : (w : Name) {n : ℕ} → IsNumber w n → num_of w ≡ some n
num-is w h = rw (true_of _ h.0, h.1)

names-c : {s xs : List Name} → AreNames s xs → (r : List Name) → names_in (s ++ (t_semi ∷ r)) ≡ got xs r
names-c (one_n h) r = rw (true_of _ h)
names-c (more_n {x} h y) r = rw (true_of _ h) (ap (λ z. bind z (λ xs r. got (x ∷ xs) r)) (names-c y r))

names-d : {s xs : List Name} → AreNames s xs → (r : List Name) → names_in ((s ++ (t_semi ∷ [])) ++ r) ≡ got xs r
names-d {s} y r = ap names_in (append_assoc s (t_semi ∷ []) r) ∙ names-c y r

nums-c : {s : List Name} {ns : List ℕ} → AreNumbers s ns → (r : List Name) → nums_in (s ++ (t_semi ∷ r)) ≡ got ns r
nums-c (one_v {w} h) r = rw (num-is w h)
nums-c (more_v {w} {n} h y) r = rw (num-is w h) (ap (λ z. bind z (λ ns r. got (n ∷ ns) r)) (nums-c y r))

-- parameters
kind-word : (r : List Name) → NotK t_lb r → par_kind r ≡ got k_word r
kind-word [] q = refl
kind-word (w ∷ r) q = rw q

par-c : {s : List Name} {q : Param} → IsParam s q → (r : List Name) → NotK t_lb r → par (s ++ r) ≡ got q r
par-c (word_p {x} h) r q = rw (true_of _ h) (ap (λ z. bind z (λ k r'. got (record { name = x; kind = k }) r')) (kind-word r q))
par-c (wide_p h) r q = rw (true_of _ h)
par-c (byte_p h) r q = rw (true_of _ h)

abbrev PParsed : List Name → List Param → Type 0
PParsed s [] = s ≡ []
PParsed s (q ∷ qs) = (r : List Name) → again pars_step (s ++ (t_rp ∷ r)) ≡ got (q ∷ qs) r

pars-c : {s : List Name} {qs : List Param} → AreParams s qs → PParsed s qs
pars-c none_ps = refl
pars-c (one_ps {s} p) = λ r. pars-is (s ++ (t_rp ∷ r)) ∙ ap (λ z. bind z (pars_more (again pars_step))) (par-c p (t_rp ∷ r) refl)
pars-c (more_ps {s} {t} {q} p y) = λ r.
    ap (again pars_step) (append_assoc s (t_comma ∷ t) (t_rp ∷ r)) ∙ pars-is (s ++ (t_comma ∷ (t ++ (t_rp ∷ r))))
    ∙ ap (λ z. bind z (pars_more (again pars_step))) (par-c p (t_comma ∷ (t ++ (t_rp ∷ r))) refl)
    ∙ ap (λ z. bind z (λ qs r. got (q ∷ qs) r)) (pars-c y r)

pars_by : (b : Bool) (w : Name) (s : List Name) {q : List Param} {r : List Name} → same w t_rp ≡ b → again pars_step (w ∷ s) ≡ got q r → pars_of (w ∷ s) ≡ got q r
pars_by true w s e h = absurd (fail-got (sym (pars-is (t_rp ∷ s)) ∙ ap (λ v. again pars_step (v ∷ s)) (sym (same-eq w t_rp (T_of e))) ∙ h))
pars_by false w s e h = rw e h

pars_to : (s : List Name) {q : List Param} {r : List Name} → again pars_step s ≡ got q r → pars_of s ≡ got q r
pars_to [] h = absurd (fail-got (sym (pars-is []) ∙ h))
pars_to (w ∷ s) h = pars_by (same w t_rp) w s refl h

pars_of-c : (s : List Name) (qs : List Param) → PParsed s qs → (r : List Name) → pars_of (s ++ (t_rp ∷ r)) ≡ got qs r
pars_of-c s [] h r = rw h
pars_of-c s (q ∷ qs) h r = pars_to (s ++ (t_rp ∷ r)) (h r)

-- what stands first in a function
vars-c : {s xs : List Name} → AreVars s xs → (r : List Name) → NotK k_var r → vars_in (s ++ r) ≡ got xs r
vars-c no_vars [] q = refl
vars-c no_vars (w ∷ r) q = rw q
vars-c (some_vars y) r q = names-d y r

arrs-end : (r : List Name) → NotK k_array r → NotK k_bytes r → arrs_step (again arrs_step) r ≡ got [] r
arrs-end [] p q = refl
arrs-end (w ∷ r) p q = rw (p, q)

arr-c : (b : Bool) (x w : Name) {n : ℕ} (r : List Name) → T (is_name x) → IsNumber w n → arr b (x ∷ t_lb ∷ w ∷ t_rb ∷ t_semi ∷ r) ≡ got (record { name = x; wide = b; size = n }) r
arr-c b x w r h k = rw (true_of _ h, num-is w k)

arrs-add : (b : Bool) (s : List Name) {a : Arr} {as₁ : List Arr} {r r' : List Name} → arr b s ≡ got a r → again arrs_step r ≡ got as₁ r' → arrs_as (again arrs_step) b s ≡ got (a ∷ as₁) r'
arrs-add b s {a} h k =
    ap (λ z. bind z (λ a r. bind (again arrs_step r) (λ as₁ r'. got (a ∷ as₁) r'))) h ∙ ap (λ z. bind z (λ as₁ r'. got (a ∷ as₁) r')) k

arrs-c : {s : List Name} {as₁ : List Arr} → AreArrays s as₁ → (r : List Name) → NotK k_array r → NotK k_bytes r → again arrs_step (s ++ r) ≡ got as₁ r
arrs-c no_arrs r p q = arrs-is r ∙ arrs-end r p q
arrs-c (wide_a {x} {w} {s = s} h k y) r p q = arrs-is _ ∙ arrs-add true (x ∷ t_lb ∷ w ∷ t_rb ∷ t_semi ∷ (s ++ r)) (arr-c true x w (s ++ r) h k) (arrs-c y r p q)
arrs-c (byte_a {x} {w} {s = s} h k y) r p q = arrs-is _ ∙ arrs-add false (x ∷ t_lb ∷ w ∷ t_rb ∷ t_semi ∷ (s ++ r)) (arr-c false x w (s ++ r) h k) (arrs-c y r p q)

arrs_not : (k : Name) {s : List Name} {as₁ : List Arr} → AreArrays s as₁ → same k_array k ≡ false → same k_bytes k ≡ false → (r : List Name) → NotK k r → NotK k (s ++ r)
arrs_not k no_arrs p q r h = h
arrs_not k (wide_a x y z) p q r h = p
arrs_not k (byte_a x y z) p q r h = q

plain_var : Plain k_var
unfolding lead look
plain_var = record { lead_o = refl; look_o = refl; rc_o = refl }

plain-array : Plain k_array
unfolding lead look
plain-array = record { lead_o = refl; look_o = refl; rc_o = refl }

plain-bytes : Plain k_bytes
unfolding lead look
plain-bytes = record { lead_o = refl; look_o = refl; rc_o = refl }

fn-c : {x : Name} {s t u v : List Name} {qs : List Param} {xs : List Name} {as₁ : List Arr} {b : Block} → T (is_name x) → AreParams s qs → AreVars t xs → AreArrays u as₁ → IsBlock v b → (r : List Name)
    → fn_it x (t_lp ∷ ((s ++ (t_rp ∷ t_lc ∷ (t ++ (u ++ (v ++ (t_rc ∷ [])))))) ++ r)) ≡ got (i_fn (record { name = x; params = qs; vars = xs; arrs = as₁; body = b })) r
fn-c {x} {s} {t} {u} {v} {qs} {xs} {as₁} {b} h p y z w r =
    let n : (s ++ (t_rp ∷ t_lc ∷ (t ++ (u ++ (v ++ (t_rc ∷ [])))))) ++ r ≡ s ++ (t_rp ∷ t_lc ∷ (t ++ (u ++ (v ++ (t_rc ∷ r))))) = simp append_assoc in
    let Block : ParsedB v b = body_complete w in
    ap (λ l. fn_it x (t_lp ∷ l)) n
    ∙ ap (λ m. bind m (λ qs s₂. eat t_lc s₂ (λ s₃. bind (vars_in s₃) (λ xs s₄. bind (again arrs_step s₄) (λ as₁ s₅. bind (body s₅) (λ b r. got (i_fn (record { name = x; params = qs; vars = xs; arrs = as₁; body = b })) r)))))) (pars_of-c s qs (pars-c p) _)
    ∙ ap (λ m. bind m (λ xs s₄. bind (again arrs_step s₄) (λ as₁ s₅. bind (body s₅) (λ b r. got (i_fn (record { name = x; params = qs; vars = xs; arrs = as₁; body = b })) r)))) (vars-c y _ (arrs_not k_var z refl refl _ (Block.calm k_var plain_var r)))
    ∙ ap (λ m. bind m (λ as₁ s₅. bind (body s₅) (λ b r. got (i_fn (record { name = x; params = qs; vars = xs; arrs = as₁; body = b })) r))) (arrs-c z _ (Block.calm k_array plain-array r) (Block.calm k_bytes plain-bytes r))
    ∙ ap (λ m. bind m (λ b r. got (i_fn (record { name = x; params = qs; vars = xs; arrs = as₁; body = b })) r)) (Block.reads r)

-- items
item-c : {s : List Name} {i : Item} → IsItem s i → (r : List Name) → item (s ++ r) ≡ got i r
unfolding head_of
item-c (word_i h) r = rw (true_of _ h)
item-c (wide_i {x} {w} h k) r = rw (true_of _ h, num-is w k)
item-c (byte_i {x} {w} h k) r = rw (true_of _ h, num-is w k)
item-c (data_i {x} {s} h y) r = rw (true_of _ h) (ap (λ z. bind (nums_in z) (λ ns r. got (i_data true x ns) r)) (append_assoc s (t_semi ∷ []) r) ∙ ap (λ z. bind z (λ ns r. got (i_data true x ns) r)) (nums-c y r))
item-c (text_i h) r = rw (true_of _ h)
item-c (table_i {x} h y) r = rw (true_of _ h) (ap (λ z. bind z (λ fs r. got (i_table x fs) r)) (names-d y r))
item-c (use_i {x} h y) r = rw (true_of _ h) (ap (λ z. bind z (λ fs r. got (i_use x fs) r)) (names-d y r))
item-c (fn_i h p y z w) r = rw (true_of _ h) (fn-c h p y z w r)

abbrev Next : List Name → Type 0
Next [] = Unit {0}
Next (w ∷ s) = same w k_file ≡ true

item_by : (b : Bool) (w : Name) (s : List Name) {i : Item} {r : List Name} → same w k_file ≡ b → item (w ∷ s) ≡ got i r → b ≡ false
unfolding head_of
item_by true w s e h = absurd (fail-got (ap (λ v. item (v ∷ s)) (sym (same-eq w k_file (T_of e))) ∙ h))
item_by false w s e h = refl

items_more : (s : List Name) {i : Item} {is : List Item} {r r' : List Name} → item s ≡ got i r → again items_step r ≡ got is r' → again items_step s ≡ got (i ∷ is) r'
items_more [] h k = absurd (fail-got h)
items_more (w ∷ s) h k = items-is (w ∷ s) ∙ rw (item_by (same w k_file) w s refl h, h, k)

items-end : (r : List Name) → Next r → items_step (again items_step) r ≡ got [] r
items-end [] q = refl
items-end (w ∷ r) q = rw q

items-c : {s : List Name} {is : List Item} → AreItems s is → (r : List Name) → Next r → again items_step (s ++ r) ≡ got is r
items-c no_items r q = items-is r ∙ items-end r q
items-c (more_items {s} {t} x y) r q = ap (again items_step) (append_assoc s t r) ∙ items_more (s ++ (t ++ r)) (item-c x (t ++ r)) (items-c y r q)

files-next : {s : List Name} {p : Prog} → AreFiles s p → Next s
files-next no_files = tt
files-next (more_files h x y) = refl

pub parse-complete : {s : List Name} {p : Prog} → AreFiles s p → parse s ≡ got p []
parse-complete no_files = files-is []
parse-complete (more_files {x} {s} {t} {is} h y z) =
    files-is _ ∙ rw (true_of _ h)
    (ap (λ m. bind m (λ is r. bind (parse r) (λ fs r'. got (record { name = x; items = is } ∷ fs) r'))) (items-c y t (files-next z))
    ∙ ap (λ m. bind m (λ fs r'. got (record { name = x; items = is } ∷ fs) r')) (parse-complete z))
