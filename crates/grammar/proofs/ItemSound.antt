-- What the parser takes for items and files are such by the relation: the whole parser is sound (`parse-sound`).
use mathlib.Core.Path.{◌≡◌, refl, ◌∙◌, ap}
use mathlib.Core.Bool.{Bool, true, false}
use mathlib.Core.List.{List, [], ◌∷◌, ◌++◌, append_assoc}
use mathlib.Core.Option.{some, none, none-ne-some}
use Prim.Native.Nat.{ℕ}
use lib.Dec.{T, eqb, eqb→eq}
use Rattle.language.specs.Syntax.{pick, Name, same, Kind, Param, Arr, Item, Prog}
use Rattle.grammar.specs.Text.{k_file, k_use, k_var, k_array, k_bytes, k_table, k_fn, t_lp, t_rp, t_lb, t_rb, t_lc, t_rc, t_comma, t_semi, t_colon, t_gets, is_name, IsNumber, AreNames, one_n, more_n, AreNumbers, one_v, more_v, IsParam, word_p, wide_p, byte_p, AreParams, none_ps, one_ps, more_ps, AreVars, no_vars, some_vars, AreArrays, no_arrs, wide_a, byte_a, IsItem, word_i, wide_i, byte_i, data_i, text_i, table_i, use_i, fn_i, AreItems, no_items, more_items, AreFiles, no_files, more_files}
use Rattle.grammar.specs.Parse.{Res, num_of}
use Rattle.grammar.specs.ParseAll.{names_in, nums_in, par_in, par_kind, par, pars_more, pars_step, pars_of, vars_in, arr, arrs_as, arrs_step, Head, h_var, h_array, h_bytes, h_table, h_use, h_fn, h_none, heads, head_of, in_quotes, text_to, array_it, bytes_it, fn_it, it_by, items_step, files_step, parse}
use Rattle.grammar.proofs.PieceKinds.{same-eq, T_of, find-means}
use Rattle.grammar.proofs.ExprSound.{Post, none_p, got_p, post-bind, post-pick, post-eat, post-eat_name, closed}
use Rattle.grammar.proofs.ExprFuel.{weaken}
use Rattle.grammar.proofs.Unrolling.{again_by}
use Rattle.grammar.proofs.StmtSound.{body-sound}
use Rattle.grammar.proofs.ItemFuel.{post-opt, num-of, post-size}

pub record Whole {A : Type 0} (P : List Name → A → Type 0) (s : List Name) (a : A) (r : List Name) : Type 0 where
  pub used : List Name
  pub all : s ≡ used ++ r
  pub is : P used a

pub record Till {A : Type 0} (w : Name) (P : List Name → A → Type 0) (s : List Name) (a : A) (r : List Name) : Type 0 where
  pub used : List Name
  pub all : s ≡ used ++ (w ∷ r)
  pub is : P used a

two : (x v : Name) (s u : List Name) {w : Name} → T (same w v) → s ≡ u → x ∷ w ∷ s ≡ x ∷ v ∷ u
two x v s u {w} t e = rw (same-eq w v t, e)

names_to-s : (s : List Name) → Post (Till t_semi AreNames s) (names_in s)
names_to-s [] = none_p
names_to-s (x ∷ []) = none_p
names_to-s (x ∷ w ∷ s) =
    post-pick (is_name x)
    (λ h. post-pick (same w t_comma)
    (λ y. post-bind _ (names_to-s s) (λ xs r k. got_p (record { used = x ∷ t_comma ∷ k.used; all = two x t_comma s _ y k.all; is = more_n h k.is })))
    (λ y. post-pick (same w t_semi) (λ z. got_p (record { used = x ∷ []; all = two x t_semi s _ z refl; is = one_n h })) (λ z. none_p)))
    (λ h. none_p)

nums_to-s : (s : List Name) → Post (Till t_semi AreNumbers s) (nums_in s)
nums_to-s [] = none_p
nums_to-s (x ∷ []) = none_p
nums_to-s (x ∷ w ∷ s) =
    post-opt (num_of x) _ (λ n e. post-pick (same w t_comma)
    (λ y. post-bind _ (nums_to-s s) (λ xs r k. got_p (record { used = x ∷ t_comma ∷ k.used; all = two x t_comma s _ y k.all; is = more_v (num-of x n e) k.is })))
    (λ y. post-pick (same w t_semi) (λ z. got_p (record { used = x ∷ []; all = two x t_semi s _ z refl; is = one_v (num-of x n e) })) (λ z. none_p)))

-- parameters
abbrev Kinds : Name → List Name → Kind → Type 0
Kinds x u k = IsParam (x ∷ u) (record { name = x; kind = k })

abbrev Insides : Name → List Name → Kind → Type 0
Insides x u k = IsParam (x ∷ t_lb ∷ u) (record { name = x; kind = k })

par_in-s : (x : Name) (s : List Name) → T (is_name x) → Post (Whole (Insides x) s) (par_in s)
par_in-s x [] h = none_p
par_in-s x (w ∷ s) h =
    post-pick (same w t_rb)
    (λ y. got_p (record { used = t_rb ∷ []; all = rw (same-eq w t_rb y); is = wide_p h }))
    (λ y. post-pick (same w t_colon)
    (λ z. post-eat t_rb s _ (λ r q. got_p (record { used = t_colon ∷ t_rb ∷ []; all = rw (same-eq w t_colon z, q); is = byte_p h })))
    (λ z. none_p))

par_kind-s : (x : Name) (s : List Name) → T (is_name x) → Post (Whole (Kinds x) s) (par_kind s)
par_kind-s x [] h = got_p (record { used = []; all = refl; is = word_p h })
par_kind-s x (w ∷ s) h =
    post-pick (same w t_lb)
    (λ y. weaken (par_in-s x s h) (λ k r g. record { used = t_lb ∷ g.used; all = rw (same-eq w t_lb y) (ap (λ v. t_lb ∷ v) g.all); is = g.is }))
    (λ y. got_p (record { used = []; all = refl; is = word_p h }))

par-s : (s : List Name) → Post (Whole IsParam s) (par s)
par-s s = post-eat_name s _ (λ x r q h. post-bind _ (par_kind-s x r h) (λ k r' g. got_p (record { used = x ∷ g.used; all = q ∙ ap (λ v. x ∷ v) g.all; is = g.is })))

abbrev Pars1 : List Name → List Param → Type 0
Pars1 u [] = ⊥
Pars1 u (q ∷ qs) = AreParams u (q ∷ qs)

pars1_more : {s : List Name} (t : List Name) {q : Param} (qs : List Param) → IsParam s q → Pars1 t qs → Pars1 (s ++ (t_comma ∷ t)) (q ∷ qs)
pars1_more t [] p h = absurd h
pars1_more t (r ∷ qs) p h = more_ps p h

pars1 : (u : List Name) (qs : List Param) → Pars1 u qs → AreParams u qs
pars1 u [] h = absurd h
pars1 u (q ∷ qs) h = h

module _ (G : List Name → Res (List Param)) (K : (s : List Name) → Post (Till t_rp Pars1 s) (G s)) where
  pars_more_s : (q : Param) (u s : List Name) → IsParam u q → Post (Till t_rp Pars1 (u ++ s)) (pars_more G q s)
  pars_more_s q u [] p = none_p
  pars_more_s q u (w ∷ s) p =
      post-pick (same w t_comma)
      (λ y. post-bind _ (K s) (λ qs r k. got_p (record { used = u ++ (t_comma ∷ k.used); all = rw (same-eq w t_comma y, k.all) (simp append_assoc); is = pars1_more k.used qs p k.is })))
      (λ y. post-pick (same w t_rp) (λ z. got_p (record { used = u; all = rw (same-eq w t_rp z); is = one_ps p })) (λ z. none_p))

  pars_step_s : (s : List Name) → Post (Till t_rp Pars1 s) (pars_step G s)
  pars_step_s s = post-bind _ (par-s s) (λ q r k. rw k.all (pars_more_s q k.used r k.is))

pars_of-s : (s : List Name) → Post (Till t_rp AreParams s) (pars_of s)
pars_of-s [] = none_p
pars_of-s (w ∷ s) =
    post-pick (same w t_rp)
    (λ y. got_p (record { used = []; all = ap (λ v. v ∷ s) (same-eq w t_rp y); is = none_ps }))
    (λ y. weaken (again_by pars_step (Till t_rp Pars1) pars_step_s (w ∷ s)) (λ qs r k. record { used = k.used; all = k.all; is = pars1 k.used qs k.is }))

vars_of-s : (s : List Name) → Post (Whole AreVars s) (vars_in s)
vars_of-s [] = got_p (record { used = []; all = refl; is = no_vars })
vars_of-s (w ∷ s) =
    post-pick (same w k_var)
    (λ y. weaken (names_to-s s) (λ xs r k. record { used = k_var ∷ (k.used ++ (t_semi ∷ [])); all = rw (same-eq w k_var y) (ap (λ v. k_var ∷ v) (closed k.used t_semi k.all refl)); is = some_vars k.is }))
    (λ y. got_p (record { used = []; all = refl; is = no_vars }))

abbrev ArrOf : Bool → List Name → Arr → Type 0
ArrOf b u a = (x : Name) × (w : Name) × (n : ℕ) × (u ≡ x ∷ t_lb ∷ w ∷ t_rb ∷ t_semi ∷ []) × (a ≡ record { name = x; wide = b; size = n }) × T (is_name x) × IsNumber w n

arr-s : (b : Bool) (s : List Name) → Post (Whole (ArrOf b) s) (arr b s)
arr-s b s = post-eat_name s _ (λ x s₁ q h. post-size s₁ _ (λ w n r e k. got_p (record { used = x ∷ t_lb ∷ w ∷ t_rb ∷ t_semi ∷ []; all = q ∙ ap (λ v. x ∷ v) e; is = (x, w, n, refl, refl, h, k) })))

wide-more : {u s : List Name} {a : Arr} {as₁ : List Arr} → ArrOf true u a → AreArrays s as₁ → AreArrays (k_array ∷ (u ++ s)) (a ∷ as₁)
wide-more h y = rw (h.3, h.4) (wide_a h.5 h.6 y)

byte_more : {u s : List Name} {a : Arr} {as₁ : List Arr} → ArrOf false u a → AreArrays s as₁ → AreArrays (k_bytes ∷ (u ++ s)) (a ∷ as₁)
byte_more h y = rw (h.3, h.4) (byte_a h.5 h.6 y)

module _ (G : List Name → Res (List Arr)) (K : (s : List Name) → Post (Whole AreArrays s) (G s)) where
  arrs_as_s : (b : Bool) (k : Name) (s : List Name) → ((u t : List Name) (a : Arr) (as₁ : List Arr) → ArrOf b u a → AreArrays t as₁ → AreArrays (k ∷ (u ++ t)) (a ∷ as₁)) → Post (Whole AreArrays (k ∷ s)) (arrs_as G b s)
  arrs_as_s b k s f = post-bind _ (arr-s b s) (λ a r g. post-bind _ (K r) (λ as₁ r' h. got_p (record { used = k ∷ (g.used ++ h.used); all = rw (g.all, h.all) (simp append_assoc); is = f g.used h.used a as₁ g.is h.is })))

  arrs_step_s : (s : List Name) → Post (Whole AreArrays s) (arrs_step G s)
  arrs_step_s [] = got_p (record { used = []; all = refl; is = no_arrs })
  arrs_step_s (w ∷ s) =
      post-pick (same w k_array) (λ y. rw (same-eq w k_array y) (arrs_as_s true k_array s (λ u t a as₁ g h. wide-more g h)))
      (λ y. post-pick (same w k_bytes) (λ z. rw (same-eq w k_bytes z) (arrs_as_s false k_bytes s (λ u t a as₁ g h. byte_more g h))) (λ z. got_p (record { used = []; all = refl; is = no_arrs })))

-- items
abbrev pub HeadMeans : Head → Name → Type 0
HeadMeans h_var w = w ≡ k_var
HeadMeans h_array w = w ≡ k_array
HeadMeans h_bytes w = w ≡ k_bytes
HeadMeans h_table w = w ≡ k_table
HeadMeans h_use w = w ≡ k_use
HeadMeans h_fn w = w ≡ k_fn
HeadMeans h_none w = Unit {0}

pub head-means : (w : Name) → HeadMeans (head_of w) w
unfolding head_of
head-means w = find-means HeadMeans h_none heads w tt (refl, (refl, (refl, (refl, (refl, (refl, tt))))))

quoted-by : (b : Bool) (c : ℕ) (cs ns : List ℕ) → eqb c 34 ≡ b → pick b (some cs) none ≡ some ns → c ∷ cs ≡ 34 ∷ ns
quoted-by true c cs ns e h = let q : c ≡ 34 = eqb→eq c 34 (T_of e) in cc
quoted-by false c cs ns e h = absurd (none-ne-some ns h)

quoted-of : (q : Name) (ns : List ℕ) → in_quotes q ≡ some ns → q ≡ 34 ∷ ns
quoted-of [] ns h = absurd (none-ne-some ns h)
quoted-of (c ∷ cs) ns h = quoted-by (eqb c 34) c cs ns refl h

text_to-s : (x : Name) (s : List Name) → T (is_name x) → Post (Whole IsItem (k_bytes ∷ x ∷ t_gets ∷ s)) (text_to x s)
text_to-s x [] h = none_p
text_to-s x (v ∷ s) h = post-opt (in_quotes v) _ (λ ns e. post-eat t_semi s _ (λ r q. got_p (record { used = k_bytes ∷ x ∷ t_gets ∷ (34 ∷ ns) ∷ t_semi ∷ []; all = rw (quoted-of v ns e, q); is = text_i h })))

array_it-s : (x : Name) (s : List Name) → T (is_name x) → Post (Whole IsItem (k_array ∷ x ∷ s)) (array_it x s)
array_it-s x [] h = none_p
array_it-s x (w ∷ s) h =
    post-pick (same w t_gets)
    (λ y. post-bind _ (nums_to-s s) (λ ns r k. got_p (record { used = k_array ∷ x ∷ t_gets ∷ (k.used ++ (t_semi ∷ [])); all = rw (same-eq w t_gets y) (ap (λ v. k_array ∷ x ∷ t_gets ∷ v) (closed k.used t_semi k.all refl)); is = data_i h k.is })))
    (λ y. post-size (w ∷ s) _ (λ v n r e k. got_p (record { used = k_array ∷ x ∷ t_lb ∷ v ∷ t_rb ∷ t_semi ∷ []; all = ap (λ z. k_array ∷ x ∷ z) e; is = wide_i h k })))

bytes_it-s : (x : Name) (s : List Name) → T (is_name x) → Post (Whole IsItem (k_bytes ∷ x ∷ s)) (bytes_it x s)
bytes_it-s x [] h = none_p
bytes_it-s x (w ∷ s) h =
    post-pick (same w t_gets)
    (λ y. rw (same-eq w t_gets y) (text_to-s x s h))
    (λ y. post-size (w ∷ s) _ (λ v n r e k. got_p (record { used = k_bytes ∷ x ∷ t_lb ∷ v ∷ t_rb ∷ t_semi ∷ []; all = ap (λ z. k_bytes ∷ x ∷ z) e; is = byte_i h k })))

fn_it-s : (x : Name) (s : List Name) → T (is_name x) → Post (Whole IsItem (k_fn ∷ x ∷ s)) (fn_it x s)
fn_it-s x s h =
    post-eat t_lp s _ (λ s₁ q₁. post-bind _ (pars_of-s s₁) (λ qs s₂ g₁. post-eat t_lc s₂ _ (λ s₃ q₂. post-bind _ (vars_of-s s₃) (λ xs s₄ g₂. post-bind _ (again_by arrs_step (Whole AreArrays) arrs_step_s s₄) (λ as₁ s₅ g₃. post-bind _ (body-sound s₅) (λ b r g₄.
    got_p (record {
      used = k_fn ∷ x ∷ t_lp ∷ (g₁.used ++ (t_rp ∷ t_lc ∷ (g₂.used ++ (g₃.used ++ (g₄.used ++ (t_rc ∷ []))))));
      all = rw (q₁, g₁.all, q₂, g₂.all, g₃.all, g₄.all) (simp append_assoc);
      is = fn_i h g₁.is g₂.is g₃.is g₄.is;
    })))))))

it_by-s : (h : Head) (w : Name) (s : List Name) → HeadMeans h w → Post (Whole IsItem (w ∷ s)) (it_by h s)
it_by-s h_var w s m = post-eat_name s _ (λ x s₁ q h. post-eat t_semi s₁ _ (λ r e. got_p (record { used = k_var ∷ x ∷ t_semi ∷ []; all = rw (m, q, e); is = word_i h })))
it_by-s h_array w s m = post-eat_name s _ (λ x s₁ q h. rw (m, q) (array_it-s x s₁ h))
it_by-s h_bytes w s m = post-eat_name s _ (λ x s₁ q h. rw (m, q) (bytes_it-s x s₁ h))
it_by-s h_table w s m = post-eat_name s _ (λ x s₁ q h. post-eat t_gets s₁ _ (λ s₂ e. post-bind _ (names_to-s s₂) (λ xs r k. got_p (record { used = k_table ∷ x ∷ t_gets ∷ (k.used ++ (t_semi ∷ [])); all = rw (m, q, e) (ap (λ v. k_table ∷ x ∷ t_gets ∷ v) (closed k.used t_semi k.all refl)); is = table_i h k.is }))))
it_by-s h_use w s m = post-eat_name s _ (λ x s₁ q h. post-eat t_colon s₁ _ (λ s₂ e. post-bind _ (names_to-s s₂) (λ xs r k. got_p (record { used = k_use ∷ x ∷ t_colon ∷ (k.used ++ (t_semi ∷ [])); all = rw (m, q, e) (ap (λ v. k_use ∷ x ∷ t_colon ∷ v) (closed k.used t_semi k.all refl)); is = use_i h k.is }))))
it_by-s h_fn w s m = post-eat_name s _ (λ x s₁ q h. rw (m, q) (fn_it-s x s₁ h))
it_by-s h_none w s m = none_p

items_step-s : (G : List Name → Res (List Item)) → ((s : List Name) → Post (Whole AreItems s) (G s)) → (s : List Name) → Post (Whole AreItems s) (items_step G s)
items_step-s G K [] = got_p (record { used = []; all = refl; is = no_items })
items_step-s G K (w ∷ s) =
    post-pick (same w k_file) (λ y. got_p (record { used = []; all = refl; is = no_items }))
    (λ y. post-bind _ (it_by-s (head_of w) w s (head-means w)) (λ i r g. post-bind _ (K r) (λ is₁ r' h. got_p (record { used = g.used ++ h.used; all = g.all ∙ rw h.all (simp append_assoc); is = more_items g.is h.is }))))

abbrev pub All : List Name → Prog → List Name → Type 0
All s p r = (r ≡ []) × AreFiles s p

files_step-s : (G : List Name → Res Prog) → ((s : List Name) → Post (All s) (G s)) → (s : List Name) → Post (All s) (files_step G s)
files_step-s G K [] = got_p (refl, no_files)
files_step-s G K (w ∷ s) =
    post-pick (same w k_file)
    (λ y. post-eat_name s _ (λ x s₁ q h. post-eat t_semi s₁ _ (λ s₂ e. post-bind _ (again_by items_step (Whole AreItems) items_step-s s₂) (λ is₁ r g. post-bind _ (K r) (λ fs r' k.
    got_p (k.0, rw (same-eq w k_file y, q, e, g.all) (more_files h g.is k.1)))))))
    (λ y. none_p)

-- what is read is a program's text, all of it
pub parse-sound : (s : List Name) → Post (All s) (parse s)
unfolding parse
parse-sound s = again_by files_step All files_step-s s
