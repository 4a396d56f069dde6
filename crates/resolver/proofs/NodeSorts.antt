-- The nodes by what the code does with them: two sorts of calls, names with a value, the rest.
use Rattle.std.proofs.Common.{◌≡◌, ne_eqb, Bool, ◌||◌, ℕ, ◌+◌, ◌%◌, ◌<◌, min, true, false, List, [], ◌∷◌, length, get_or, sym, refl, ap, ◌∙◌, subst, ap₂, arith}
use mathlib.Core.Bool.{false≢true}
use Rattle.language.specs.Syntax.{pick, Name, Fn, Prog}
use Rattle.language.specs.Meaning.{as_fn, as_table}
use Rattle.language.specs.Checks.{ok_fn}
use Rattle.rows.specs.Has.{Has, named}
use Rattle.rows.specs.Nodes.{Node, node_row, n_num, n_var, n_bin, n_and, n_or, n_join, n_un, n_idx, n_len, n_call, n_by, n_in, n_set, n_store, n_ex, n_out, n_if, n_else, n_fi, n_loop, n_while, n_again, n_ret, n_break, n_next, n_end, n_arg}
use Rattle.rows.proofs.Having.{has_word, has-next, has_to, has_as}
use Rattle.steps.specs.Generate.{Scope, scope, slots_of, number, fn_no}
use Rattle.generator.specs.Resolved.{v_idx, v_len, v_store, resolve_node}
use Rattle.generator.specs.ResolvedRows.{node_words}
use Rattle.names.specs.declared.found.Reference as found
use Rattle.names.specs.Refer.{meant}
use Rattle.names.proofs.NodeEffects.{tag_of}
use Rattle.limits.proofs.BodyLaws.{node-long}
use Rattle.names.proofs.Referents.{generated}
use Rattle.resolver.specs.Sound.{Sound, Known, Checked}
use Rattle.resolver.specs.Stands.{is_call, Fits, named_by, is_value_name, plain_tag_of, has_value}
use Rattle.resolver.proofs.Meanings.{read_is, pass-is, set_is, array-is}
use Rattle.resolver.proofs.Bounds.{meant_fits, number_fits}

pub no_call : {n : ℕ} → (n ≡ 9 → ⊥) → (n ≡ 10 → ⊥) → is_call n ≡ false
no_call {n} n9 n10 = ap₂ (λ (a b : Bool). a || b) (ne_eqb n 9 n9) (ne_eqb n 10 n10)

pub data Sort (p : Prog) (f : Name) (Γ : Scope) : Node → Type 0 where
  a_call : (n : ℕ) (x : Name) → Sort p f Γ (n_call n x)
  a_table : (n : ℕ) (x : Name) → Sort p f Γ (n_by n x)
  a_name : (t : Node) (x : Name) → (tag_of t ≡ 9 → ⊥) → (tag_of t ≡ 10 → ⊥) → is_value_name (tag_of t) ≡ true → node_row t ≡ tag_of t ∷ named x → resolve_node Γ t ≡ named_by (tag_of t) (meant Γ x) → Sort p f Γ t
  a_plain : (t : Node) → (tag_of t ≡ 9 → ⊥) → (tag_of t ≡ 10 → ⊥) → is_value_name (tag_of t) ≡ false → ((w : List ℕ) (i : ℕ) → Has w i (node_row t) → Checked p f t → node_words (resolve_node Γ t) ≡ (plain_tag_of (tag_of t) ∷ pick (has_value (tag_of t)) (get_or w (i + 1) 0) 0 ∷ 0 ∷ [])) → Sort p f Γ t

pub sort_of : (p : Prog) (f : Name) (Γ : Scope) (t : Node) → Sort p f Γ t
unfolding tag_of
sort_of p f Γ (n_num n) = a_plain (n_num n) (λ e. omega arith) (λ e. omega arith) refl (λ w i h k. ap (λ (m : ℕ). 0 ∷ m ∷ 0 ∷ []) (let l : n < 4294967296 = k in let z : n ≡ n % 4294967296 = omega arith in z ∙ sym (has_word (has-next h))))
sort_of p f Γ (n_var x) = a_name (n_var x) x (λ e. omega arith) (λ e. omega arith) refl refl (read_is Γ x)
sort_of p f Γ (n_bin o) = a_plain (n_bin o) (λ e. omega arith) (λ e. omega arith) refl (λ w i h k. ap (λ (m : ℕ). 5 ∷ m ∷ 0 ∷ []) (sym (has_word (has-next h))))
sort_of p f Γ n_and = a_plain n_and (λ e. omega arith) (λ e. omega arith) refl (λ w i h k. refl)
sort_of p f Γ n_or = a_plain n_or (λ e. omega arith) (λ e. omega arith) refl (λ w i h k. refl)
sort_of p f Γ n_join = a_plain n_join (λ e. omega arith) (λ e. omega arith) refl (λ w i h k. refl)
sort_of p f Γ (n_un o) = a_plain (n_un o) (λ e. omega arith) (λ e. omega arith) refl (λ w i h k. ap (λ (m : ℕ). 6 ∷ m ∷ 0 ∷ []) (sym (has_word (has-next h))))
sort_of p f Γ (n_idx x) = a_name (n_idx x) x (λ e. omega arith) (λ e. omega arith) refl refl (ap v_idx (array-is Γ x))
sort_of p f Γ (n_len x) = a_name (n_len x) x (λ e. omega arith) (λ e. omega arith) refl refl (ap v_len (array-is Γ x))
sort_of p f Γ (n_call n x) = a_call n x
sort_of p f Γ (n_by n x) = a_table n x
sort_of p f Γ n_in = a_plain n_in (λ e. omega arith) (λ e. omega arith) refl (λ w i h k. refl)
sort_of p f Γ (n_set x) = a_name (n_set x) x (λ e. omega arith) (λ e. omega arith) refl refl (set_is Γ x)
sort_of p f Γ (n_store x) = a_name (n_store x) x (λ e. omega arith) (λ e. omega arith) refl refl (ap₂ v_store (generated Γ x).width (array-is Γ x))
sort_of p f Γ n_ex = a_plain n_ex (λ e. omega arith) (λ e. omega arith) refl (λ w i h k. refl)
sort_of p f Γ n_out = a_plain n_out (λ e. omega arith) (λ e. omega arith) refl (λ w i h k. refl)
sort_of p f Γ n_if = a_plain n_if (λ e. omega arith) (λ e. omega arith) refl (λ w i h k. refl)
sort_of p f Γ n_else = a_plain n_else (λ e. omega arith) (λ e. omega arith) refl (λ w i h k. refl)
sort_of p f Γ n_fi = a_plain n_fi (λ e. omega arith) (λ e. omega arith) refl (λ w i h k. refl)
sort_of p f Γ n_loop = a_plain n_loop (λ e. omega arith) (λ e. omega arith) refl (λ w i h k. refl)
sort_of p f Γ n_while = a_plain n_while (λ e. omega arith) (λ e. omega arith) refl (λ w i h k. refl)
sort_of p f Γ n_again = a_plain n_again (λ e. omega arith) (λ e. omega arith) refl (λ w i h k. refl)
sort_of p f Γ n_ret = a_plain n_ret (λ e. omega arith) (λ e. omega arith) refl (λ w i h k. refl)
sort_of p f Γ n_break = a_plain n_break (λ e. omega arith) (λ e. omega arith) refl (λ w i h k. refl)
sort_of p f Γ n_next = a_plain n_next (λ e. omega arith) (λ e. omega arith) refl (λ w i h k. refl)
sort_of p f Γ n_end = a_plain n_end (λ e. omega arith) (λ e. omega arith) refl (λ w i h k. refl)
sort_of p f Γ (n_arg x) = a_name (n_arg x) x (λ e. omega arith) (λ e. omega arith) refl refl (pass-is Γ x)

abbrev own_scope : Prog → Name → Fn → Scope
own_scope p f g = scope p f (slots_of g)

-- the node at place i, its second word at s and its third at u
module _ {w : List ℕ} {i s u : ℕ} (p : Prog) (f : Name) (g : Fn) (small : length w < 18446744073709551616) (second : s ≡ min (i + 1) 18446744073709551615) (third : u ≡ min (i + 2) 18446744073709551615) where
  at_second : {a b : ℕ} {ws : List ℕ} → Has w i (a ∷ b ∷ ws) → Has w s (b ∷ ws)
  at_second h = let h1 = has-next h in has_to (omega (arith, h1.inside, second)) h1

  at_third : {a b c : ℕ} {ws : List ℕ} → Has w i (a ∷ b ∷ c ∷ ws) → Has w u (c ∷ ws)
  at_third h = let h2 = has-next (has-next h) in has_to (omega (arith, h2.inside, third)) h2

  pub call_words_are : {v : List ℕ} {m n : ℕ} (t : Node) → Sound w p → Has w i (node_row t) → Checked p f t → tag_of t ≡ 9 → n ≡ get_or w s 0 → n < 4294967296 → ((x : Name) → Has w u (named x) → Known p f x → m ≡ fn_no p f x) → (m < 4294967296 → n < 4294967296 → v ≡ (12 ∷ m ∷ n ∷ [])) → v ≡ node_words (resolve_node (own_scope p f g) t)
  unfolding tag_of
  call_words_are {v} {m} {n} t so h k e rd ln it to = go (sort_of p f (own_scope p f g) t) h k e
    where
      go : {t : Node} → Sort p f (own_scope p f g) t → Has w i (node_row t) → Checked p f t → tag_of t ≡ 9 → v ≡ node_words (resolve_node (own_scope p f g) t)
      go (a_call c x) h k e =
          let em = it x (at_third h) k in
          let en : n ≡ c = rd ∙ has_word (at_second h) in
          to (omega (arith, em, number_fits as_fn f x so)) ln ∙ ap₂ (λ (a b : ℕ). 12 ∷ a ∷ b ∷ []) em en
      go (a_table c x) h k e = absurd (omega arith)
      go (a_name t x n9 n10 b r q) h k e = absurd (n9 e)
      go (a_plain t n9 n10 b q) h k e = absurd (n9 e)

  pub table_words_are : {v : List ℕ} {m n : ℕ} (t : Node) → Sound w p → Has w i (node_row t) → Checked p f t → tag_of t ≡ 10 → n ≡ get_or w s 0 → n < 4294967296 → ((x : Name) → Has w u (named x) → Known p f x → m ≡ number as_table p f x) → (m < 4294967296 → n < 4294967296 → v ≡ (13 ∷ m ∷ n ∷ [])) → v ≡ node_words (resolve_node (own_scope p f g) t)
  unfolding tag_of
  table_words_are {v} {m} {n} t so h k e rd ln it to = go (sort_of p f (own_scope p f g) t) h k e
    where
      go : {t : Node} → Sort p f (own_scope p f g) t → Has w i (node_row t) → Checked p f t → tag_of t ≡ 10 → v ≡ node_words (resolve_node (own_scope p f g) t)
      go (a_call c x) h k e = absurd (omega arith)
      go (a_table c x) h k e =
          let em = it x (at_third h) k in
          let en : n ≡ c = rd ∙ has_word (at_second h) in
          to (omega (arith, em, number_fits as_table f x so)) ln ∙ ap₂ (λ (a b : ℕ). 13 ∷ a ∷ b ∷ []) em en
      go (a_name t x n9 n10 b r q) h k e = absurd (n10 e)
      go (a_plain t n9 n10 b q) h k e = absurd (n10 e)

  pub named_words_are : {v : List ℕ} {r : found.Reference} (t : Node) → Sound w p → ok_fn p f g ≡ true → Has w i (node_row t) → is_value_name (tag_of t) ≡ true → ((x : Name) → Has w s (named x) → r ≡ meant (own_scope p f g) x) → (Fits r → v ≡ node_words (named_by (tag_of t) r)) → v ≡ node_words (resolve_node (own_scope p f g) t)
  unfolding tag_of
  named_words_are {v} {r} t so ok h e it to = go (sort_of p f (own_scope p f g) t) h e to
    where
      go : {t : Node} → Sort p f (own_scope p f g) t → Has w i (node_row t) → is_value_name (tag_of t) ≡ true → (Fits r → v ≡ node_words (named_by (tag_of t) r)) → v ≡ node_words (resolve_node (own_scope p f g) t)
      go (a_call c x) h e to = absurd (false≢true e)
      go (a_table c x) h e to = absurd (false≢true e)
      go (a_name t x n9 n10 b q z) h e to =
          let er = it x (at_second (has_as q h)) in
          to (subst Fits (sym er) (meant_fits f g x so ok)) ∙ ap (λ (y : found.Reference). node_words (named_by (tag_of t) y)) er ∙ ap node_words (sym z)
      go (a_plain t n9 n10 b q) h e to = absurd (false≢true (sym b ∙ e))

  pub plain_words_are : {v : List ℕ} {n : ℕ} (t : Node) → Has w i (node_row t) → Checked p f t → (tag_of t ≡ 9 → ⊥) → (tag_of t ≡ 10 → ⊥) → is_value_name (tag_of t) ≡ false → n ≡ get_or w s 0 → n < 4294967296 → (n < 4294967296 → v ≡ (plain_tag_of (tag_of t) ∷ pick (has_value (tag_of t)) n 0 ∷ 0 ∷ [])) → v ≡ node_words (resolve_node (own_scope p f g) t)
  unfolding tag_of
  plain_words_are {v} {n} t h k n9 n10 e rd ln to = go (sort_of p f (own_scope p f g) t) h k n9 n10 e to
    where
      go : {t : Node} → Sort p f (own_scope p f g) t → Has w i (node_row t) → Checked p f t → (tag_of t ≡ 9 → ⊥) → (tag_of t ≡ 10 → ⊥) → is_value_name (tag_of t) ≡ false → (n < 4294967296 → v ≡ (plain_tag_of (tag_of t) ∷ pick (has_value (tag_of t)) n 0 ∷ 0 ∷ [])) → v ≡ node_words (resolve_node (own_scope p f g) t)
      go (a_call c x) h k n9 n10 e to = absurd (n9 refl)
      go (a_table c x) h k n9 n10 e to = absurd (n10 refl)
      go (a_name t x m9 m10 b q z) h k n9 n10 e to = absurd (false≢true (sym e ∙ b))
      go (a_plain t m9 m10 b q) h k n9 n10 e to =
          let en : n ≡ get_or w (i + 1) 0 = rd ∙ ap (λ (m : ℕ). get_or w m 0) (omega (arith, node-long t, h.inside, second, small)) in
          to ln ∙ ap (λ (m : ℕ). plain_tag_of (tag_of t) ∷ pick (has_value (tag_of t)) m 0 ∷ 0 ∷ []) en ∙ sym (q w i h k)
