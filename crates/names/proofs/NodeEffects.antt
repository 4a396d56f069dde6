-- Each node does what its tag says: the three ways in which the code finds what a node asks and gives.
use Rattle.std.proofs.Common.{◌≡◌, ℕ, zero, suc, ◌+◌, ◌-◌, ◌/◌, ◌<◌, min, Bool, true, false, not, ◌&&◌, eqb, ltb, leb, ◌⊎◌, List, [], ◌∷◌, ◌++◌, length, get_or, take, drop, replicate, sym, refl, ap, ◌∙◌, subst, ap₂, inl, inr, arith, length-append, le-ltb, lt-ltb, eq-eqb, ne_eqb, le-leb, leb-true}
use mathlib.Core.Option.{Option, some, none}
use Rattle.std.specs.Prelude.{Some, None, is_some}
use Rattle.std.specs.Bool.{then_some}
use Rattle.std.specs.declared.option.Option as std
use Rattle.rows.specs.declared.kind.LocalKind.{LocalKind}
use Rattle.rows.specs.declared.kind.LocalKind.TheVariants.{Word}
use Rattle.std.proofs.lemmas.List.{take_all, drop_all, length-drop}
use Rattle.std.proofs.lemmas.Bool.{cases_eq}
use Rattle.language.specs.Syntax.{pick, Name, Kind, k_word, k_arr, Param}
use Rattle.language.specs.Words.{all}
use Rattle.language.specs.Meaning.{on_some}
use Rattle.language.specs.Checks.{same_k, is_kind, any_arr}
use Rattle.rows.specs.Has.{Has, named}
use Rattle.rows.specs.Nodes.{Node, node_row, n_num, n_var, n_bin, n_and, n_or, n_join, n_un, n_idx, n_len, n_call, n_by, n_in, n_set, n_store, n_ex, n_out, n_if, n_else, n_fi, n_loop, n_while, n_again, n_ret, n_break, n_next, n_end, n_arg}
use Rattle.rows.specs.Trees.{map_list, of_param, local_row}
use Rattle.rows.proofs.Having.{has_word, has-next, has_to}
use Rattle.limits.specs.declared.entries.Entries.{Entries}
use Rattle.limits.specs.declared.entries.Locals.{Locals}
use Rattle.limits.specs.Entries.{Left}
use Rattle.names.specs.declared.asking.Effect.{Effect}
use Rattle.names.specs.Fold.{Ctx, kinds, fit, eat, push, if_so, one, inside, step}
use Rattle.names.specs.Kinds.{kind_found}
use Rattle.names.specs.Effects.{takes, gives, wants_kind, suits, stands, give, local_kinds, is_word, is_array, called_with, MayDo, MayAsk}
use Rattle.names.proofs.NameKinds.{map-length}

unfoldable pub tag_of : Node → ℕ
tag_of (n_num n) = 0
tag_of (n_var x) = 1
tag_of (n_bin o) = 2
tag_of n_and = 3
tag_of n_or = 4
tag_of n_join = 5
tag_of (n_un o) = 6
tag_of (n_idx x) = 7
tag_of (n_len x) = 8
tag_of (n_call n x) = 9
tag_of (n_by n x) = 10
tag_of n_in = 11
tag_of (n_set x) = 12
tag_of (n_store x) = 13
tag_of n_ex = 14
tag_of n_out = 15
tag_of n_if = 16
tag_of n_else = 17
tag_of n_fi = 18
tag_of n_loop = 19
tag_of n_while = 20
tag_of n_again = 21
tag_of n_ret = 22
tag_of n_break = 23
tag_of n_next = 24
tag_of n_end = 25
tag_of (n_arg x) = 26

pub tag_is : {w : List ℕ} {i : ℕ} (t : Node) → Has w i (node_row t) → get_or w i 0 ≡ tag_of t
unfolding tag_of
tag_is (n_num n) h = has_word h
tag_is (n_var x) h = has_word h
tag_is (n_bin o) h = has_word h
tag_is n_and h = has_word h
tag_is n_or h = has_word h
tag_is n_join h = has_word h
tag_is (n_un o) h = has_word h
tag_is (n_idx x) h = has_word h
tag_is (n_len x) h = has_word h
tag_is (n_call n x) h = has_word h
tag_is (n_by n x) h = has_word h
tag_is n_in h = has_word h
tag_is (n_set x) h = has_word h
tag_is (n_store x) h = has_word h
tag_is n_ex h = has_word h
tag_is n_out h = has_word h
tag_is n_if h = has_word h
tag_is n_else h = has_word h
tag_is n_fi h = has_word h
tag_is n_loop h = has_word h
tag_is n_while h = has_word h
tag_is n_again h = has_word h
tag_is n_ret h = has_word h
tag_is n_break h = has_word h
tag_is n_next h = has_word h
tag_is n_end h = has_word h
tag_is (n_arg x) h = has_word h

not_both : true ≡ false → ⊥
not_both e = let z : ◌≡◌ {A = ℕ} 1 0 = ap (λ (b : Bool). pick b 1 0) e in omega arith

-- nothing is asked for
pub eat-none : (st : List Kind) → eat 0 [] st ≡ some st
unfolding eat
eat-none st =
    ap₂ (λ (a b : List Kind). pick (leb 0 (length st) && fit a []) (some b) none) (drop_all (length st - 0) st (omega arith)) (take_all (length st - 0) st (omega arith))
    ∙ ap (λ (b : Bool). pick (b && true) (some st) none) (le-leb 0 (length st) (omega arith))

-- an effect by its parts
pub does-of : (w : List ℕ) (Γ : Ctx) (d : ℕ) (nowhere : Entries Locals) (t : Node) {b c : Bool} {m n : ℕ} {j k : std.Option LocalKind} → b ≡ c → m ≡ n → j ≡ k → MayDo w Γ d t (then_some c (record { words = n; params = nowhere; gives = k })) → MayDo w Γ d t (then_some b (record { words = m; params = nowhere; gives = j }))
does-of w Γ d nowhere t {b} {c} {m} {n} {j} {k} eb em ej v =
    subst (λ (x : Bool). MayDo w Γ d t (then_some x (record { words = m; params = nowhere; gives = j }))) (sym eb)
    (subst (λ (x : ℕ). MayDo w Γ d t (then_some c (record { words = x; params = nowhere; gives = j }))) (sym em)
    (subst (λ (x : std.Option LocalKind). MayDo w Γ d t (then_some c (record { words = n; params = nowhere; gives = x }))) (sym ej) v))

-- a node that asks for no parameters
bare : {w : List ℕ} {nowhere : Entries Locals} → Left local_row w nowhere [] → (Γ : Ctx) (d : ℕ) (t : Node) (b : Bool) (n : ℕ) (o : Option Kind) {k : std.Option LocalKind} → k ≡ kind_found o → ((st : List Kind) → step Γ d t st ≡ if_so b (give o (eat (n + 0) (replicate n k_word ++ []) st))) → MayDo w Γ d t (then_some b (record { words = n; params = nowhere; gives = k }))
bare nothing Γ d t true n o e it = record { asked = []; there = nothing; given = o; gives = e; is = it }
bare nothing Γ d t false n o e it = it

low : (n : ℕ) → ltb n all ≡ eqb (n / all) 0
low n = go (cases_eq (n / all) 0)
  where
    go : ((n / all) ≡ 0) ⊎ ((n / all) ≡ 0 → ⊥) → ltb n all ≡ eqb (n / all) 0
    go (inl e) = lt-ltb n all (omega arith) ∙ sym (eq-eqb (n / all) 0 e)
    go (inr e) = le-ltb n all (omega arith) ∙ sym (ne_eqb (n / all) 0 e)

in_loop : (d : ℕ) → inside d ≡ not (eqb d 0)
in_loop zero = refl
in_loop (suc d) = sym (ap not (ne_eqb (suc d) 0 (λ e. absurd (omega arith))))

pushes : (o : Option Kind) (st : List Kind) → on_some o (λ k. some (st ++ (k ∷ []))) ≡ if_so (is_some (kind_found o)) (give o (eat 0 [] st))
pushes none st = refl
pushes (some k) st = ap (push k) (sym (eat-none st))

arrays : (o : Option Kind) → any_arr o ≡ is_array (kind_found o)
arrays none = refl
arrays (some k_word) = refl
arrays (some (k_arr true)) = refl
arrays (some (k_arr false)) = refl

word-kind : (o : Option Kind) → is_kind o k_word ≡ is_word (kind_found o)
word-kind none = refl
word-kind (some k_word) = refl
word-kind (some (k_arr true)) = refl
word-kind (some (k_arr false)) = refl

module _ {w : List ℕ} {nowhere : Entries Locals} (nothing : Left local_row w nowhere []) (Γ : Ctx) {i s u : ℕ} (small : length w < 18446744073709551616) (second : s ≡ min (i + 1) 18446744073709551615) (third : u ≡ min (i + 2) 18446744073709551615) where
  at_second : {a b : ℕ} {ws : List ℕ} → Has w i (a ∷ b ∷ ws) → Has w s (b ∷ ws)
  at_second h = let h1 = has-next h in has_to (omega (arith, h1.inside, second)) h1

  -- a node without a name
  pub plain_node : (d h : ℕ) (k : std.Option LocalKind) (t : Node) → h ≡ get_or w u 0 → Has w i (node_row t) → wants_kind (tag_of t) ≡ false → (tag_of t ≡ 9 → ⊥) → (tag_of t ≡ 10 → ⊥) → MayDo w Γ d t (then_some (stands (tag_of t) h d) (record { words = takes (tag_of t); params = nowhere; gives = gives (tag_of t) k }))
  unfolding tag_of
  plain_node d h k (n_num n) rd at1 e n9 n10 =
      let h2 = has-next (has-next at1) in
      let eh : h ≡ n / all = rd ∙ has_word (has_to (omega (arith, h2.inside, third)) h2) in
      bare nothing Γ d (n_num n) (eqb h 0) 0 (some k_word) refl (λ st. ap₂ (λ (b : Bool) (o : Option (List Kind)). if_so b (push k_word o)) (low n ∙ ap (λ (m : ℕ). eqb m 0) (sym eh)) (sym (eat-none st)))
  plain_node d h k (n_var x) rd at1 e n9 n10 = absurd (not_both e)
  plain_node d h k (n_bin o) rd at1 e n9 n10 = bare nothing Γ d (n_bin o) true 2 (some k_word) refl (λ st. refl)
  plain_node d h k n_and rd at1 e n9 n10 = bare nothing Γ d n_and true 1 none refl (λ st. refl)
  plain_node d h k n_or rd at1 e n9 n10 = bare nothing Γ d n_or true 1 none refl (λ st. refl)
  plain_node d h k n_join rd at1 e n9 n10 = bare nothing Γ d n_join true 1 (some k_word) refl (λ st. refl)
  plain_node d h k (n_un o) rd at1 e n9 n10 = bare nothing Γ d (n_un o) true 1 (some k_word) refl (λ st. refl)
  plain_node d h k (n_idx x) rd at1 e n9 n10 = absurd (not_both e)
  plain_node d h k (n_len x) rd at1 e n9 n10 = absurd (not_both e)
  plain_node d h k (n_call n x) rd at1 e n9 n10 = absurd (n9 refl)
  plain_node d h k (n_by n x) rd at1 e n9 n10 = absurd (n10 refl)
  plain_node d h k n_in rd at1 e n9 n10 = bare nothing Γ d n_in true 0 (some k_word) refl (λ st. ap (push k_word) (sym (eat-none st)))
  plain_node d h k (n_set x) rd at1 e n9 n10 = absurd (not_both e)
  plain_node d h k (n_store x) rd at1 e n9 n10 = absurd (not_both e)
  plain_node d h k n_ex rd at1 e n9 n10 = bare nothing Γ d n_ex true 1 none refl (λ st. refl)
  plain_node d h k n_out rd at1 e n9 n10 = bare nothing Γ d n_out true 1 none refl (λ st. refl)
  plain_node d h k n_if rd at1 e n9 n10 = bare nothing Γ d n_if true 1 none refl (λ st. refl)
  plain_node d h k n_else rd at1 e n9 n10 = bare nothing Γ d n_else true 0 none refl (λ st. sym (eat-none st))
  plain_node d h k n_fi rd at1 e n9 n10 = bare nothing Γ d n_fi true 0 none refl (λ st. sym (eat-none st))
  plain_node d h k n_loop rd at1 e n9 n10 = bare nothing Γ d n_loop true 0 none refl (λ st. sym (eat-none st))
  plain_node d h k n_while rd at1 e n9 n10 = bare nothing Γ d n_while true 1 none refl (λ st. refl)
  plain_node d h k n_again rd at1 e n9 n10 = bare nothing Γ d n_again true 0 none refl (λ st. sym (eat-none st))
  plain_node d h k n_ret rd at1 e n9 n10 = bare nothing Γ d n_ret true 1 none refl (λ st. refl)
  plain_node d h k n_break rd at1 e n9 n10 = bare nothing Γ d n_break (not (eqb d 0)) 0 none refl (λ st. ap₂ if_so (in_loop d) (sym (eat-none st)))
  plain_node d h k n_next rd at1 e n9 n10 = bare nothing Γ d n_next (not (eqb d 0)) 0 none refl (λ st. ap₂ if_so (in_loop d) (sym (eat-none st)))
  plain_node d h k n_end rd at1 e n9 n10 = bare nothing Γ d n_end true 0 none refl (λ st. sym (eat-none st))
  plain_node d h k (n_arg x) rd at1 e n9 n10 = absurd (not_both e)

  -- a node whose name has a kind
  pub named_node : (d : ℕ) (k : std.Option LocalKind) (t : Node) → ((x : Name) → Has w s (named x) → k ≡ kind_found (Γ.kind x)) → Has w i (node_row t) → wants_kind (tag_of t) ≡ true → MayDo w Γ d t (then_some (suits (tag_of t) k) (record { words = takes (tag_of t); params = nowhere; gives = gives (tag_of t) k }))
  unfolding tag_of
  named_node d k (n_num n) it at1 e = absurd (not_both (sym e))
  named_node d k (n_var x) it at1 e = bare nothing Γ d (n_var x) (is_some k) 0 (Γ.kind x) (it x (at_second at1)) (λ st. pushes (Γ.kind x) st ∙ ap (λ (m : std.Option LocalKind). if_so (is_some m) (give (Γ.kind x) (eat 0 [] st))) (sym (it x (at_second at1))))
  named_node d k (n_bin o) it at1 e = absurd (not_both (sym e))
  named_node d k n_and it at1 e = absurd (not_both (sym e))
  named_node d k n_or it at1 e = absurd (not_both (sym e))
  named_node d k n_join it at1 e = absurd (not_both (sym e))
  named_node d k (n_un o) it at1 e = absurd (not_both (sym e))
  named_node d k (n_idx x) it at1 e = bare nothing Γ d (n_idx x) (is_array k) 1 (some k_word) refl (λ st. ap (λ (b : Bool). if_so b (push k_word (eat 1 one st))) (arrays (Γ.kind x) ∙ ap is_array (sym (it x (at_second at1)))))
  named_node d k (n_len x) it at1 e = bare nothing Γ d (n_len x) (is_array k) 0 (some k_word) refl (λ st. ap (λ (b : Bool). if_so b (some (st ++ one))) (arrays (Γ.kind x) ∙ ap is_array (sym (it x (at_second at1)))) ∙ ap (λ (q : Option (List Kind)). if_so (is_array k) (push k_word q)) (sym (eat-none st)))
  named_node d k (n_call n x) it at1 e = absurd (not_both (sym e))
  named_node d k (n_by n x) it at1 e = absurd (not_both (sym e))
  named_node d k n_in it at1 e = absurd (not_both (sym e))
  named_node d k (n_set x) it at1 e = bare nothing Γ d (n_set x) (is_word k) 1 none refl (λ st. ap (λ (b : Bool). if_so b (eat 1 one st)) (word-kind (Γ.kind x) ∙ ap is_word (sym (it x (at_second at1)))))
  named_node d k (n_store x) it at1 e = bare nothing Γ d (n_store x) (is_array k) 2 none refl (λ st. ap (λ (b : Bool). if_so b (eat 2 (k_word ∷ one) st)) (arrays (Γ.kind x) ∙ ap is_array (sym (it x (at_second at1)))))
  named_node d k n_ex it at1 e = absurd (not_both (sym e))
  named_node d k n_out it at1 e = absurd (not_both (sym e))
  named_node d k n_if it at1 e = absurd (not_both (sym e))
  named_node d k n_else it at1 e = absurd (not_both (sym e))
  named_node d k n_fi it at1 e = absurd (not_both (sym e))
  named_node d k n_loop it at1 e = absurd (not_both (sym e))
  named_node d k n_while it at1 e = absurd (not_both (sym e))
  named_node d k n_again it at1 e = absurd (not_both (sym e))
  named_node d k n_ret it at1 e = absurd (not_both (sym e))
  named_node d k n_break it at1 e = absurd (not_both (sym e))
  named_node d k n_next it at1 e = absurd (not_both (sym e))
  named_node d k n_end it at1 e = absurd (not_both (sym e))
  named_node d k (n_arg x) it at1 e = bare nothing Γ d (n_arg x) (is_some k) 0 (Γ.kind x) (it x (at_second at1)) (λ st. pushes (Γ.kind x) st ∙ ap (λ (m : std.Option LocalKind). if_so (is_some m) (give (Γ.kind x) (eat 0 [] st))) (sym (it x (at_second at1))))

module _ {w : List ℕ} (Γ : Ctx) {i s u : ℕ} (small : length w < 18446744073709551616) (second : s ≡ min (i + 1) 18446744073709551615) (third : u ≡ min (i + 2) 18446744073709551615) where
  second_at : {a b : ℕ} {ws : List ℕ} → Has w i (a ∷ b ∷ ws) → Has w s (b ∷ ws)
  second_at h = let h1 = has-next h in has_to (omega (arith, h1.inside, second)) h1

  -- a call
  pub call_node : (d : ℕ) (r : std.Option Effect) (n : ℕ) (t : Node) → Has w i (node_row t) → tag_of t ≡ 9 → n ≡ get_or w s 0 → ((x : Name) → Has w u (named x) → MayAsk w (Γ.params x) n 0 r) → MayDo w Γ d t r
  unfolding tag_of
  call_node d e m (n_num n) at1 eq rd it = absurd (omega arith)
  call_node d e m (n_var x) at1 eq rd it = absurd (omega arith)
  call_node d e m (n_bin o) at1 eq rd it = absurd (omega arith)
  call_node d e m n_and at1 eq rd it = absurd (omega arith)
  call_node d e m n_or at1 eq rd it = absurd (omega arith)
  call_node d e m n_join at1 eq rd it = absurd (omega arith)
  call_node d e m (n_un o) at1 eq rd it = absurd (omega arith)
  call_node d e m (n_idx x) at1 eq rd it = absurd (omega arith)
  call_node d e m (n_len x) at1 eq rd it = absurd (omega arith)
  call_node d r m (n_call n x) at1 eq rd it =
      let h1 = second_at at1 in
      let h2 = has-next (has-next at1) in
      let en : m ≡ n = rd ∙ has_word h1 in
      go r (it x (has_to (omega (arith, h2.inside, third)) h2)) en
    where
      go : (r : std.Option Effect) → MayAsk w (Γ.params x) m 0 r → m ≡ n → MayDo w Γ d (n_call n x) r
      go None q en = λ st. subst (λ (u : ℕ). on_some (Γ.params x) (λ qs. push k_word (eat u (replicate 0 k_word ++ kinds qs) st)) ≡ none) (omega arith) (q st)
      go (Some e) v en = record { asked = v.asked; there = v.there; given = some k_word; gives = v.gives; is = λ st. subst (λ (u : ℕ). on_some (Γ.params x) (λ qs. push k_word (eat u (replicate 0 k_word ++ kinds qs) st)) ≡ push k_word (eat (e.words + length v.asked) (replicate e.words k_word ++ local_kinds v.asked) st)) (omega arith) (v.is st) }
  call_node d e m (n_by n x) at1 eq rd it = absurd (omega arith)
  call_node d e m n_in at1 eq rd it = absurd (omega arith)
  call_node d e m (n_set x) at1 eq rd it = absurd (omega arith)
  call_node d e m (n_store x) at1 eq rd it = absurd (omega arith)
  call_node d e m n_ex at1 eq rd it = absurd (omega arith)
  call_node d e m n_out at1 eq rd it = absurd (omega arith)
  call_node d e m n_if at1 eq rd it = absurd (omega arith)
  call_node d e m n_else at1 eq rd it = absurd (omega arith)
  call_node d e m n_fi at1 eq rd it = absurd (omega arith)
  call_node d e m n_loop at1 eq rd it = absurd (omega arith)
  call_node d e m n_while at1 eq rd it = absurd (omega arith)
  call_node d e m n_again at1 eq rd it = absurd (omega arith)
  call_node d e m n_ret at1 eq rd it = absurd (omega arith)
  call_node d e m n_break at1 eq rd it = absurd (omega arith)
  call_node d e m n_next at1 eq rd it = absurd (omega arith)
  call_node d e m n_end at1 eq rd it = absurd (omega arith)
  call_node d e m (n_arg x) at1 eq rd it = absurd (omega arith)

  pub table_node : (d : ℕ) (r : std.Option Effect) (n : ℕ) (t : Node) → Has w i (node_row t) → tag_of t ≡ 10 → n ≡ get_or w s 0 → ((x : Name) → Has w u (named x) → MayAsk w (Γ.table x) n 1 r) → MayDo w Γ d t r
  unfolding tag_of
  table_node d e m (n_num n) at1 eq rd it = absurd (omega arith)
  table_node d e m (n_var x) at1 eq rd it = absurd (omega arith)
  table_node d e m (n_bin o) at1 eq rd it = absurd (omega arith)
  table_node d e m n_and at1 eq rd it = absurd (omega arith)
  table_node d e m n_or at1 eq rd it = absurd (omega arith)
  table_node d e m n_join at1 eq rd it = absurd (omega arith)
  table_node d e m (n_un o) at1 eq rd it = absurd (omega arith)
  table_node d e m (n_idx x) at1 eq rd it = absurd (omega arith)
  table_node d e m (n_len x) at1 eq rd it = absurd (omega arith)
  table_node d e m (n_call n x) at1 eq rd it = absurd (omega arith)
  table_node d r m (n_by n x) at1 eq rd it =
      let h1 = second_at at1 in
      let h2 = has-next (has-next at1) in
      let en : m ≡ n = rd ∙ has_word h1 in
      go r (it x (has_to (omega (arith, h2.inside, third)) h2)) en
    where
      go : (r : std.Option Effect) → MayAsk w (Γ.table x) m 1 r → m ≡ n → MayDo w Γ d (n_by n x) r
      go None q en = λ st. subst (λ (u : ℕ). on_some (Γ.table x) (λ qs. push k_word (eat u (replicate 1 k_word ++ kinds qs) st)) ≡ none) (omega arith) (q st)
      go (Some e) v en = record { asked = v.asked; there = v.there; given = some k_word; gives = v.gives; is = λ st. subst (λ (u : ℕ). on_some (Γ.table x) (λ qs. push k_word (eat u (replicate 1 k_word ++ kinds qs) st)) ≡ push k_word (eat (e.words + length v.asked) (replicate e.words k_word ++ local_kinds v.asked) st)) (omega arith) (v.is st) }
  table_node d e m n_in at1 eq rd it = absurd (omega arith)
  table_node d e m (n_set x) at1 eq rd it = absurd (omega arith)
  table_node d e m (n_store x) at1 eq rd it = absurd (omega arith)
  table_node d e m n_ex at1 eq rd it = absurd (omega arith)
  table_node d e m n_out at1 eq rd it = absurd (omega arith)
  table_node d e m n_if at1 eq rd it = absurd (omega arith)
  table_node d e m n_else at1 eq rd it = absurd (omega arith)
  table_node d e m n_fi at1 eq rd it = absurd (omega arith)
  table_node d e m n_loop at1 eq rd it = absurd (omega arith)
  table_node d e m n_while at1 eq rd it = absurd (omega arith)
  table_node d e m n_again at1 eq rd it = absurd (omega arith)
  table_node d e m n_ret at1 eq rd it = absurd (omega arith)
  table_node d e m n_break at1 eq rd it = absurd (omega arith)
  table_node d e m n_next at1 eq rd it = absurd (omega arith)
  table_node d e m n_end at1 eq rd it = absurd (omega arith)
  table_node d e m (n_arg x) at1 eq rd it = absurd (omega arith)

-- too few or too many arguments
pub fit-long : (ks qs : List Kind) → (length ks ≡ length qs → ⊥) → fit ks qs ≡ false
fit-long [] [] e = absurd (e refl)
fit-long [] (q ∷ qs) e = refl
fit-long (k ∷ ks) [] e = refl
fit-long (k ∷ ks) (q ∷ qs) e = ap (λ (t : Bool). same_k k q && t) (fit-long ks qs (λ z. e (ap suc z))) ∙ both (same_k k q)
  where
    both : (t : Bool) → (t && false) ≡ false
    both true = refl
    both false = refl

eat-long : (n : ℕ) (qs st : List Kind) → (n ≡ length qs → ⊥) → eat n qs st ≡ none
unfolding eat
eat-long n qs st e = go (leb n (length st)) refl
  where
    go : (b : Bool) → leb n (length st) ≡ b → pick (leb n (length st) && fit (drop (length st - n) st) qs) (some (take (length st - n) st)) none ≡ none
    go false z = ap (λ (b : Bool). pick (b && fit (drop (length st - n) st) qs) (some (take (length st - n) st)) none) z
    go true z =
        let le = leb-true n (length st) z in
        let l = length-drop (length st - n) st in
        ap₂ (λ (a b : Bool). pick (a && b) (some (take (length st - n) st)) none) z (fit-long (drop (length st - n) st) qs (λ y. e (omega arith)))

param_kinds : (qs : List Param) → kinds qs ≡ local_kinds (map_list of_param qs)
param_kinds [] = refl
param_kinds (q ∷ qs) = ap (λ (ks : List Kind). q.kind ∷ ks) (param_kinds qs)

kinds-length : (qs : List Param) → length (kinds qs) ≡ length qs
kinds-length [] = refl
kinds-length (q ∷ qs) = ap suc (kinds-length qs)

replicate-length : (n : ℕ) → length (replicate n k_word) ≡ n
replicate-length zero = refl
replicate-length (suc n) = ap suc (replicate-length n)

pub asks-some : {w : List ℕ} {o : Option (List Param)} {m : Entries Locals} {c : ℕ} (n words : ℕ) (qs : List Param) → o ≡ some qs → Left local_row w m (map_list of_param qs) → c ≡ m.left → MayAsk w o n words (then_some (eqb c n) (record { words = words; params = m; gives = Some Word }))
asks-some {w} {o} {m} {c} n words qs e l ec = by_count (eqb c n) (λ st. ap (λ (q : Option (List Param)). called_with q n words st) e ∙ go st (cases_eq c n))
  where
    by_count : (b : Bool) → ((st : List Kind) → called_with o n words st ≡ if_so b (push k_word (eat (words + length (map_list of_param qs)) (replicate words k_word ++ local_kinds (map_list of_param qs)) st))) → MayAsk w o n words (then_some b (record { words = words; params = m; gives = Some Word }))
    by_count true it = record { asked = map_list of_param qs; there = l; gives = refl; is = it }
    by_count false it = it

    long : length qs ≡ c
    long = sym (map-length of_param qs) ∙ l.long ∙ sym ec

    go : (st : List Kind) → (c ≡ n) ⊎ (c ≡ n → ⊥) → push k_word (eat (words + n) (replicate words k_word ++ kinds qs) st) ≡ if_so (eqb c n) (push k_word (eat (words + length (map_list of_param qs)) (replicate words k_word ++ local_kinds (map_list of_param qs)) st))
    go st (inl y) =
        ap₂ (λ (u : ℕ) (ks : List Kind). push k_word (eat (words + u) (replicate words k_word ++ ks) st)) (sym y ∙ ec ∙ sym l.long) (param_kinds qs)
        ∙ sym (ap (λ (b : Bool). if_so b (push k_word (eat (words + length (map_list of_param qs)) (replicate words k_word ++ local_kinds (map_list of_param qs)) st))) (eq-eqb c n y))
    go st (inr y) =
        ap (push k_word) (eat-long (words + n) (replicate words k_word ++ kinds qs) st (λ z. y (omega (arith, z, long, kinds-length qs, replicate-length words, length-append (replicate words k_word) (kinds qs)))))
        ∙ sym (ap (λ (b : Bool). if_so b (push k_word (eat (words + length (map_list of_param qs)) (replicate words k_word ++ local_kinds (map_list of_param qs)) st))) (ne_eqb c n y))
