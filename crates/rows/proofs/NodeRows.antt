-- A node's row: its tag, its numbers, its name.
use Rattle.std.proofs.Common.{◌≡◌, ℕ, ◌+◌, ◌/◌, ◌%◌, ◌<◌, min, Bool, true, false, List, [], ◌∷◌, ◌++◌, length, get_or, sym, refl, ap, ◌∙◌, arith, length-append}
use mathlib.Core.Option.{Option, some, none}
use Rattle.language.specs.Syntax.{Name}
use Rattle.rows.specs.Has.{Has, named}
use Rattle.rows.specs.declared.tag.Tag.{Tag}
use Rattle.rows.specs.NodeTags.{tag_of, tag_no, lead, has_name}
use Rattle.rows.specs.Nodes.{Node, node_row, n_num, n_var, n_bin, n_and, n_or, n_join, n_un, n_idx, n_len, n_call, n_by, n_in, n_set, n_store, n_ex, n_out, n_if, n_else, n_fi, n_loop, n_while, n_again, n_ret, n_break, n_next, n_end, n_arg}
use Rattle.rows.proofs.Having.{has_word, has_right, has_to, has_as}

-- the number that a node's row begins with
abbrev tag : Node → ℕ
tag t = tag_no (tag_of t)

front : Node → List ℕ
front (n_num n) = (n % 4294967296) ∷ (n / 4294967296) ∷ []
front (n_var x) = []
front (n_bin o) = o ∷ []
front n_and = []
front n_or = []
front n_join = []
front (n_un o) = o ∷ []
front (n_idx x) = []
front (n_len x) = []
front (n_call n x) = n ∷ []
front (n_by n x) = n ∷ []
front n_in = []
front (n_set x) = []
front (n_store x) = []
front n_ex = []
front n_out = []
front n_if = []
front n_else = []
front n_fi = []
front n_loop = []
front n_while = []
front n_again = []
front n_ret = []
front n_break = []
front n_next = []
front n_end = []
front (n_arg x) = []

back : Node → Option Name
back (n_num n) = none
back (n_var x) = some x
back (n_bin o) = none
back n_and = none
back n_or = none
back n_join = none
back (n_un o) = none
back (n_idx x) = some x
back (n_len x) = some x
back (n_call n x) = some x
back (n_by n x) = some x
back n_in = none
back (n_set x) = some x
back (n_store x) = some x
back n_ex = none
back n_out = none
back n_if = none
back n_else = none
back n_fi = none
back n_loop = none
back n_while = none
back n_again = none
back n_ret = none
back n_break = none
back n_next = none
back n_end = none
back (n_arg x) = some x

back-row : Option Name → List ℕ
back-row none = []
back-row (some x) = named x

is-named : Option Name → Bool
is-named none = false
is-named (some x) = true

parts : (t : Node) → node_row t ≡ (tag t ∷ front t) ++ back-row (back t)
unfolding front back back-row is-named
parts (n_num n) = refl
parts (n_var x) = refl
parts (n_bin o) = refl
parts n_and = refl
parts n_or = refl
parts n_join = refl
parts (n_un o) = refl
parts (n_idx x) = refl
parts (n_len x) = refl
parts (n_call n x) = refl
parts (n_by n x) = refl
parts n_in = refl
parts (n_set x) = refl
parts (n_store x) = refl
parts n_ex = refl
parts n_out = refl
parts n_if = refl
parts n_else = refl
parts n_fi = refl
parts n_loop = refl
parts n_while = refl
parts n_again = refl
parts n_ret = refl
parts n_break = refl
parts n_next = refl
parts n_end = refl
parts (n_arg x) = refl

long : (t : Node) → length (tag t ∷ front t) ≡ lead (tag t)
unfolding front back back-row is-named
long (n_num n) = refl
long (n_var x) = refl
long (n_bin o) = refl
long n_and = refl
long n_or = refl
long n_join = refl
long (n_un o) = refl
long (n_idx x) = refl
long (n_len x) = refl
long (n_call n x) = refl
long (n_by n x) = refl
long n_in = refl
long (n_set x) = refl
long (n_store x) = refl
long n_ex = refl
long n_out = refl
long n_if = refl
long n_else = refl
long n_fi = refl
long n_loop = refl
long n_while = refl
long n_again = refl
long n_ret = refl
long n_break = refl
long n_next = refl
long n_end = refl
long (n_arg x) = refl

ends : (t : Node) → is-named (back t) ≡ has_name (tag t)
unfolding front back back-row is-named
ends (n_num n) = refl
ends (n_var x) = refl
ends (n_bin o) = refl
ends n_and = refl
ends n_or = refl
ends n_join = refl
ends (n_un o) = refl
ends (n_idx x) = refl
ends (n_len x) = refl
ends (n_call n x) = refl
ends (n_by n x) = refl
ends n_in = refl
ends (n_set x) = refl
ends (n_store x) = refl
ends n_ex = refl
ends n_out = refl
ends n_if = refl
ends n_else = refl
ends n_fi = refl
ends n_loop = refl
ends n_while = refl
ends n_again = refl
ends n_ret = refl
ends n_break = refl
ends n_next = refl
ends n_end = refl
ends (n_arg x) = refl

pub node_tag : {w : List ℕ} {i : ℕ} (t : Node) → Has w i (node_row t) → get_or w i 0 ≡ tag_no (tag_of t)
node_tag {w} {i} t h = has_word (has_as (parts t) h)

module _ {w : List ℕ} {i j : ℕ} {tag_read : Tag} (t : Node) (small : length w < 18446744073709551616) (rd : tag_read ≡ tag_of t) (sum : j ≡ min (i + lead (tag_no tag_read)) 18446744073709551615) (h : Has w i (node_row t)) where
  at_back : Has w j (back-row (back t)) × (length (node_row t) + i ≡ length (back-row (back t)) + j) × (has_name (tag_no tag_read) ≡ is-named (back t))
  at_back =
      let h1 = has_as (parts t) h in
      let rt : tag_no tag_read ≡ tag t = ap tag_no rd in
      let lr : lead (tag_no tag_read) ≡ length (tag t ∷ front t) = ap lead rt ∙ sym (long t) in
      let la = length-append (tag t ∷ front t) (back-row (back t)) in
      let ej : i + length (tag t ∷ front t) ≡ j = omega (arith, h1.inside) in
      let lt : length (node_row t) ≡ length (tag t ∷ front t) + length (back-row (back t)) = ap length (parts t) ∙ la in
      (has_to ej (has_right (tag t ∷ front t) (back-row (back t)) h1), omega arith, ap has_name rt ∙ sym (ends t))

  pub past_named : {q : ℕ} → has_name (tag_no tag_read) ≡ true → ((x : Name) → Has w j (named x) → q ≡ j + (length x + 1)) → q ≡ i + length (node_row t)
  unfolding back-row is-named
  past_named {q} e to = go (back t) at_back.0 at_back.1 at_back.2
    where
      go : (o : Option Name) → Has w j (back-row o) → length (node_row t) + i ≡ length (back-row o) + j → has_name (tag_no tag_read) ≡ is-named o → q ≡ i + length (node_row t)
      go none hr l n = let z : true ≡ false = sym e ∙ n in let y : ◌≡◌ {A = ℕ} 0 1 = cc in absurd (omega arith)
      go (some x) hr l n = omega (arith, to x hr)

  pub past_bare : has_name (tag_no tag_read) ≡ false → j ≡ i + length (node_row t)
  unfolding back-row is-named
  past_bare e = go (back t) at_back.1 at_back.2
    where
      go : (o : Option Name) → length (node_row t) + i ≡ length (back-row o) + j → has_name (tag_no tag_read) ≡ is-named o → j ≡ i + length (node_row t)
      go none l n = omega arith
      go (some x) l n = let z : true ≡ false = sym n ∙ e in let y : ◌≡◌ {A = ℕ} 0 1 = cc in absurd (omega arith)
