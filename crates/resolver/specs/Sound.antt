-- What the pass takes for granted: the row of a program that passed the checks, in which every place is a word's number.
use Rattle.std.specs.Prelude.{◌≡◌, ℕ, ◌<◌, true, List, length}
use Rattle.std.proofs.Math.Option.{some}
use Rattle.language.specs.Syntax.{Name, Prog}
use Rattle.language.specs.Meaning.{Top, resolve}
use Rattle.language.specs.Checks.{ok}
use Rattle.rows.specs.declared.row.Row.{Row}
use Rattle.rows.specs.Nodes.{Node, n_num, n_var, n_bin, n_and, n_or, n_join, n_un, n_idx, n_len, n_call, n_by, n_in, n_set, n_store, n_ex, n_out, n_if, n_else, n_fi, n_loop, n_while, n_again, n_ret, n_break, n_next, n_end, n_arg}
use Rattle.rows.specs.Trees.{prog_row}

pub record Sound (row : List ℕ) (p : Prog) : Type 0 where
  pub is : row ≡ prog_row p
  pub right : ok p ≡ true
  pub short : length row < 4294967296

-- a name that means something at the top of file f
pub record Known (p : Prog) (f x : Name) : Type 0 where
  pub top : Top
  pub is : resolve p f x ≡ some top

-- what the checks say of a node: its number is a word, what it calls is known
abbrev pub Checked : Prog → Name → Node → Type 0
Checked p f (n_num n) = n < 4294967296
Checked p f (n_var x) = Unit {0}
Checked p f (n_bin o) = Unit {0}
Checked p f n_and = Unit {0}
Checked p f n_or = Unit {0}
Checked p f n_join = Unit {0}
Checked p f (n_un o) = Unit {0}
Checked p f (n_idx x) = Unit {0}
Checked p f (n_len x) = Unit {0}
Checked p f (n_call n x) = Known p f x
Checked p f (n_by n x) = Known p f x
Checked p f n_in = Unit {0}
Checked p f (n_set x) = Unit {0}
Checked p f (n_store x) = Unit {0}
Checked p f n_ex = Unit {0}
Checked p f n_out = Unit {0}
Checked p f n_if = Unit {0}
Checked p f n_else = Unit {0}
Checked p f n_fi = Unit {0}
Checked p f n_loop = Unit {0}
Checked p f n_while = Unit {0}
Checked p f n_again = Unit {0}
Checked p f n_ret = Unit {0}
Checked p f n_break = Unit {0}
Checked p f n_next = Unit {0}
Checked p f n_end = Unit {0}
Checked p f (n_arg x) = Unit {0}

-- the slice that is lent is still the same, and as long
pub record Lent (o p : Row) : Type 0 where
  pub kept : length p.words.now ≡ length o.words.now
  pub same : p.words.ghost_name ≡ o.words.ghost_name
