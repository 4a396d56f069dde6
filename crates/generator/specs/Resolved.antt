-- A body's nodes with each name replaced by what it stands for: a place of the function, a word or an array at the top, a function, a table.
-- Rests on the scopes of the generator (steps/specs/Generate), so that it is the generator's own look-up.
use Rattle.std.specs.Prelude.{Bool, List, [], ◌∷◌, ℕ}
use Rattle.std.proofs.Math.Option.{Option, some, none}
use Rattle.language.specs.Syntax.{opt, Name}
use Rattle.language.specs.Meaning.{on_some, as_word}
use Rattle.rows.specs.Nodes.{Node, n_num, n_var, n_bin, n_and, n_or, n_join, n_un, n_idx, n_len, n_call, n_by, n_in, n_set, n_store, n_ex, n_out, n_if, n_else, n_fi, n_loop, n_while, n_again, n_ret, n_break, n_next, n_end, n_arg}
use Rattle.steps.specs.Steps.{Opnd}
use Rattle.steps.specs.Generate.{Scope, Ref, r_word, r_arr, find, gen_arr, the_arr, wide_of}

pub data Resolved : Type 0 where
  v_num : ℕ → Resolved
  -- a word of the function's own, used where it stands; or copied, as an argument
  v_own : ℕ → Resolved
  v_copy : ℕ → Resolved
  -- a word at the top
  v_get : ℕ → Resolved
  -- an array as an argument
  v_arr : Opnd → Resolved
  v_bin : ℕ → Resolved
  v_un : ℕ → Resolved
  v_and : Resolved
  v_or : Resolved
  v_join : Resolved
  v_idx : Opnd → Resolved
  v_len : Opnd → Resolved
  -- function or table, and how many arguments
  v_call : ℕ → ℕ → Resolved
  v_by : ℕ → ℕ → Resolved
  v_in : Resolved
  v_set : ℕ → Resolved
  v_setw : ℕ → Resolved
  -- to a name that is no word: it never comes to that in a program
  v_clear : Resolved
  v_store : Bool → Opnd → Resolved
  v_ex : Resolved
  v_out : Resolved
  v_if : Resolved
  v_else : Resolved
  v_fi : Resolved
  v_loop : Resolved
  v_while : Resolved
  v_again : Resolved
  v_ret : Resolved
  v_break : Resolved
  v_next : Resolved
  v_end : Resolved

-- a name that is read
abbrev pub read_ref : Ref → Resolved
read_ref (r_word k) = v_own k
read_ref (r_arr j w) = v_num 0

abbrev pub read_top : Option ℕ → Resolved
read_top none = v_num 0
read_top (some i) = v_get i

abbrev pub read_name : Scope → Name → Resolved
read_name Γ x = opt (find Γ.slots x 0 0) (read_top (on_some (Γ.top x) as_word)) read_ref

-- a name that is an argument
abbrev pub copy_ref : Ref → Resolved
copy_ref (r_word k) = v_copy k
copy_ref (r_arr j w) = v_num 0

abbrev pub pass_name : Scope → Name → Resolved
pass_name Γ x = opt (gen_arr Γ x) (opt (find Γ.slots x 0 0) (read_top (on_some (Γ.top x) as_word)) copy_ref) v_arr

-- a name that is set
abbrev pub set_ref : Ref → Resolved
set_ref (r_word k) = v_set k
set_ref (r_arr j w) = v_clear

abbrev pub set_top : Option ℕ → Resolved
set_top none = v_clear
set_top (some i) = v_setw i

abbrev pub set_name : Scope → Name → Resolved
set_name Γ x = opt (find Γ.slots x 0 0) (set_top (on_some (Γ.top x) as_word)) set_ref

abbrev pub resolve_node : Scope → Node → Resolved
resolve_node Γ (n_num n) = v_num n
resolve_node Γ (n_var x) = read_name Γ x
resolve_node Γ (n_bin o) = v_bin o
resolve_node Γ n_and = v_and
resolve_node Γ n_or = v_or
resolve_node Γ n_join = v_join
resolve_node Γ (n_un o) = v_un o
resolve_node Γ (n_idx x) = v_idx (the_arr Γ x)
resolve_node Γ (n_len x) = v_len (the_arr Γ x)
resolve_node Γ (n_call n x) = v_call (Γ.fn_no x) n
resolve_node Γ (n_by n x) = v_by (Γ.table_no x) n
resolve_node Γ n_in = v_in
resolve_node Γ (n_set x) = set_name Γ x
resolve_node Γ (n_store x) = v_store (wide_of Γ x) (the_arr Γ x)
resolve_node Γ n_ex = v_ex
resolve_node Γ n_out = v_out
resolve_node Γ n_if = v_if
resolve_node Γ n_else = v_else
resolve_node Γ n_fi = v_fi
resolve_node Γ n_loop = v_loop
resolve_node Γ n_while = v_while
resolve_node Γ n_again = v_again
resolve_node Γ n_ret = v_ret
resolve_node Γ n_break = v_break
resolve_node Γ n_next = v_next
resolve_node Γ n_end = v_end
resolve_node Γ (n_arg x) = pass_name Γ x

abbrev pub resolve_nodes : Scope → List Node → List Resolved
resolve_nodes Γ [] = []
resolve_nodes Γ (n ∷ ns) = resolve_node Γ n ∷ resolve_nodes Γ ns
