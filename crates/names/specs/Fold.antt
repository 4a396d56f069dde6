-- The checks of a body, node by node, over a pile of kinds; the top is last.
use Rattle.std.specs.Prelude.{ℕ, zero, suc, ◌-◌, Bool, true, false, ◌&&◌, List, [], ◌∷◌, ◌++◌, length, take, drop, nat_le, nat_lt}
use Rattle.std.proofs.Math.Option.{Option, some, none}
use Rattle.language.specs.Syntax.{pick, Name, Kind, k_word, Param, Fn, Prog}
use Rattle.language.specs.Words.{all}
use Rattle.language.specs.Meaning.{on_some}
use Rattle.language.specs.Checks.{same_k, kind_of, is_kind, any_arr, params_of, params_of_table}
use Rattle.rows.specs.Nodes.{Node, n_num, n_var, n_bin, n_and, n_or, n_join, n_un, n_idx, n_len, n_call, n_by, n_in, n_set, n_store, n_ex, n_out, n_if, n_else, n_fi, n_loop, n_while, n_again, n_ret, n_break, n_next, n_end, n_arg}

-- what names are, in a function
pub record Ctx : Type 0 where
  pub kind : Name → Option Kind
  pub params : Name → Option (List Param)
  pub table : Name → Option (List Param)

abbrev pub ctx : Prog → Name → Fn → Ctx
ctx p f g = record { kind = kind_of p f g; params = params_of p f g; table = params_of_table p f g }

abbrev pub kinds : List Param → List Kind
kinds [] = []
kinds (q ∷ qs) = q.kind ∷ kinds qs

-- the kinds are as asked
abbrev pub fit : List Kind → List Kind → Bool
fit [] [] = true
fit [] (q ∷ qs) = false
fit (k ∷ ks) [] = false
fit (k ∷ ks) (q ∷ qs) = same_k k q && fit ks qs

-- the last n of the pile are as asked: what is left under them
unfoldable pub eat : ℕ → List Kind → List Kind → Option (List Kind)
eat n qs st = pick (nat_le n (length st) && fit (drop (length st - n) st) qs) (some (take (length st - n) st)) none

abbrev pub push : Kind → Option (List Kind) → Option (List Kind)
push k o = on_some o (λ st. some (st ++ (k ∷ [])))

abbrev pub if_so : Bool → Option (List Kind) → Option (List Kind)
if_so b o = pick b o none

abbrev pub one : List Kind
one = k_word ∷ []

-- in how many loops a node stands, and whether in any
abbrev pub inside : ℕ → Bool
inside zero = false
inside (suc d) = true

abbrev pub less : ℕ → ℕ
less zero = zero
less (suc d) = d

-- one node, in d loops
abbrev pub step : Ctx → ℕ → Node → List Kind → Option (List Kind)
step Γ d (n_num n) st = if_so (nat_lt n all) (some (st ++ one))
step Γ d (n_var x) st = on_some (Γ.kind x) (λ k. some (st ++ (k ∷ [])))
step Γ d (n_bin o) st = push k_word (eat 2 (k_word ∷ one) st)
step Γ d n_and st = eat 1 one st
step Γ d n_or st = eat 1 one st
step Γ d n_join st = push k_word (eat 1 one st)
step Γ d (n_un o) st = push k_word (eat 1 one st)
step Γ d (n_idx x) st = if_so (any_arr (Γ.kind x)) (push k_word (eat 1 one st))
step Γ d (n_len x) st = if_so (any_arr (Γ.kind x)) (some (st ++ one))
step Γ d (n_call n x) st = on_some (Γ.params x) (λ qs. push k_word (eat n (kinds qs) st))
step Γ d (n_by n x) st = on_some (Γ.table x) (λ qs. push k_word (eat (suc n) (k_word ∷ kinds qs) st))
step Γ d n_in st = some (st ++ one)
step Γ d (n_set x) st = if_so (is_kind (Γ.kind x) k_word) (eat 1 one st)
step Γ d (n_store x) st = if_so (any_arr (Γ.kind x)) (eat 2 (k_word ∷ one) st)
step Γ d n_ex st = eat 1 one st
step Γ d n_out st = eat 1 one st
step Γ d n_if st = eat 1 one st
step Γ d n_else st = some st
step Γ d n_fi st = some st
step Γ d n_loop st = some st
step Γ d n_while st = eat 1 one st
step Γ d n_again st = some st
step Γ d n_ret st = eat 1 one st
step Γ d n_break st = if_so (inside d) (some st)
step Γ d n_next st = if_so (inside d) (some st)
step Γ d n_end st = some st
step Γ d (n_arg x) st = on_some (Γ.kind x) (λ k. some (st ++ (k ∷ [])))

-- in how many the next stands
abbrev pub deep : Node → ℕ → ℕ
deep (n_num n) d = d
deep (n_var x) d = d
deep (n_bin o) d = d
deep n_and d = d
deep n_or d = d
deep n_join d = d
deep (n_un o) d = d
deep (n_idx x) d = d
deep (n_len x) d = d
deep (n_call n x) d = d
deep (n_by n x) d = d
deep n_in d = d
deep (n_set x) d = d
deep (n_store x) d = d
deep n_ex d = d
deep n_out d = d
deep n_if d = d
deep n_else d = d
deep n_fi d = d
deep n_loop d = suc d
deep n_while d = d
deep n_again d = less d
deep n_ret d = d
deep n_break d = d
deep n_next d = d
deep n_end d = d
deep (n_arg x) d = d

abbrev pub run : Ctx → ℕ → List Node → List Kind → Option (List Kind)
run Γ d [] st = some st
run Γ d (t ∷ ts) st = on_some (step Γ d t st) (run Γ (deep t d) ts)
