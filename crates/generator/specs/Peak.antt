-- How many places a function has: the highest that a value waits in while its nodes are gone through.
use Rattle.std.specs.Prelude.{List, [], ◌∷◌, ℕ, max}
use Rattle.generator.specs.Resolved.{Resolved, v_num, v_own, v_copy, v_get, v_arr, v_bin, v_un, v_and, v_or, v_join, v_idx, v_len, v_call, v_by, v_in, v_set, v_setw, v_clear, v_store, v_ex, v_out, v_if, v_else, v_fi, v_loop, v_while, v_again, v_ret, v_break, v_next, v_end}
use Rattle.generator.specs.Emit.{Entry, e_temp, e_own, e_arr, above, under, below}

-- the pile behind a node
abbrev pub piled : Resolved → List Entry → List Entry
piled (v_num n) p = e_temp ∷ p
piled (v_own k) p = e_own k ∷ p
piled (v_copy k) p = e_temp ∷ p
piled (v_get i) p = e_temp ∷ p
piled (v_arr o) p = e_arr o ∷ p
piled (v_bin o) p = e_temp ∷ under (under p)
piled (v_un o) p = e_temp ∷ under p
piled v_and p = under p
piled v_or p = under p
piled v_join p = e_temp ∷ under p
piled (v_idx o) p = e_temp ∷ under p
piled (v_len o) p = e_temp ∷ p
piled (v_call f n) p = e_temp ∷ below n p
piled (v_by t n) p = e_temp ∷ under (below n p)
piled v_in p = e_temp ∷ p
piled (v_set k) p = under p
piled (v_setw i) p = under p
piled v_clear p = under p
piled (v_store w o) p = under (under p)
piled v_ex p = under p
piled v_out p = under p
piled v_if p = under p
piled v_else p = p
piled v_fi p = p
piled v_loop p = p
piled v_while p = under p
piled v_again p = p
piled v_ret p = under p
piled v_break p = p
piled v_next p = p
-- the value that a function gives without return, for which there is always a place
piled v_end p = e_temp ∷ p

-- the highest of h and what waits behind each node
abbrev pub peak : ℕ → List Resolved → List Entry → ℕ → ℕ
peak b [] p h = h
peak b (v ∷ vs) p h = peak b vs (piled v p) (max h (above b (piled v p)))
