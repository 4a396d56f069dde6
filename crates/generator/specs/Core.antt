-- What code that goes over the nodes of stage 0 takes for granted of them.
use Rattle.std.specs.Prelude.{◌≡◌, Bool, true, false, ℕ, ltb}
use Rattle.generator.specs.Resolved.{Resolved, v_num, v_own, v_copy, v_get, v_arr, v_bin, v_un, v_and, v_or, v_join, v_idx, v_len, v_call, v_by, v_in, v_set, v_setw, v_clear, v_store, v_ex, v_out, v_if, v_else, v_fi, v_loop, v_while, v_again, v_ret, v_break, v_next, v_end}
use Rattle.generator.specs.ResolvedRows.{Routine}
use Rattle.generator.specs.StepRows.{base_of}
use Rattle.steps.specs.Fits.{Each}

-- a word of the function's own stands below the places of values that wait, which begin at b
abbrev pub core : ℕ → Resolved → Bool
core b (v_num n) = true
core b (v_own k) = ltb k b
core b (v_copy k) = true
core b (v_get i) = true
core b (v_arr o) = false
core b (v_bin o) = true
core b (v_un o) = true
core b v_and = true
core b v_or = true
core b v_join = true
core b (v_idx o) = false
core b (v_len o) = false
core b (v_call f n) = true
core b (v_by t n) = false
core b v_in = false
core b (v_set k) = true
core b (v_setw i) = true
core b v_clear = true
core b (v_store w o) = false
core b v_ex = true
core b v_out = true
core b v_if = true
core b v_else = true
core b v_fi = true
core b v_loop = true
core b v_while = true
core b v_again = true
core b v_ret = true
core b v_break = true
core b v_next = true
core b v_end = true

abbrev pub CoreRoutine : Routine → Type 0
CoreRoutine r = Each (λ v. core (base_of r) v ≡ true) r.nodes
