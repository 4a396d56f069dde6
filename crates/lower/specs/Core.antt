-- What code that lowers programs of stage 0 takes for granted of their steps.
use Rattle.std.specs.Prelude.{◌≡◌, Bool, true, false, ◌&&◌, List, [], ◌∷◌, ℕ, ◌*◌, ◌≤◌, ◌<◌, length, leb}
use Rattle.language.specs.Syntax.{Prog, stage}
use Rattle.language.specs.Words.{all}
use Rattle.grammar.specs.Text.{Reads}
use Rattle.steps.specs.Steps.{Opnd, Step, s_num, s_copy, s_bin, s_un, s_flag, s_getw, s_setw, s_jump, s_jz, s_call, s_table, s_out, s_ret, s_in, s_idx, s_put, s_len, MFn, MProg}
use Rattle.steps.specs.Generate.{gen_prog}
use Rattle.steps.specs.Fits.{Each, ProgFits}
use Rattle.lower.specs.Lower.{others, row_of, main_no}

abbrev pub no_arrays : List Opnd → Bool
no_arrays [] = true
no_arrays (o ∷ os) = false

-- the steps of stage 0; a call passes its words in eight registers
abbrev pub core_step : Step → Bool
core_step (s_num d n) = true
core_step (s_copy d a) = true
core_step (s_bin o d a b) = true
core_step (s_un o d a) = true
core_step (s_flag d a) = true
core_step (s_getw d i) = true
core_step (s_setw i a) = true
core_step (s_jump t) = true
core_step (s_jz a t) = true
core_step (s_call d h k n os) = leb n 8 && no_arrays os
core_step (s_table d i t k n os) = false
core_step (s_out a) = true
core_step (s_ret a) = true
core_step (s_in d) = false
core_step (s_idx d o i) = false
core_step (s_put w o i a) = false
core_step (s_len d o) = false

pub record CoreFn (f : MFn) : Type 0 where
  pub steps : Each (λ s. core_step s ≡ true) f.code
  pub params : f.params ≤ 8
  pub places : f.places ≤ 1022

-- all functions but the one where a run begins, which has no code of its own; jumps reach, and words are found by 32 bits
pub record Core (m : MProg) (main : ℕ) : Type 0 where
  pub no_tables : m.tables ≡ []
  pub no_arrays : m.arrays ≡ []
  pub fits : ProgFits m
  pub funs : Each CoreFn (others m.funs)
  pub short : length (row_of m main) < 262144
  pub words : 4 * m.words < all
  pub main_first : 1 ≤ main
  pub main_there : main < length m.funs

abbrev pub CorePrograms : Type 0
CorePrograms = (t : List ℕ) (p : Prog) → Reads t p → stage p ≡ 0 → Core (gen_prog p) (main_no p)
