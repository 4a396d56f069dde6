-- Steps as rows of words: five words a step, so that a step is found by its number; the target of a jump is the third.
use Rattle.std.specs.Prelude.{List, [], ◌∷◌, ℕ, ◌+◌, ◌*◌, length}
use Rattle.language.specs.Words.{bit}
use Rattle.rows.specs.Trees.{list_row}
use Rattle.steps.specs.Steps.{Step, s_num, s_copy, s_bin, s_un, s_flag, s_getw, s_setw, s_jump, s_jz, s_call, s_table, s_out, s_ret, s_in, s_idx, s_put, s_len, MFn}
use Rattle.generator.specs.ResolvedRows.{Routine, number_of, side_of}
use Rattle.generator.specs.Emit.{marks, run}
use Rattle.generator.specs.Peak.{peak}

-- the arrays of a call are not in it
abbrev pub step_words : Step → List ℕ
step_words (s_num d n) = 0 ∷ d ∷ n ∷ 0 ∷ 0 ∷ []
step_words (s_copy d a) = 1 ∷ d ∷ a ∷ 0 ∷ 0 ∷ []
step_words (s_bin o d a b) = 2 ∷ o ∷ d ∷ a ∷ b ∷ []
step_words (s_un o d a) = 3 ∷ o ∷ d ∷ a ∷ 0 ∷ []
step_words (s_flag d a) = 4 ∷ d ∷ a ∷ 0 ∷ 0 ∷ []
step_words (s_getw d i) = 5 ∷ d ∷ i ∷ 0 ∷ 0 ∷ []
step_words (s_setw i a) = 6 ∷ i ∷ a ∷ 0 ∷ 0 ∷ []
step_words (s_jump t) = 7 ∷ 0 ∷ t ∷ 0 ∷ 0 ∷ []
step_words (s_jz a t) = 8 ∷ a ∷ t ∷ 0 ∷ 0 ∷ []
step_words (s_call d h k n os) = 9 ∷ d ∷ h ∷ k ∷ n ∷ []
step_words (s_out a) = 10 ∷ a ∷ 0 ∷ 0 ∷ 0 ∷ []
step_words (s_ret a) = 11 ∷ a ∷ 0 ∷ 0 ∷ 0 ∷ []
step_words (s_in d) = 12 ∷ d ∷ 0 ∷ 0 ∷ 0 ∷ []
step_words (s_table d i t k n os) = 13 ∷ d ∷ i ∷ t ∷ n ∷ []
step_words (s_idx d o i) = 14 ∷ d ∷ number_of o ∷ side_of o ∷ i ∷ []
step_words (s_put w o i a) = 15 ∷ number_of o ∷ (2 * bit w + side_of o) ∷ i ∷ a ∷ []
step_words (s_len d o) = 16 ∷ d ∷ number_of o ∷ side_of o ∷ 0 ∷ []

-- a function: how many words are passed to it, its variables, its places, its steps
abbrev pub fn_words : MFn → List ℕ
fn_words f = f.params ∷ f.vars ∷ f.places ∷ length f.code ∷ list_row step_words f.code

-- the first place for a value that waits
abbrev pub base_of : Routine → ℕ
base_of r = r.params + r.vars

-- what the fold over its nodes makes of a function; what a call asks for is not in its row
abbrev pub made : Routine → MFn
made r = record {
  params = r.params;
  arrays = r.arrays;
  vars = r.vars;
  own = r.own;
  places = peak (base_of r) r.nodes [] (base_of r);
  cost = 0;
  code = (run (base_of r) r.nodes (marks [] 0 0 [])).out;
}
