-- The steps that the code has, as steps of the middle language; and which step five words are.
use Rattle.std.specs.Prelude.{◌≡◌, ℕ, [], Option, Result, Ok, Err, MatchOption, ◌==◌}
use Rattle.language.specs.Syntax.{pick}
use Rattle.steps.specs.Steps as steps
use Rattle.steps.specs.Steps.{s_num, s_copy, s_bin, s_un, s_flag, s_getw, s_setw, s_jump, s_jz, s_call, s_out, s_ret}
use Rattle.middle.specs.declared.step.Step as code
use Rattle.middle.specs.declared.step.UnknownStep.{UnknownStep}
use Rattle.middle.specs.declared.step.Step.TheVariants.{Num, Copy, Bin, Un, Flag, GetWord, SetWord, Jump, JumpZero, Call, Out, Ret}

abbrev pub seen : code.Step → steps.Step
seen (Num d n) = s_num d n
seen (Copy d a) = s_copy d a
seen (Bin o d a b) = s_bin o d a b
seen (Un o d a) = s_un o d a
seen (Flag d a) = s_flag d a
seen (GetWord d i) = s_getw d i
seen (SetWord i a) = s_setw i a
seen (Jump t) = s_jump t
seen (JumpZero a t) = s_jz a t
seen (Call d f k n) = s_call d f k n []
seen (Out a) = s_out a
seen (Ret a) = s_ret a

-- the step, or the tag that none has
abbrev pub decoded : ℕ → ℕ → ℕ → ℕ → ℕ → Result code.Step UnknownStep
decoded k w x y z =
    pick (k == 0) (Ok (Num w x)) (pick (k == 1) (Ok (Copy w x)) (pick (k == 2) (Ok (Bin w x y z)) (pick (k == 3) (Ok (Un w x y))
    (pick (k == 4) (Ok (Flag w x)) (pick (k == 5) (Ok (GetWord w x)) (pick (k == 6) (Ok (SetWord w x)) (pick (k == 7) (Ok (Jump x))
    (pick (k == 8) (Ok (JumpZero w x)) (pick (k == 9) (Ok (Call w x y z)) (pick (k == 10) (Ok (Out w)) (pick (k == 11) (Ok (Ret w)) (Err (record { 0 = k })))))))))))))

-- what was read is this step
abbrev pub ReadsBack : steps.Step → Option code.Step → Type 0
ReadsBack s r = MatchOption r ⊥ (λ x. seen x ≡ s)
