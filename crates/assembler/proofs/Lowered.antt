-- The instructions of a step, as they are written.
use Rattle.std.proofs.Common.{◌≡◌, ℕ, suc, ◌+◌, List, [], ◌∷◌, ◌++◌, sym, ap, ◌∙◌, ap₂}
use Rattle.processor.specs.declared.instr.Instr.{Instr}
use Rattle.processor.specs.declared.instr.Instr.TheVariants.{Sw, Jal}
use Rattle.middle.specs.declared.step.Step.{Step}
use Rattle.middle.specs.declared.step.Step.TheVariants.{Call}
use Rattle.middle.specs.Steps.{seen}
use Rattle.lower.specs.Code.{LI, rel, off, l_jal, l_sw}
use Rattle.lower.specs.Lower.{lower, loads}
use Rattle.assembler.specs.declared.code.Code.{Code}
use Rattle.assembler.specs.declared.frame.Frame.{Frame}
use Rattle.assembler.specs.Frames.{bare, routine, entry_at, step_place}
use Rattle.assembler.specs.Emission.{reals, Put}
use Rattle.assembler.proofs.Putting.{put_as, reals-append}
use Rattle.assembler.proofs.Rows.{loads-any, loads-long}

abbrev pub lowers : Frame → ℕ → Step → List LI
lowers F p s = lower (entry_at F) (step_place F) (bare F.words) (routine F.function) p (seen s)

-- what was written is what a step is lowered to
pub lowered_as : {o p : Code} (F : Frame) {s t : Step} {is : List Instr} → s ≡ t → is ≡ reals o.here (lowers F o.here t) → Put o p is → Put o p (reals o.here (lowers F o.here s))
lowered_as {o} {p} F {s} {t} {is} e h g = put_as (h ∙ ap (λ x. reals o.here (lowers F o.here x)) (sym e)) g

pub call-is : (F : Frame) (p d g k n e : ℕ) → e ≡ entry_at F g → reals 0 (loads 10 k n) ++ (Jal 1 (rel (p + n) e) ∷ Sw 2 10 (off (suc d)) ∷ []) ≡ reals p (lowers F p (Call d g k n))
call-is F p d g k n e h =
    ap₂ (λ (l : List Instr) (x : ℕ). l ++ (Jal 1 (rel (p + n) x) ∷ Sw 2 10 (off (suc d)) ∷ [])) (loads-any 0 p 10 k n) h
    ∙ (ap (λ x. reals p (loads 10 k n) ++ (Jal 1 (rel (p + x) (entry_at F g)) ∷ Sw 2 10 (off (suc d)) ∷ [])) (sym (loads-long 10 k n))
    ∙ sym (reals-append p (loads 10 k n) (l_jal (entry_at F g) ∷ l_sw 10 (suc d) ∷ [])))
