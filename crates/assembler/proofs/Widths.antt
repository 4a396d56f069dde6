-- How long the instructions of a call and of a function's beginning are.
use Rattle.std.proofs.Common.{◌≡◌, ℕ, ◌+◌, ◌≤◌, Bool, true, false, ◌&&◌, T, leb, [], ◌∷◌, ap, ◌∙◌, arith, leb→le, length-append}
use mathlib.Core.Bool.{false≢true}
use Rattle.steps.specs.Steps.{MFn, MProg, s_call}
use Rattle.lower.specs.Code.{l_num}
use Rattle.lower.specs.Lower.{loads, stores, width, pro_width}
use Rattle.lower.specs.Core.{core_step}
use Rattle.lower.proofs.CodeSize.{stores-long}
use Rattle.assembler.proofs.Rows.{loads-long}

pub call-width : (m : MProg) (f : MFn) (d g k n : ℕ) → width m f (s_call d g k n []) ≡ n + 2
call-width m f d g k n = length-append (loads 10 k n) _ ∙ ap (λ x. x + 2) (loads-long 10 k n)

pub entering_long : (f : MFn) → pro_width f ≡ f.params + f.vars + 10
entering_long f =
    let a = length-append (stores (λ j. 10 + j) 0 f.params) (l_num 5 0 ∷ stores (λ j. 5) f.params f.vars) in
    omega (arith, a, stores-long (λ j. 10 + j) f.params 0, stores-long (λ j. 5) f.vars f.params)

-- a call passes eight words at most
pub few-passed : (d g k n : ℕ) → core_step (s_call d g k n []) ≡ true → n ≤ 8
few-passed d g k n h = leb→le n 8 (go (leb n 8) h)
  where
    go : (b : Bool) → b && true ≡ true → T b
    go true e = tt
    go false e = absurd (false≢true e)
