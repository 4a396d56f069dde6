use Rattle.std.proofs.Common.{◌≡◌, ◌+◌, ◌≤◌, true, sym, ap, ◌∙◌, subst, arith}
use Rattle.lower.specs.Lower.{width}
use Rattle.lower.specs.Core.{core_step}
use Rattle.middle.specs.Steps.{seen}
use Rattle.assembler.proofs.Widths.{call-width, few-passed}
use Rattle.assembler.proofs.sizes.width.Goals as goal

pub returns-in-Call : goal.returns-in-Call
returns-in-Call c m f h =
    let n = c.in-Call.n in
    let s : n ≤ 8 = few-passed c.in-Call.field-0 c.in-Call.field-1 c.in-Call.field-2 n (subst (λ x. core_step (seen x) ≡ true) c.in-Call.is h) in
    let e : c.min.result + 2 ≡ n + 2 = omega arith in
    e ∙ (sym (call-width m f c.in-Call.field-0 c.in-Call.field-1 c.in-Call.field-2 n) ∙ ap (λ x. width m f (seen x)) (sym c.in-Call.is))
