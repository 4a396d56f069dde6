use Rattle.std.proofs.Common.{◌≡◌, true, subst}
use Rattle.lower.specs.Core.{core_step}
use Rattle.middle.specs.Steps.{seen}
use Rattle.assembler.proofs.Widths.{few-passed}
use Rattle.assembler.proofs.Lowered.{lowered_as, call-is}
use Rattle.assembler.proofs.code.Code.step.Goals as goal

pub returns-in-Call : goal.returns-in-Call
returns-in-Call c h l =
    let s = few-passed c.in-Call.d c.in-Call.g c.in-Call.k c.in-Call.n (subst (λ x. core_step (seen x) ≡ true) c.in-Call.is h) in
    lowered_as c.args.f c.in-Call.is (call-is c.args.f c.args.self.now.here c.in-Call.d c.in-Call.g c.in-Call.k c.in-Call.n _ c.function.ensures) (c.call.ensures s)
