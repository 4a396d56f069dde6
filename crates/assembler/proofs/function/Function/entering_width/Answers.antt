use Rattle.std.proofs.Common.{◌≡◌, ◌+◌, sym, ◌∙◌, arith}
use Rattle.assembler.proofs.Widths.{entering_long}
use Rattle.assembler.specs.Frames.{routine}
use Rattle.assembler.proofs.function.Function.entering_width.Goals as goal

pub returns : goal.returns
returns c h l =
    let e = entering_long (routine c.args.self) in
    let k : c.saturating_add.result ≡ c.args.self.params + c.args.self.vars + 10 = omega arith in
    k ∙ sym e
