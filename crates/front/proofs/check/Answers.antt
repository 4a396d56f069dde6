-- `check`: the parser's answer and the checks' together.
use Rattle.std.proofs.Common.{Bool, ap, ◌∙◌, arith}
use mathlib.Core.Option.{some, none}
use Rattle.language.specs.Syntax.{pick}
use Rattle.front.proofs.Checked.{enough, none_read, read_as}
use Rattle.front.proofs.check.Goals as goal

pub returns-in_default : goal.returns-in_default
returns-in_default c = (enough _ _ c.is_few.ensures c.if-is_few.false, none_read c.args.text.now c.in_default.ensures)

pub returns-then-not-is_checked : goal.returns-then-not-is_checked
returns-then-not-is_checked c =
    let q = c.in-Ok.ensures in
    (enough _ _ c.is_few.ensures c.if-is_few.false, read_as c.args.text.now q.program _ q.parsed q.fits (c.is_checked.ensures q.program q.row_is) ∙ ap (λ (b : Bool). pick b (some q.program) none) c.if-not-is_checked.true)

pub returns : goal.returns
returns c =
    let q = c.in-Ok.ensures in (
      enough _ _ c.is_few.ensures c.if-is_few.false,
      record {
        program = q.program;
        read_as = read_as c.args.text.now q.program _ q.parsed q.fits (c.is_checked.ensures q.program q.row_is) ∙ ap (λ (b : Bool). pick b (some q.program) none) c.if-not-is_checked.false;
        row_is = q.row_is;
        stage_is = c.stage.ensures q.program q.row_is;
        short = q.short;
      },
      omega (arith, q.left),
    )
