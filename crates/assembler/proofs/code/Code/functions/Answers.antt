use Rattle.std.proofs.Common.{◌≡◌, suc, ◌+◌, ◌-◌, arith}
use Rattle.assembler.proofs.Emitting.{functions_more, functions_to}
use Rattle.assembler.proofs.Measuring.{some-function}
use Rattle.assembler.proofs.code.Code.functions.Goals as goal

pub loop-i-preserved : goal.loop-i-preserved
loop-i-preserved c m fs tb h k t =
    let z : c.args.program.count - c.loop-i.i ≡ suc (c.args.program.count - (c.loop-i.i + 1)) = omega arith in
    functions_more (record { tables = c.args.tables; words = c.args.program.words; function = c.in-Some.function; first = c.loop-i.first }) tb (functions_to z (c.loop-i.invariant m fs tb h k t)) (omega arith)
    c.in-Some.ensures c.enter.ensures (c.steps_of.ensures m) c.saturating_add-first.ensures

pub returns-in_default : goal.returns-in_default
returns-in_default c m fs tb h k t =
    let z : c.args.program.count - c.loop-i.i ≡ suc (c.args.program.count - (c.loop-i.i + 1)) = omega arith in
    let a = functions_to z (c.loop-i.invariant m fs tb h k t) in
    absurd (some-function a.rest a.stands c.in_default.ensures)
