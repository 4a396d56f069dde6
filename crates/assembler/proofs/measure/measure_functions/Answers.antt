use Rattle.std.proofs.Common.{◌≡◌, suc, ◌+◌, ◌-◌, arith}
use Rattle.assembler.proofs.Measuring.{all_more, all_to, some-function}
use Rattle.assembler.proofs.measure.measure_functions.Goals as goal

pub loop-i-preserved : goal.loop-i-preserved
loop-i-preserved c m fs h s =
    let z : c.args.program.count - c.loop-i.i ≡ suc (c.args.program.count - (c.loop-i.i + 1)) = omega arith in
    all_more {g = c.in_ok-function.function} (all_to z (c.loop-i.invariant m fs h s)) s c.in_ok-function.ensures c.push-in-loop-i.ensures c.entering_width.ensures c.saturating_add-start.ensures (c.measure_steps-place.ensures m)

pub returns-in_err-function : goal.returns-in_err-function
returns-in_err-function c m fs h s =
    let z : c.args.program.count - c.loop-i.i ≡ suc (c.args.program.count - (c.loop-i.i + 1)) = omega arith in
    let a = all_to z (c.loop-i.invariant m fs h s) in
    absurd (some-function a.rest a.stands c.in_err-function.ensures)
