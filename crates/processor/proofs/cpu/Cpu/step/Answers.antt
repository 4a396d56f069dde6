use Rattle.std.proofs.Common.{◌∙◌}
use Rattle.processor.proofs.Memory.{step-none, step_is}
use Rattle.processor.proofs.cpu.Cpu.step.Goals as goal

pub returns-in_default : goal.returns-in_default
returns-in_default c ins outs = step-none ins outs c.args.mem.now c.args.self.now c.in_default.ensures

pub returns-in_default-decode : goal.returns-in_default-decode
returns-in_default-decode c ins outs = step_is ins outs c.args.mem.now c.args.self.now c.in-Some.k _ c.in-Some.ensures c.in_default-decode.ensures.0

pub returns : goal.returns
returns c ins outs =
    step_is ins outs c.args.mem.now c.args.self.now c.in-Some.k _ c.in-Some.ensures c.in-Some-decode.ensures.0
    ∙ c.execute.ensures ins outs
