use Rattle.processor.proofs.Memory.{lw_some, lw_none, sw_some, sw_none}
use Rattle.processor.proofs.cpu.Cpu.execute.Goals as goal

pub returns-in-Some : goal.returns-in-Some
returns-in-Some c ins outs =
    lw_some ins outs c.args.mem.now c.args.self.now _ _ _ c.get-in-Lw.ensures c.args.i _ _ _ c.in-Lw.is c.in-Some.ensures c.finish-in-Lw.ensures

pub returns-in_default : goal.returns-in_default
returns-in_default c ins outs =
    lw_none ins outs c.args.mem.now c.args.self.now _ _ _ c.get-in-Lw.ensures c.args.i _ c.in-Lw.is c.in_default.ensures

pub returns-in-Some-locate : goal.returns-in-Some-locate
returns-in-Some-locate c ins outs =
    sw_some ins outs c.args.mem.now c.args.self.now _ _ _ c.get-in-Sw.ensures c.args.i _ _ _ c.in-Sw.is c.in-Some-locate.ensures c.get-in-Sw-2.ensures

pub returns-in_default-locate : goal.returns-in_default-locate
returns-in_default-locate c ins outs =
    sw_none ins outs c.args.mem.now c.args.self.now _ _ _ c.get-in-Sw.ensures c.args.i _ c.in-Sw.is c.in_default-locate.ensures
