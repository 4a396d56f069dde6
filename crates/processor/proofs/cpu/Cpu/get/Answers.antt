use Rattle.std.proofs.Common.{rules}
use Rattle.processor.proofs.Rows.{reg-is}
use Rattle.processor.proofs.cpu.Cpu.get.Goals as goal

pub returns-else-r-eq0 : goal.returns-else-r-eq0
returns-else-r-eq0 c = reg-is c.args.self.now.regs c.args.r c.if-r-eq0.false (search rules)
