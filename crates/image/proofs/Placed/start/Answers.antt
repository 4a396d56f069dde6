-- `start`: the law that three words modulo 2^32 make a board ready (Laws).
use Rattle.image.proofs.Laws.{placed-ready}
use Rattle.image.proofs.Placed.start.Goals as goal

pub returns-clause-ready : goal.returns-clause-ready
returns-clause-ready c = placed-ready
