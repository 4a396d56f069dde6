use Rattle.std.proofs.Common.{arith}
use Rattle.stepper.proofs.Testing.{copied}
use Rattle.stepper.proofs.writer.Writer.settle.Goals as goal

pub returns-in-Some : goal.returns-in-Some
returns-in-Some c = record { goes = copied c.place-place.result c.in-Some.own c.pop-own.ensures c.in-Some.is c.place-place.ensures c.write.ensures; place = let a = c.write.ensures.same.base in let h = c.write.ensures.height in omega arith }
