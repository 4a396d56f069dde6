use Rattle.std.proofs.Common.{arith}
use Rattle.board.proofs.Decimal.{number_is}
use Rattle.board.proofs.numbers.parse_number.Goals as goal

pub loop-b-init : goal.loop-b-init
loop-b-init c = number_is c.args.text.now (grind arith)
