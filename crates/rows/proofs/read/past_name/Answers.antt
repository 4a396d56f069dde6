use Rattle.std.proofs.Common.{arith}
use Rattle.rows.proofs.Having.{has_word}
use Rattle.rows.proofs.read.past_name.Goals as goal

pub returns : goal.returns
returns c = λ x h. let l = has_word h in omega arith
