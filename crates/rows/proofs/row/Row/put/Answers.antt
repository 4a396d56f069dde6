use Rattle.std.proofs.Common.{refl, arith, length-set}
use Rattle.std.proofs.lemmas.List.{take_more_set}
use Rattle.rows.proofs.row.Row.put.Goals as goal

pub returns : goal.returns
returns c = record { grown = take_more_set c.args.self.now.words.now c.args.self.now.len c.args.a (omega arith); long = refl; kept = length-set c.args.self.now.words.now c.args.self.now.len c.args.a; same = refl }
