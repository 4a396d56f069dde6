use Rattle.std.proofs.Common.{refl, arith, length-set}
use Rattle.rows.proofs.Writing.{take-set-put}
use Rattle.rows.proofs.row.Row.set.Goals as goal

pub returns : goal.returns
returns c = record { changed = take-set-put c.args.self.now.words.now c.args.self.now.len c.args.at c.args.v (omega arith); long = refl; kept = length-set c.args.self.now.words.now c.args.at c.args.v; same = refl }
