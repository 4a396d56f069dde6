-- `body_of`: behind all names.
use Rattle.rows.specs.Trees.{locals}
use Rattle.limits.proofs.Places.{body_at}
use Rattle.limits.proofs.head.body_of.Goals as goal

pub returns : goal.returns
returns c = λ g h. let d = c.head_of.ensures g h in body_at g d.body (c.end.ensures c.args.row.now (locals g) d.locals)
