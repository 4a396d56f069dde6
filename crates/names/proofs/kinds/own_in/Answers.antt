-- `own_in`: a name among all of a function.
use Rattle.rows.specs.Trees.{locals}
use Rattle.names.proofs.NameKinds.{own-slots}
use Rattle.names.proofs.kinds.own_in.Goals as goal

pub returns : goal.returns
returns c = λ g hi. own-slots g c.args.name.now c.find_own.result (c.find_own.ensures (locals g) (c.head_of.ensures g hi).locals)
