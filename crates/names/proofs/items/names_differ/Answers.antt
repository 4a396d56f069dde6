-- `names_differ`: all names of a function.
use Rattle.std.proofs.Common.{ap, ◌∙◌}
use Rattle.language.specs.Checks.{once}
use Rattle.rows.specs.Trees.{Local, locals}
use Rattle.limits.proofs.Places.{locals_here}
use Rattle.limits.proofs.ItemLaws.{names_local}
use Rattle.names.proofs.items.names_differ.Goals as goal

pub returns : goal.returns
returns c = λ g h. c.differ.ensures c.args.row.now (locals g) (λ (l : Local). l.name) (c.head_of.ensures g h).locals locals_here ∙ ap once (names_local g)
