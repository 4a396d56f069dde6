-- `own_array_fits`: the size behind an array's kind.
use Rattle.std.proofs.Common.{ap, ◌∙◌, arith}
use Rattle.limits.specs.Within.{size_within}
use Rattle.limits.proofs.Places.{local_size}
use Rattle.limits.proofs.items.own_array_fits.Goals as goal

pub returns : goal.returns
returns c = λ l h. c.size_fits.ensures ∙ ap (size_within 4096) (c.number_at.ensures l.size (local_size (omega arith) c.saturating_add.ensures l h))
