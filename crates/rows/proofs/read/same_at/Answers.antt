use Rattle.std.proofs.Common.{eqb, ap₂, ◌∙◌}
use lib.Pointwise.{pointwise}
use Rattle.rows.proofs.Naming.{same_pointwise}
use Rattle.rows.proofs.read.same_at.Goals as goal

pub returns : goal.returns
returns c = λ x y hx hy. c.eq.ensures ∙ ap₂ (pointwise eqb) (c.name_at.ensures x hx) (c.name_at-2.ensures y hy) ∙ same_pointwise x y
