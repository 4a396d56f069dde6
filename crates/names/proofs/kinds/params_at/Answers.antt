-- `params_at`: the head of a function.
use Rattle.std.proofs.Common.{refl, ◌∙◌}
use Rattle.rows.specs.declared.kind.ItemKind.TheVariants.{Function}
use Rattle.limits.proofs.Places.{by_kind}
use Rattle.names.specs.Kinds.{item_params, IsParams}
use Rattle.names.proofs.NameKinds.{params_none}
use Rattle.names.proofs.kinds.params_at.Goals as goal

pub returns-in-Function : goal.returns-in-Function
returns-in-Function c = by_kind Function (λ i. IsParams c.args.row.now (item_params i) c.head_of.result.params) c.item_kind_at.ensures c.in-Function.is (λ g h. record { params = g.params; is = refl; there = (c.head_of.ensures g h).params })

pub returns-in_default : goal.returns-in_default
returns-in_default c = λ i h. params_none i (λ e. c.in_default.not-Function (c.item_kind_at.ensures i h ∙ e))
