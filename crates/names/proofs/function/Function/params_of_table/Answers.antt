-- `params_table`: those of the functions of the table that is called.
use Rattle.std.proofs.Common.{sym, subst}
use Rattle.language.specs.Checks.{params_of_table}
use Rattle.names.specs.Kinds.{FindsParams}
use Rattle.names.proofs.NameKinds.{no_table, yes_table}
use Rattle.names.proofs.function.Function.params_of_table.Goals as goal

pub returns-in_err-spot : goal.returns-in_err-spot
returns-in_err-spot c = λ p f g at1. subst (FindsParams c.args.self.file.row.now (params_of_table p f g c.args.name.now)) (sym c.from_residual.ensures) (no_table p f g c.args.name.now (c.in_err-spot.ensures p f g at1))

pub returns : goal.returns
returns c = λ p f g at1. yes_table p f g c.args.name.now c.table_at.result (c.in_ok-spot.ensures p f g at1) (λ h i hh hj. c.table_at.ensures p h i (record { row = at1.file.row; name = hh }) hj)
