-- `params_of`: those of the function that is called.
use Rattle.std.proofs.Common.{sym, subst}
use Rattle.language.specs.Checks.{params_of}
use Rattle.names.specs.Kinds.{FindsParams}
use Rattle.names.proofs.NameKinds.{no_params, yes_params}
use Rattle.names.proofs.function.Function.params_of.Goals as goal

pub returns-in_err-spot : goal.returns-in_err-spot
returns-in_err-spot c = λ p f g at1. subst (FindsParams c.args.self.file.row.now (params_of p f g c.args.name.now)) (sym c.from_residual.ensures) (no_params p f g c.args.name.now (c.in_err-spot.ensures p f g at1))

pub returns : goal.returns
returns c = λ p f g at1. yes_params p f g c.args.name.now c.params_at.result (c.in_ok-spot.ensures p f g at1) c.params_at.ensures
