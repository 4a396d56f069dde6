-- `params_named`: those of the item that is meant.
use Rattle.std.proofs.Common.{sym, ap, subst}
use mathlib.Core.Option.{Option, some}
use Rattle.language.specs.Meaning.{on_some, Top, as_fn}
use Rattle.language.specs.Checks.{fn_named}
use Rattle.names.specs.Kinds.{FindsParams}
use Rattle.names.proofs.NameKinds.{params_here}
use Rattle.names.proofs.file.File.params_named.Goals as goal

pub returns-in_err-spot : goal.returns-in_err-spot
returns-in_err-spot c = λ p f hf.
    subst (FindsParams c.args.self.row.now (on_some (fn_named p f c.args.name.now) (λ h. some h.params))) (sym c.from_residual.ensures) (ap (λ (o : Option Top). on_some (on_some o as_fn) (λ h. some h.params)) (c.in_err-spot.ensures p f hf))

pub returns : goal.returns
returns c = λ p f hf. params_here (c.in_ok-spot.ensures p f hf).top c.params_at.result c.params_at.ensures
