-- Proof of `read`.
use Rattle.std.proofs.lemmas.Result.{MatchResult-from_err}
use Rattle.grammar.specs.Text.{pieces, gap}
use Rattle.parser.proofs.Params.{param_listable, pars-no-kind, pars-no-name}
use Rattle.parser.proofs.list.ParamsElement.read.Goals as goal

pub returns-in_err-x : goal.returns-in_err-x
returns-in_err-x c = MatchResult-from_err c.from_residual.result _ _ c.from_residual.ensures.0 (λ y. pars-no-name (pieces gap c.args.text.now) c.in_err-x.ensures.0)

pub returns-in_err-kind : goal.returns-in_err-kind
returns-in_err-kind c = MatchResult-from_err c.from_residual-in_err-kind.result _ _ c.from_residual-in_err-kind.ensures.0 (λ y. pars-no-kind c.in_ok-x.x.now c.in_ok-x.ensures c.in_err-kind.ensures)

pub returns : goal.returns
returns c = (param_listable c.in_ok-x.x.now c.in_ok-x.ensures c.in_ok-kind.ensures, c.in_ok-x.ensures.short)
