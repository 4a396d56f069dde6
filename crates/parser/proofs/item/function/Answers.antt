-- Proof of `function`.
use Rattle.std.proofs.lemmas.Result.{MatchResult-from_err}
use Rattle.grammar.specs.Text.{pieces, gap}
use Rattle.parser.proofs.Function.{fn-did, fn-no-name}
use Rattle.parser.proofs.item.function.Goals as goal

pub returns-in_err-x : goal.returns-in_err-x
returns-in_err-x c = MatchResult-from_err c.from_residual.result _ _ c.from_residual.ensures.0 (λ y. fn-no-name (pieces gap c.args.text.now) c.in_err-x.ensures.0)

pub returns : goal.returns
returns c = fn-did c.in_ok-x.x.now c.in_ok-x.ensures c.in_ok-rest.ensures c.open_item.ensures c.put_all.ensures c.in_ok-params.ensures c.in_ok-rest-2.ensures c.in_ok-vars.ensures c.in_ok-arrays.ensures c.in_ok-rest-3.ensures c.put.ensures c.set.ensures c.set-2.ensures c.set-3.ensures c.close_item.ensures
