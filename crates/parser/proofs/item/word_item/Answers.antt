-- Proof of `word_item`.
use Rattle.std.proofs.lemmas.Result.{MatchResult-from_err}
use Rattle.grammar.specs.Text.{pieces, gap}
use Rattle.parser.proofs.Items.{no-name-var, var-did}
use Rattle.parser.proofs.item.word_item.Goals as goal

pub returns-in_err-x : goal.returns-in_err-x
returns-in_err-x c = MatchResult-from_err c.from_residual.result _ _ c.from_residual.ensures.0 (λ y. no-name-var (pieces gap c.args.text.now) c.in_err-x.ensures.0)

pub returns : goal.returns
returns c = var-did c.in_ok-x.x.now c.in_ok-x.ensures c.in_ok-rest.ensures c.open_item.ensures c.close_item.ensures
