-- Proof of `use_item`.
use Rattle.std.proofs.lemmas.Result.{MatchResult-from_err}
use Rattle.grammar.specs.Text.{pieces, gap}
use Rattle.parser.proofs.Items.{no-name_use}
use Rattle.parser.proofs.item.use_item.Goals as goal

pub returns-in_err-x : goal.returns-in_err-x
returns-in_err-x c = MatchResult-from_err c.from_residual.result _ _ c.from_residual.ensures.0 (λ y. no-name_use (pieces gap c.args.text.now) c.in_err-x.ensures.0)
