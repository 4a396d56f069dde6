-- Proof of `array`.
use Rattle.std.proofs.lemmas.Result.{MatchResult-from_err}
use Rattle.grammar.specs.Text.{pieces, gap}
use Rattle.parser.proofs.Listing.{arr-no-name}
use Rattle.parser.proofs.list.array.Goals as goal

pub returns-in_err-x : goal.returns-in_err-x
returns-in_err-x c = MatchResult-from_err c.from_residual.result _ _ c.from_residual.ensures.0 (λ y. arr-no-name c.args.wide (pieces gap c.args.text.now) c.in_err-x.ensures.0)
