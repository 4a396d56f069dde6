-- Proof of `file`.
use Rattle.std.proofs.lemmas.Result.{MatchResult-from_err}
use Rattle.grammar.specs.Text.{pieces, gap}
use Rattle.parser.proofs.Files.{file-no-name, file-did}
use Rattle.parser.proofs.file.file.Goals as goal

pub returns-in_err-x : goal.returns-in_err-x
returns-in_err-x c = MatchResult-from_err c.from_residual.result _ _ c.from_residual.ensures.0 (λ y. file-no-name (pieces gap c.args.text.now) c.in_err-x.ensures.0)

pub returns : goal.returns
returns c = file-did c.in_ok-x.x.now c.in_ok-x.ensures c.in_ok-rest.ensures c.put_name.ensures c.put.ensures c.in_ok-count.ensures c.set.ensures
