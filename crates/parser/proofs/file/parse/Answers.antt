-- Proof of `parse`.
use Rattle.std.proofs.Common.{arith}
use Rattle.std.proofs.lemmas.Result.{MatchResult-from_err}
use Rattle.parser.proofs.Files.{read_fail, read_did}
use Rattle.parser.proofs.file.parse.Goals as goal

pub returns-in_err-count : goal.returns-in_err-count
returns-in_err-count c = MatchResult-from_err c.from_residual-in_err-count.result _ _ c.from_residual-in_err-count.ensures.0 (λ y. read_fail c.args.text.now c.in_err-count.ensures)

pub returns : goal.returns
returns c = read_did (omega arith) c.in_ok-check_flat.ensures c.put.ensures c.in_ok-count.ensures c.set.ensures
