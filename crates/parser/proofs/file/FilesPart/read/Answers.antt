-- Proof of `read`.
use Rattle.std.proofs.lemmas.Result.{MatchResult-from_err}
use Rattle.grammar.specs.Text.{pieces, gap}
use Rattle.rows.proofs.Writing.{wrote_none}
use Rattle.parser.proofs.Files.{files-end, files-stop, file-stands, files-fail}
use Rattle.parser.proofs.file.FilesPart.read.Goals as goal

pub returns-then-at_end : goal.returns-then-at_end
returns-then-at_end c = (files-end c.args.text.now c.if-at_end.ensures, wrote_none c.args.out.now)

pub returns-in_default : goal.returns-in_default
returns-in_default c = files-stop (pieces gap c.args.text.now) c.if-at_end.ensures c.in_default.ensures

pub returns-in_err-file : goal.returns-in_err-file
returns-in_err-file c = MatchResult-from_err c.from_residual.result _ _ c.from_residual.ensures.0 (λ y. files-fail c.in-Some.ensures c.in_err-file.ensures)

pub returns : goal.returns
returns c = file-stands c.in-Some.ensures c.in_ok-file.ensures
