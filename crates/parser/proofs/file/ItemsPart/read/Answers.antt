-- Proof of `read`.
use Rattle.std.proofs.lemmas.Result.{MatchResult-from_err}
use Rattle.grammar.specs.Text.{pieces, gap}
use Rattle.rows.proofs.Writing.{wrote_none}
use Rattle.parser.proofs.Files.{its-end, its-file, its-stands, its-fail}
use Rattle.parser.proofs.file.ItemsPart.read.Goals as goal

pub returns-then-at_end : goal.returns-then-at_end
returns-then-at_end c = (its-end c.args.text.now c.if-at_end.ensures, wrote_none c.args.out.now)

pub returns-in-Some : goal.returns-in-Some
returns-in-Some c = (its-file c.in-Some.ensures, wrote_none c.args.out.now)

pub returns-in_err-item : goal.returns-in_err-item
returns-in_err-item c = MatchResult-from_err c.from_residual.result _ _ c.from_residual.ensures.0 (λ y. its-fail (pieces gap c.args.text.now) c.if-at_end.ensures c.in_default.ensures c.in_err-item.ensures)

pub returns : goal.returns
returns c = its-stands c.if-at_end.ensures c.in_default.ensures c.in_ok-item.ensures
