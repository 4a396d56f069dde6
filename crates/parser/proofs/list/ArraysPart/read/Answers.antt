-- Proof of `read`.
use Rattle.std.proofs.Common.{true, false, ◌∙◌}
use Rattle.std.proofs.lemmas.Result.{MatchResult-from_err}
use Rattle.grammar.specs.Text.{k_array, k_bytes}
use Rattle.rows.proofs.Writing.{wrote_none}
use Rattle.bodies.proofs.Expressions.{bind-fail}
use Rattle.parser.proofs.Listing.{arrs-wide, arrs_byte, arrs-end, arr-stands}
use Rattle.parser.proofs.list.ArraysPart.read.Goals as goal

pub returns-in_err-array : goal.returns-in_err-array
returns-in_err-array c = MatchResult-from_err c.from_residual.result _ _ c.from_residual.ensures.0 (λ y. arrs-wide c.in-Some.ensures ∙ bind-fail _ c.in_err-array.ensures)

pub returns-in-Some : goal.returns-in-Some
returns-in-Some c = arr-stands k_array true c.in-Some.ensures (arrs-wide c.in-Some.ensures) c.in_ok-array.ensures

pub returns-in_default-eat_word : goal.returns-in_default-eat_word
returns-in_default-eat_word c = (arrs-end c.args.text.now c.in_default.ensures c.in_default-eat_word.ensures, wrote_none c.args.out.now)

pub returns-in_err-array-2 : goal.returns-in_err-array-2
returns-in_err-array-2 c = MatchResult-from_err c.from_residual-in_err-array-2.result _ _ c.from_residual-in_err-array-2.ensures.0 (λ y. arrs_byte c.in-Some-eat_word.ensures ∙ bind-fail _ c.in_err-array-2.ensures)

pub returns : goal.returns
returns c = arr-stands k_bytes false c.in-Some-eat_word.ensures (arrs_byte c.in-Some-eat_word.ensures) c.in_ok-array-2.ensures
