-- Proof of `array_item`.
use Rattle.std.proofs.Common.{◌+◌, ◌*◌, length, arith}
use Rattle.std.proofs.lemmas.Result.{MatchResult-from_err}
use Rattle.grammar.specs.Text.{pieces, gap}
use Rattle.rows.specs.Trees.{item_row}
use Rattle.parser.proofs.Items.{no-name-array, parsed_more, data-is, sized-is}
use Rattle.parser.proofs.item.array_item.Goals as goal

pub returns-in_err-x : goal.returns-in_err-x
returns-in_err-x c = MatchResult-from_err c.from_residual.result _ _ c.from_residual.ensures.0 (λ y. no-name-array c.args.wide (pieces gap c.args.text.now) c.in_err-x.ensures.0)

pub returns-in-Some : goal.returns-in-Some
returns-in-Some c =
    let x = c.in_ok-x.x.now in let a = c.in_ok-x.ensures in let b = c.in-Some.ensures in let i = a.less in let j = b.less in let k = a.some in
    parsed_more item_row c.in-Some.rest.now c.args.text.now c.args.out.now c.data.new.out c.data.result (4 * length x + 4) 0 (data-is c.args.wide x a b) (omega arith) (omega arith) c.data.ensures

pub returns-in-None : goal.returns-in-None
returns-in-None c =
    let x = c.in_ok-x.x.now in let a = c.in_ok-x.ensures in let i = a.less in let k = a.some in
    parsed_more item_row c.in_ok-x.rest.now c.args.text.now c.args.out.now c.sized.new.out c.sized.result (4 * length x) 0 (sized-is c.args.wide x a c.in-None.ensures) (omega arith) (omega arith) c.sized.ensures
