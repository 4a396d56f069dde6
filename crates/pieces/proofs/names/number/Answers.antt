-- Proof of `number`.
use Rattle.std.proofs.Common.{◌≤◌, length, ◌∙◌, arith}
use Rattle.std.proofs.lemmas.Bool.Decides.{nat_tests}
use Rattle.std.proofs.lemmas.List.{at_drop_all}
use Rattle.grammar.specs.Text.{decimal}
use Rattle.pieces.proofs.Naming.{num_in, ten_ten}
use Rattle.pieces.proofs.names.number.Goals as goal

pub returns : goal.returns
returns c =
    let h : 1 ≤ length c.args.w.now = grind (arith, nat_tests) in (
      num_in c.args.w.now h (omega arith) ∙ c.loop-c.invariant.1 ∙ at_drop_all (decimal c.loop-c.v) c.args.w.now c.loop-c.c-index (omega arith),
      ten_ten c.loop-c.c-index c.loop-c.v (omega arith) c.loop-c.invariant.0,
    )
