use Rattle.std.proofs.Common.{refl, ap, ◌∙◌, subst, sym, arith, rules}
use Rattle.stepper.specs.Nodes.{meant}
use Rattle.stepper.specs.Bodies.{Fit}
use Rattle.stepper.proofs.Standing.{kept-more}
use Rattle.stepper.proofs.Counting.{node-is}
use Rattle.stepper.proofs.Looping.{reached_first, reached-more, reached_last, body-done}
use Rattle.stepper.proofs.body.write_body.Goals as goal

pub loop-words-init : goal.loop-words-init
loop-words-init c = record {
  kept = search rules;
  reached = λ vs h fit few. reached_first c.args.nodes.now c.args.base vs _ refl refl refl refl refl refl h fit.core;
}

pub loop-words-preserved : goal.loop-words-preserved
loop-words-preserved c = record {
  kept = kept-more c.loop-words.invariant.kept c.turn.ensures.kept;
  reached = λ vs h fit few.
      reached-more _ (c.loop-words.invariant.reached vs h fit few) c.loop-words-test.true h (subst (Fit c.args.base vs) (sym c.loop-words.invariant.kept.long) fit) few
      (record {
        node = c.unwrap_or-node.result;
        read = λ b v k e. ap meant c.unwrap_or-node.ensures ∙ node-is b v _ _ k e c.try_from.ensures;
        counted = c.count_behind-waiting.ensures;
        highest = omega arith;
        turned = c.turn.ensures;
      });
}

pub returns : goal.returns
returns c =
    let k = c.loop-words.invariant.kept.out in
    body-done c.loop-words.writer (search rules) c.loop-words.invariant.kept.lent (λ vs h fit few. reached_last (c.loop-words.invariant.reached vs h fit few) c.loop-words-test.false h c.loop-words.invariant.kept.lent)
