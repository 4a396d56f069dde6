use Rattle.std.proofs.Common.{length, get_or, refl, ap, subst, arith, length-drop}
use Rattle.stepper.specs.Bodies.{RoutineDone}
use Rattle.stepper.proofs.Standing.{lent-more}
use Rattle.stepper.proofs.Routines.{passed_more, passed-last, whole_is, all-good}
use Rattle.stepper.proofs.write_steps.Goals as goal

pub loop-i-preserved : goal.loop-i-preserved
loop-i-preserved c = record {
  lent = lent-more c.loop-i.invariant.lent c.write_routine-rest.ensures.lent;
  passed = λ gs h n good short. passed_more (c.loop-i.invariant.passed gs h n good short) (omega arith) (subst (λ (k : _). RoutineDone c.loop-i.rest.now k c.loop-i.out c.write_routine-rest.result.now c.write_routine-rest.new.out) c.loop-i.auto.pile c.write_routine-rest.ensures);
}

pub returns : goal.returns
returns c = record {
  steps = λ r s.
      let w = whole_is c.args.resolved.now c.in-Some.field-0-0.now c.in-Some.rest.now (get_or c.in-Some.field-0-0.now 2 0) r s.is c.in-Some.ensures.cases.0 refl c.in-Some.ensures.cases.1 in
      let n = w.count in
      let l = ap length c.in-Some.ensures.cases.1 in
      passed-last (c.loop-i.invariant.passed r.routines w.has n (all-good r.routines (length c.args.pile.now) s.core s.piles s.small) (let short = s.short in omega (arith, length-drop 3 c.args.resolved.now))) (omega arith);
  lent = c.loop-i.invariant.lent;
}
