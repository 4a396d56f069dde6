use Rattle.std.proofs.Common.{◌∙◌, arith, refl}
use Rattle.stepper.proofs.Routines.{routine-is}
use Rattle.stepper.proofs.routine.write_routine.Goals as goal

pub returns : goal.returns
returns c = record {
  lent = record {
    kept = c.fill-2.ensures.lent.kept ∙ (c.fill.ensures.lent.kept ∙ (c.write_body-body.ensures.lent.kept ∙ c.push_all.ensures.kept));
    same = c.fill-2.ensures.lent.same ∙ (c.fill.ensures.lent.same ∙ (c.write_body-body.ensures.lent.same ∙ c.push_all.ensures.same));
  };
  routine = routine-is c.args.resolved.now _ _ (record {
    head = c.in-Some.field-0-0.now;
    rest = c.in-Some.rest.now;
    chunks = c.as_chunks.result.0.now;
    nodes = _;
    count = c.min-count.result;
    base = c.saturating_add.result;
    places = c.write_body-body.result.places;
    steps = c.write_body-body.result.steps;
    third_word = c.saturating_add-2.result;
    fourth_word = c.saturating_add-3.result;
    head_is = c.in-Some.ensures.cases.0;
    rest_is = c.in-Some.ensures.cases.1;
    chunks_is = c.as_chunks.ensures.front;
    chunks_long = c.as_chunks.ensures.front_len;
    count_is = c.min-count.ensures;
    nodes_is = refl;
    base_is = c.saturating_add.ensures;
    head_pushed = c.push_all.ensures;
    body = c.write_body-body.ensures;
    third_is = c.saturating_add-2.ensures;
    third_filled = c.fill.ensures;
    last_is = c.saturating_add-3.ensures;
    last_filled = c.fill-2.ensures;
    behind = refl;
    fits = omega arith;
  });
}
