use Rattle.std.proofs.Common.{refl}
use Rattle.assembler.proofs.Measuring.{cut-is}
use Rattle.assembler.proofs.function.split_function.Goals as goal

pub returns : goal.returns
returns c f h = cut-is (record {
  head = _;
  rest = _;
  chunks = _;
  count = c.min-count.result;
  head_is = c.in_ok-params.ensures.cases.0;
  rest_is = c.in_ok-params.ensures.cases.1;
  chunks_is = c.as_chunks.ensures.front;
  chunks_long = c.as_chunks.ensures.front_len;
  count_is = c.min-count.ensures;
  params_is = refl;
  vars_is = refl;
  places_is = refl;
  steps_is = refl;
  behind = refl;
}) f h
