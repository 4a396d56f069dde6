use Rattle.middle.proofs.Back.{words_of}
use Rattle.middle.proofs.read.step_at.Goals as goal

pub returns : goal.returns
returns c = λ s k h. c.read_step.ensures s k (words_of c.args.words.now c.in_ok-get.field-0.now c.in_ok-first_chunk.field-0.now c.args.at s h c.in_ok-get.ensures.lookup.0.2 c.in_ok-first_chunk.ensures.cases.same)
