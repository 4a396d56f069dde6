use Rattle.assembler.proofs.Measuring.{measuring_more}
use Rattle.assembler.proofs.measure.measure_steps.Goals as goal

pub loop-words-preserved : goal.loop-words-preserved
loop-words-preserved c m f ss h s = measuring_more _ (c.loop-words.invariant m f ss h s) s c.loop-words-test.true c.push.ensures (c.width_of.ensures m f) c.saturating_add-place.ensures
