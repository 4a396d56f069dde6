use Rattle.assembler.proofs.Emitting.{emitting_more, emitting_last}
use Rattle.assembler.proofs.code.Code.steps_of.Goals as goal

pub loop-words-preserved : goal.loop-words-preserved
loop-words-preserved c m g begin ss fr h k = emitting_more _ fr (c.loop-words.invariant m g begin ss fr h k) c.loop-words-test.true c.step_from.ensures

pub returns : goal.returns
returns c m g begin ss fr h k = emitting_last (c.loop-words.invariant m g begin ss fr h k) c.loop-words-test.false
