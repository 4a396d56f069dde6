use Rattle.processor.proofs.WordBits.{above-is}
use Rattle.processor.proofs.encoding.above.Goals as goal

pub returns : goal.returns
returns c = above-is _ _ _ c.requires.1.0 c.requires.1.1
