use Rattle.processor.proofs.WordBits.{part-is}
use Rattle.processor.proofs.encoding.part.Goals as goal

pub returns : goal.returns
returns c = part-is _ _ c.requires.1
