use Rattle.processor.proofs.WordBits.{laid_or}
use Rattle.processor.proofs.encoding.put_fields.Goals as goal

pub returns : goal.returns
returns c = laid_or _ _ _ _ _ _ c.requires
