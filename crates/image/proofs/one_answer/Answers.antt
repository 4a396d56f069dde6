-- `one_answer`: the laws of rows and of the promise (Laws).
use Rattle.image.proofs.Laws.{one-image, one_answer}
use Rattle.image.proofs.one_answer.Goals as goal

pub returns : goal.returns
returns c = record { image = one-image; answer = one_answer }
