use Rattle.bounds.proofs.Peak.{peak_needs}
use Rattle.bounds.proofs.nodes_take_places.Goals as goal

pub returns : goal.returns
returns c = peak_needs
