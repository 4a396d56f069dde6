use Rattle.steps.proofs.PlacesBound.{room-holds}
use Rattle.steps.proofs.steps_take_few_places.Goals as goal

pub returns : goal.returns
returns c = room-holds
