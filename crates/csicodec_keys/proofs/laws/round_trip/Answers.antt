use Rattle.csicodec_keys.proofs.Trip.{trip}
use Rattle.csicodec_keys.proofs.laws.round_trip.Goals as goal

pub returns : goal.returns
returns c = λ encoding key form valid e. (trip encoding key form valid e).read
