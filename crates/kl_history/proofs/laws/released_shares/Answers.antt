use Rattle.kl_history.proofs.Released.{released_on_passes}
use Rattle.kl_history.proofs.laws.released_shares.Goals as goal

pub returns : goal.returns
returns c = released_on_passes
