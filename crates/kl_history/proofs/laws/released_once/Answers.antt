use Rattle.kl_history.proofs.ReleasedOnce.{released_once}
use Rattle.kl_history.proofs.laws.released_once.Goals as goal

pub returns : goal.returns
returns c = released_once
