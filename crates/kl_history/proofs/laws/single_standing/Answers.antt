use Rattle.kl_history.proofs.OneStanding.{are_one}
use Rattle.kl_history.proofs.laws.single_standing.Goals as goal

pub returns : goal.returns
returns c = are_one
