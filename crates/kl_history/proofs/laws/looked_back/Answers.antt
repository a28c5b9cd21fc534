use Rattle.kl_history.proofs.ToldAgain.{are_told_again}
use Rattle.kl_history.proofs.laws.looked_back.Goals as goal

pub returns : goal.returns
returns c = are_told_again
