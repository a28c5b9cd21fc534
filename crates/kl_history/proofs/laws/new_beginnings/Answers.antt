use Rattle.kl_history.proofs.Standing.{begin_anew}
use Rattle.kl_history.proofs.laws.new_beginnings.Goals as goal

pub returns : goal.returns
returns c = begin_anew
