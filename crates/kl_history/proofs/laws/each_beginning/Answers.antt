use Rattle.kl_history.proofs.Places.{legal_beginning}
use Rattle.kl_history.proofs.laws.each_beginning.Goals as goal

pub returns : goal.returns
returns c = legal_beginning
