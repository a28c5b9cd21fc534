use Rattle.kl_history.proofs.Appraised.{are_appraised}
use Rattle.kl_history.proofs.laws.recorded_verdicts.Goals as goal

pub returns : goal.returns
returns c = are_appraised
