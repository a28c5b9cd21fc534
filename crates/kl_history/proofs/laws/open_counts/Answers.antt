use Rattle.kl_history.proofs.Counts.{are_counted}
use Rattle.kl_history.proofs.laws.open_counts.Goals as goal

pub returns : goal.returns
returns c = are_counted
