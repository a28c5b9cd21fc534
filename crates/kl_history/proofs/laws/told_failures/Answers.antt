use Rattle.kl_history.proofs.Failing.{tell_failures}
use Rattle.kl_history.proofs.laws.told_failures.Goals as goal

pub returns : goal.returns
returns c = tell_failures
