use Rattle.kl_history.proofs.Standing.{count_for_nothing}
use Rattle.kl_history.proofs.laws.stale_records.Goals as goal

pub returns : goal.returns
returns c = count_for_nothing
