use Rattle.kl_history.proofs.Examples.{records_of_two}
use Rattle.kl_history.proofs.worked.worked_agents.Goals as goal

pub returns : goal.returns
returns c = records_of_two
