use Rattle.kl_history.proofs.Examples.{five_are_lost, tenant_stopped}
use Rattle.kl_history.proofs.worked.worked_ends.Goals as goal

pub returns-clause-five_losses : goal.returns-clause-five_losses
returns-clause-five_losses c = five_are_lost

pub returns-clause-stopped : goal.returns-clause-stopped
returns-clause-stopped c = tenant_stopped
