use Rattle.kl_history.proofs.Examples.{released_and_replaced, undelivered}
use Rattle.kl_history.proofs.worked.worked_deliveries.Goals as goal

pub returns-clause-late_arrival : goal.returns-clause-late_arrival
returns-clause-late_arrival c = released_and_replaced

pub returns-clause-undelivered : goal.returns-clause-undelivered
returns-clause-undelivered c = undelivered
