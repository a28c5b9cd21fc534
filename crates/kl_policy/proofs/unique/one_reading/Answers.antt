use Rattle.kl_policy.proofs.OneFault.{one_policy, no_fault, one_named}
use Rattle.kl_policy.proofs.unique.one_reading.Goals as goal

pub returns-clause-policy : goal.returns-clause-policy
returns-clause-policy c = one_policy

pub returns-clause-either : goal.returns-clause-either
returns-clause-either c = no_fault

pub returns-clause-fault : goal.returns-clause-fault
returns-clause-fault c = one_named
