-- A policy crosses.
use denote.Param.Send.{sendable}
use Rattle.std.proofs.Crossing.{crosses}
use Rattle.kl_policy.proofs.Crosses.{policy_crosses}
use Rattle.kl_policy.proofs.threads.policies_are_shared.Goals as goal

pub shared-requires-send-T : goal.shared-requires-send-T
shared-requires-send-T c κs = search (policy_crosses, crosses, sendable)

pub shared-requires-sync-T : goal.shared-requires-sync-T
shared-requires-sync-T c κs = search (policy_crosses, crosses, sendable)
