use denote.Param.Send.{sendable}
use Rattle.kl_exclude.proofs.Crosses.{patterns_cross}
use Rattle.kl_exclude.proofs.threads.patterns_are_shared.Goals as goal

pub shared-requires-send-T : goal.shared-requires-send-T
shared-requires-send-T c κs = search (patterns_cross, sendable)

pub shared-requires-sync-T : goal.shared-requires-sync-T
shared-requires-sync-T c κs = search (patterns_cross, sendable)
