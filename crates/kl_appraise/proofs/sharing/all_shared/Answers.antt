-- Terms cross, shared or not.
use denote.Param.Send.{sendable}
use Rattle.std.proofs.Crossing.{crosses}
use Rattle.kl_appraise.proofs.Crosses.{terms_cross}
use Rattle.kl_appraise.proofs.sharing.all_shared.Goals as goal

pub shared-requires-send-T : goal.shared-requires-send-T
shared-requires-send-T c κs = search (terms_cross, crosses, sendable)

pub shared-requires-sync-T : goal.shared-requires-sync-T
shared-requires-sync-T c κs = search (terms_cross, crosses, sendable)

pub shared-requires-2-send-T : goal.shared-requires-2-send-T
shared-requires-2-send-T c κs = search (terms_cross, crosses, sendable)

pub shared-requires-2-sync-T : goal.shared-requires-2-sync-T
shared-requires-2-sync-T c κs = search (terms_cross, crosses, sendable)
