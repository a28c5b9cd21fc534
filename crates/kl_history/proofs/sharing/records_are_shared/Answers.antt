-- A record crosses as its terms do.
use denote.Param.Send.{sendable}
use Rattle.std.proofs.Crossing.{crosses}
use Rattle.std.proofs.MapsCrossing as maps
use Rattle.kl_appraise.proofs.Crosses.{terms_cross}
use Rattle.kl_history.proofs.sharing.records_are_shared.Goals as goal

pub shared-requires-send-T : goal.shared-requires-send-T
shared-requires-send-T c κs = search (terms_cross, maps.String-send, crosses, sendable) depth 60 fits 20000

pub shared-requires-sync-T : goal.shared-requires-sync-T
shared-requires-sync-T c κs = search (terms_cross, maps.String-sync, crosses, sendable) depth 60 fits 20000
