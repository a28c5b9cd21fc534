-- What holds terms is handed on as they are.
use denote.Param.Send.{sendable}
use Rattle.std.proofs.Crossing.{crosses}
use Rattle.std.proofs.MapsCrossing as maps
use Rattle.kl_appraise.proofs.Crosses.{terms_cross}
use Rattle.kl_incr.proofs.sharing.all_handed.Goals as goal

pub handed-requires-send-T : goal.handed-requires-send-T
handed-requires-send-T c κs = search (terms_cross, maps.String-send, crosses, sendable) depth 60 fits 20000

pub handed-requires-2-send-T : goal.handed-requires-2-send-T
handed-requires-2-send-T c κs = search (terms_cross, maps.String-send, crosses, sendable) depth 60 fits 20000
