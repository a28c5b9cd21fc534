-- Digests of paths may cross into threads.
use denote.Param.Send.{IsSend, IsSync, sendable}
use Rattle.std.proofs.Crossing.{crosses}
use Rattle.std.proofs.MapsCrossing as maps
use Rattle.kl_digests.specs.contracts.digests.DigestMap as DigestMap

pub map_send : IsSend (DigestMap.the_field).row
map_send = search (maps.crosses, crosses, sendable) depth 60 fits 20000

pub map_sync : IsSync (DigestMap.the_field).row
map_sync = search (maps.crosses, crosses, sendable) depth 60 fits 20000

-- for the crates above, whose types hold such a map
pub ruleset digests_cross = (map_send, map_sync)
