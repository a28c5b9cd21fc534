-- Policies may cross into threads: one lemma for each layer, which stands on those of the layers below.
use denote.Param.Send.{IsSend, IsSync, sendable}
use Rattle.std.proofs.Crossing.{crosses}
use Rattle.std.proofs.MapsCrossing as maps
use Rattle.kl_digests.proofs.Crosses.{digests_cross}
use Rattle.kl_exclude.proofs.Crosses.{patterns_cross}
use Rattle.kl_policy.specs.contracts.content.Content as Content
use Rattle.kl_policy.specs.contracts.policy.Policy as Policy

content_send : IsSend (Content.the_field).row
content_send = search (patterns_cross, digests_cross, maps.String-send, maps.crosses, crosses, sendable) depth 60 fits 20000

content_sync : IsSync (Content.the_field).row
content_sync = search (patterns_cross, digests_cross, maps.String-sync, maps.crosses, crosses, sendable) depth 60 fits 20000

content_row_send : IsSend Content.the_row
content_row_send = search (content_send, sendable) depth 60 fits 20000

content_row_sync : IsSync Content.the_row
content_row_sync = search (content_sync, sendable) depth 60 fits 20000

pub policy_send : IsSend (Policy.the_field).row
policy_send = search (content_send, content_sync, content_row_send, content_row_sync, crosses, sendable) depth 60 fits 20000

pub policy_sync : IsSync (Policy.the_field).row
policy_sync = search (content_send, content_sync, content_row_send, content_row_sync, crosses, sendable) depth 60 fits 20000

pub policy_row_send : IsSend Policy.the_row
policy_row_send = search (policy_send, sendable) depth 60 fits 20000

pub policy_row_sync : IsSync Policy.the_row
policy_row_sync = search (policy_sync, sendable) depth 60 fits 20000

-- for the crates above, whose types hold a policy
pub ruleset policy_crosses = (policy_send, policy_sync, policy_row_send, policy_row_sync)
