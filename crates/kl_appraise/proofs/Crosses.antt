-- Terms may cross into threads: one lemma for each layer, which stands on those of the layers below.
use denote.Param.Send.{IsSend, IsSync, sendable}
use Rattle.std.proofs.Crossing.{crosses}
use Rattle.std.proofs.MapsCrossing as maps
use Rattle.kl_policy.proofs.Crosses.{policy_crosses}
use Rattle.kl_appraise.specs.contracts.terms.Terms as Terms
use Rattle.kl_appraise.specs.contracts.shared_terms.SharedTerms as Shared

pub terms_send : IsSend (Terms.the_field).row
terms_send = search (policy_crosses, maps.String-send, crosses, sendable) depth 60 fits 20000

pub terms_sync : IsSync (Terms.the_field).row
terms_sync = search (policy_crosses, maps.String-sync, crosses, sendable) depth 60 fits 20000

terms_row_send : IsSend Terms.the_row
terms_row_send = search (terms_send, sendable) depth 60 fits 20000

terms_row_sync : IsSync Terms.the_row
terms_row_sync = search (terms_sync, sendable) depth 60 fits 20000

pub shared_send : IsSend (Shared.the_field).row
shared_send = search (terms_send, terms_sync, terms_row_send, terms_row_sync, crosses, sendable) depth 60 fits 20000

pub shared_sync : IsSync (Shared.the_field).row
shared_sync = search (terms_send, terms_sync, terms_row_send, terms_row_sync, crosses, sendable) depth 60 fits 20000

pub shared_row_send : IsSend Shared.the_row
shared_row_send = search (shared_send, sendable) depth 60 fits 20000

pub shared_row_sync : IsSync Shared.the_row
shared_row_sync = search (shared_sync, sendable) depth 60 fits 20000

-- for the crates above, whose types hold shared terms
pub ruleset terms_cross = (shared_send, shared_sync, shared_row_send, shared_row_sync, terms_send, terms_sync)
