-- The members so far are lists of texts, so that those left decide.
use Rattle.std.proofs.Common.{◌≡◌, is_some}
use Rattle.serde_json.specs.View.{members_view}
use Rattle.kl_policy.specs.Json.{listed_in}
use Rattle.kl_policy.proofs.json_digests.are_listed.Given as goal

abbrev pub invariant-loop-entry : goal.invariant-loop-entry
invariant-loop-entry l = is_some (listed_in (members_view l.entry-iterator)) ≡ is_some (listed_in (members_view l.paths.entries))
