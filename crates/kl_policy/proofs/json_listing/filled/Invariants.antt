-- The paths so far are put in.
use Rattle.std.proofs.Common.{◌≡◌, take, Some}
use Rattle.json.specs.Value.{members_view as tree_members}
use Rattle.serde_json.specs.Data.{Members, no_members}
use Rattle.serde_json.specs.Read.{of_members}
use Rattle.kl_policy.specs.Inner.Filling.{Fills}
use Rattle.kl_policy.proofs.json_listing.filled.Given as goal

abbrev pub invariant-loop-path : goal.invariant-loop-path
invariant-loop-path l =
    (ms : Members) × (of_members (tree_members (take l.path-index l.path-items)) no_members ≡ Some ms) × Fills l.path-index ms l.digests
