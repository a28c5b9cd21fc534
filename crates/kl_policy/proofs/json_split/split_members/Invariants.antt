-- The members so far are taken.
use Rattle.std.proofs.Common.{◌≡◌, take, Some}
use Rattle.json.specs.Value.{members_view as tree_members}
use Rattle.serde_json.specs.Data.{Members, no_members}
use Rattle.serde_json.specs.Read.{of_members}
use Rattle.kl_policy.specs.Inner.Filling.{IsSplit}
use Rattle.kl_policy.proofs.json_split.split_members.Given as goal

abbrev pub invariant-loop-member : goal.invariant-loop-member
invariant-loop-member l =
    (found : Members) × (of_members (tree_members (take l.member-index l.member-items)) no_members ≡ Some found) × IsSplit found l.split.digests l.split.others.entries
