use Rattle.std.proofs.Common.{◌≡◌, Some, IfSome, ap, subst, ◌∙◌, option_map}
use Rattle.json.specs.Json as json
use Rattle.json.specs.Value.{value_view, members_view as tree_members}
use Rattle.json.proofs.Trees.{view-Object}
use Rattle.serde_json.specs.Data.{Members, object, no_members}
use Rattle.serde_json.specs.Read.{of_json, of_members}
use Rattle.kl_policy.specs.Inner.Filling.{IsSplit}
use Rattle.kl_policy.proofs.TreeParts.{within}
use Rattle.kl_policy.proofs.json_split.said_by.Goals as goal

pub returns-in-Some : goal.returns-in-Some
returns-in-Some c =
    let members = c.in-Object.members in
    let seen : value_view c.args.tree.now ≡ json.object (tree_members members.items) = ap value_view c.in-Object.is ∙ view-Object members in
    let parts = subst (λ o. IfSome o (λ split. (found : Members) × (of_members (tree_members members.items) no_members ≡ Some found) × IsSplit found split.digests split.others.entries)) c.in-Some.is c.in_ok-split.ensures in
    within c.said_of_split.result (λ said h. (object parts.0, ap of_json seen ∙ ap (option_map object) parts.1, h parts.0 parts.2)) c.said_of_split.ensures
