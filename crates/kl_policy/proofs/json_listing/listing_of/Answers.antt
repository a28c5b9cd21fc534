use Rattle.std.proofs.Common.{◌≡◌, ap, ◌∙◌, option_map}
use Rattle.json.specs.Json as json
use Rattle.json.specs.Value.{value_view, members_view as tree_members}
use Rattle.json.proofs.Trees.{view-Object}
use Rattle.serde_json.specs.Data.{object}
use Rattle.serde_json.specs.Read.{of_json}
use Rattle.kl_policy.proofs.TreeParts.{within}
use Rattle.kl_policy.proofs.json_listing.listing_of.Goals as goal

pub returns-in-Object : goal.returns-in-Object
returns-in-Object c =
    let paths = c.in-Object.paths in
    let seen : value_view c.args.tree.now ≡ json.object (tree_members paths.items) = ap value_view c.in-Object.is ∙ view-Object paths in
    within c.short_listing.result (λ digests h. (h.0, ap of_json seen ∙ ap (option_map object) h.1, h.2)) c.short_listing.ensures
