use Rattle.std.proofs.Common.{◌≡◌, ap, ◌∙◌, option_map}
use Rattle.json.specs.Json as json
use Rattle.json.specs.Value.{value_view, items_view as tree_items}
use Rattle.json.proofs.Trees.{view-Array}
use Rattle.serde_json.specs.Data.{array}
use Rattle.serde_json.specs.Read.{of_json}
use Rattle.kl_policy.proofs.TreeParts.{within, items_spelled}
use Rattle.kl_policy.proofs.json_listing.known_digests.Goals as goal

pub returns-in-Array : goal.returns-in-Array
returns-in-Array c =
    let items = c.in-Array.items in
    let seen : value_view c.args.tree.now ≡ json.array (tree_items items.items) = ap value_view c.in-Array.is ∙ view-Array items in
    within c.spelled.result
    (λ known h.
    let all = items_spelled items.items h.0 h.1 in
    (array all.0, ap of_json seen ∙ ap (option_map array) all.1, (h.0, all.2, h.2)))
    c.spelled.ensures
