-- An object or a list says nothing where it is empty.
use Rattle.std.proofs.Common.{◌≡◌, ◌==◌, ap, ◌∙◌, length, vec_len, arith}
use Rattle.serde_json.proofs.Views.{view-Array, view-Object}
use Rattle.serde_json.specs.Data.{array, object}
use Rattle.serde_json.specs.View.{view, items_view, members_view}
use Rattle.kl_policy.proofs.JsonFacts.{blank_items, blank_members}
use Rattle.kl_policy.proofs.json_members.says_nothing.Goals as goal

pub returns-in-Object : goal.returns-in-Object
returns-in-Object c =
    let seen : view c.args.value.now ≡ object (members_view c.in-Object.members.entries) = ap view c.in-Object.is ∙ view-Object c.in-Object.members in
    rw seen (blank_members c.in-Object.members.entries c.is_empty-in-Object.result c.is_empty-in-Object.ensures)

pub returns-in-Array : goal.returns-in-Array
returns-in-Array c =
    let seen : view c.args.value.now ≡ array (items_view c.in-Array.items.items) = ap view c.in-Array.is ∙ view-Array c.in-Array.items in
    let count : vec_len c.in-Array.items ≡ length c.in-Array.items.items = omega arith in
    rw seen (blank_items c.in-Array.items.items c.is_empty-in-Array.result (c.is_empty-in-Array.ensures ∙ ap (λ n. n == 0) count))
