-- The trees so far have these values.
use Rattle.std.proofs.Common.{◌≡◌, take, Some}
use Rattle.std.specs.List.{AllZip}
use Rattle.json.specs.Value.{members_view as tree_members}
use Rattle.serde_json.specs.Data.{no_members}
use Rattle.serde_json.specs.Read.{of_members}
use Rattle.serde_json.specs.View.{members_view}
use Rattle.kl_json.proofs.TreeFacts.{HasValue}
use Rattle.kl_json.proofs.owning.+owned.Given as goal

abbrev pub invariant-owned_items-loop-item : goal.invariant-owned_items-loop-item
invariant-owned_items-loop-item l = AllZip HasValue (take l.item-index l.item-items) l.values.items

abbrev pub invariant-owned_members-loop-member : goal.invariant-owned_members-loop-member
invariant-owned_members-loop-member l = of_members (tree_members (take l.member-index l.member-items)) no_members ≡ Some (members_view l.map.entries)
