-- The values so far are texts, so that those left decide.
use Rattle.std.proofs.Common.{◌≡◌, drop, is_some}
use Rattle.serde_json.specs.View.{items_view}
use Rattle.kl_policy.specs.Json.{texts_in}
use Rattle.kl_policy.proofs.json_members.are_texts.Given as goal

abbrev pub invariant-loop-item : goal.invariant-loop-item
invariant-loop-item l = is_some (texts_in (items_view (drop l.item-index l.items))) ≡ is_some (texts_in (items_view l.items))
