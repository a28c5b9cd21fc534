-- The trees so far spell the digests.
use Rattle.std.proofs.Common.{◌≡◌, List, ℕ, take}
use Rattle.std.specs.FinSet.{from_list}
use Rattle.std.specs.List.{AllZip}
use Rattle.kl_policy.specs.Inner.Filling.{SpellsTree}
use Rattle.kl_policy.proofs.json_listing.spelled.Given as goal

abbrev pub invariant-loop-item : goal.invariant-loop-item
invariant-loop-item l = (digests : List (List ℕ)) × AllZip SpellsTree (take l.item-index l.item-items) digests × (l.known ≡ from_list digests)
