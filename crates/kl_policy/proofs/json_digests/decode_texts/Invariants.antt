-- The texts so far spell the digests.
use Rattle.std.proofs.Common.{◌≡◌, List, ℕ, take}
use Rattle.std.specs.FinSet.{from_list}
use Rattle.std.specs.List.{AllZip}
use Rattle.kl_policy.specs.Inner.JsonParts.{SpellsValue}
use Rattle.kl_policy.proofs.json_digests.decode_texts.Given as goal

abbrev pub invariant-loop-i : goal.invariant-loop-i
invariant-loop-i l = (digests : List (List ℕ)) × AllZip SpellsValue (take l.i l.items) digests × (l.known ≡ from_list digests)
