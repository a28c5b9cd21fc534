-- The texts so far are copied, and none is too long.
use Rattle.std.proofs.Common.{All, take, map, string_bytes}
use Rattle.kl_policy.specs.Json.{IsShort}
use Rattle.kl_policy.specs.Inner.JsonParts.{AreTexts}
use Rattle.kl_policy.proofs.json_members.copied.Given as goal

abbrev pub invariant-loop-item : goal.invariant-loop-item
invariant-loop-item l = record {
  copied : AreTexts (take l.item-index l.items) (map string_bytes l.copies.items);
  short : All IsShort (map string_bytes l.copies.items);
}
