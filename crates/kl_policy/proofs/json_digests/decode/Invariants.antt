-- The members so far spell the digests that are put in.
use Rattle.std.proofs.Common.{◌≡◌, ◌++◌, List, length}
use Rattle.std.specs.List.{AllZip}
use Rattle.kl_policy.specs.Json.{Listed, map_of}
use Rattle.kl_policy.specs.Inner.JsonParts.{SpellsAll}
use Rattle.kl_policy.proofs.json_digests.decode.Given as goal

abbrev pub invariant-loop-path : goal.invariant-loop-path
invariant-loop-path l = record {
  cut : l.yielded ++ l.path-iterator ≡ l.fn.paths.entries;
  counted : l.place ≡ length l.yielded;
  made : (pairs : List Listed) × AllZip SpellsAll l.yielded pairs × (l.digests ≡ map_of pairs);
}
