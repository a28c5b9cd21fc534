-- How a hash table keeps the digests of each path.
use Rattle.std.specs.Prelude.{map, string_bytes, String}
use Rattle.std.specs.FinMap as finite_map
use Rattle.std.specs.FinSet.{empty, insert}
use Rattle.std.specs.HashMap.{HashMap}
use Rattle.kl_digests.specs.Digests.{DigestMap, DigestSet}
use Rattle.kl_digests.specs.declared.digests.Held.{Held}
use Rattle.kl_digests.specs.declared.digests.Held.TheVariants.{Nothing, One, Many}

-- the digests of one path
abbrev pub held_set : Held → DigestSet
held_set Nothing = empty
held_set (One digest) = insert empty digest
held_set (Many more) = more.value

-- the map of a table's entries, whose keys are texts
abbrev pub table_map : {A S : Type 0} → HashMap (String A) DigestSet S → DigestMap
table_map table = finite_map.from_entries (map (λ entry. (string_bytes entry.0, entry.1)) table.entries)
