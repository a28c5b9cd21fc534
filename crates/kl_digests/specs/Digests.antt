-- The digests that a policy names for each path.
use Rattle.std.specs.Prelude.{◌≡◌, ◌≤◌, ℕ, length, Ok, List}
use Rattle.std.specs.Coded.{Coded, coded_ℕ, coded_list}
use Rattle.std.specs.Cmp.Lexicographic.{slice_cmp}
use Rattle.std.specs.FinMap as finite_map
use Rattle.std.specs.FinSet as finite_set
use Rattle.std.specs.Ordering.{nat_cmp}
use Rattle.hex.specs.Hex.{decode_of}

-- a set of digests
abbrev pub DigestSet : Type 0
DigestSet = finite_set.FinSet (slice_cmp nat_cmp)

-- from the bytes of a path to the digests that a file there may have
abbrev pub DigestMap : Type 0
DigestMap = finite_map.FinMap (slice_cmp nat_cmp) DigestSet

-- an even number of 2 to 128 hexadecimal digits in either case spell the digest
pub record SpellsDigest (digits digest : List ℕ) : Type 0 where
  pub decoded : decode_of digits ≡ Ok digest
  pub some : 2 ≤ length digits
  pub most : length digits ≤ 128

-- a set and a map as stored values
abbrev pub digest_set_code : Coded DigestSet
digest_set_code = finite_set.code (coded_list coded_ℕ)

abbrev pub digest_map_code : Coded DigestMap
digest_map_code = finite_map.code (coded_list coded_ℕ) digest_set_code
