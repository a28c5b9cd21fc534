-- How many digests lie in one buffer: each is a byte of its length and then its bytes, and begins at a place that is kept.
use Rattle.std.specs.Prelude.{ℕ, ◌≤◌, Bool, List, [], ◌∷◌, length, take, drop, map, All, IsTrue}
use Rattle.std.specs.Cmp.Lexicographic.{slice_cmp}
use Rattle.std.specs.List.{list_any}
use Rattle.std.specs.List.Sorted.{IsSortedByKey}
use Rattle.std.specs.Ordering.{nat_cmp}
use Rattle.std.specs.Str.{bytes_eq}
use Rattle.kl_digests.specs.declared.packed.PackedDigests.TheInside.{Inside}

-- the bytes whose length stands before them, as many of them as there are
abbrev pub measured_off : List ℕ → List ℕ
measured_off [] = []
measured_off (len ∷ rest) = take len rest

-- a length stands there, and no fewer bytes behind it
abbrev pub IsWhole : List ℕ → Type 0
IsWhole [] = ⊥
IsWhole (len ∷ rest) = len ≤ length rest

abbrev pub digest_at : List ℕ → ℕ → List ℕ
digest_at bytes start = measured_off (drop start bytes)

abbrev pub digests_in : List ℕ → List ℕ → List (List ℕ)
digests_in bytes starts = map (digest_at bytes) starts

-- whether this digest begins at one of these places
abbrev pub is_listed : List ℕ → List ℕ → List ℕ → Bool
is_listed bytes starts digest = list_any (λ start. bytes_eq digest (digest_at bytes start)) starts

-- the digests rise
abbrev pub AreSorted : List ℕ → List ℕ → Type 0
AreSorted bytes starts = IsSortedByKey (digest_at bytes) (slice_cmp nat_cmp) starts

pub record IsPacked (p : Inside) : Type 0 where
  pub whole : All (λ start. IsWhole (drop start p.bytes.items)) p.starts.items
  pub sorted : IsTrue p.sorted → AreSorted p.bytes.items p.starts.items
