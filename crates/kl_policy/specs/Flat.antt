-- The flat allowlist: a line is a digest in hexadecimal digits, two spaces and a path, as `sha256sum` writes them in text
-- mode. Its lines in binary mode, with a space and a `*` before the path, and those of an escaped path, which begin with a
-- backslash, are no such lines.
use Rattle.std.specs.Prelude.{◌≡◌, ℕ, ◌<◌, ◌≤◌, ◌++◌, ◌⊎◌, List, [], ◌∷◌, length, map, filter, Bool, true, false, Option, None, Some, codes, Result, Ok, Err, ⊤}
use Rattle.std.specs.FinMap as finite_map
use Rattle.std.specs.FinSet as finite_set
use Rattle.std.specs.List.{AllZip}
use Rattle.std.specs.Str.{bytes_eq}
use Rattle.kl_entry.specs.Lines.{lines_of, IsFirstFailing}
use Rattle.kl_digests.specs.Digests.{DigestSet, DigestMap, SpellsDigest}
use Rattle.kl_policy.specs.PolicyFields.{PolicyFields}
use Rattle.kl_policy.specs.declared.fault.Limit.TheVariants.{Paths}
use Rattle.kl_policy.specs.declared.fault.PolicyFault.{PolicyFault}
use Rattle.kl_policy.specs.declared.fault.PolicyFault.TheVariants.{Line, Limit as Over, Memory}

-- the line gives this digest and this path: 2 to 128 hexadecimal digits in either case, an even
-- number of them, then two spaces, then at least one byte
pub record FlatLine (line digest path : List ℕ) : Type 0 where
  pub digits : List ℕ
  pub parts : line ≡ digits ++ codes "  " ++ path
  pub spelled : SpellsDigest digits digest
  pub named : 1 ≤ length path

-- the line gives this pair of a path and a digest
abbrev pub GivesPair : List ℕ → List ℕ × List ℕ → Type 0
GivesPair line pair = FlatLine line pair.1 pair.0

-- whether a line has a byte
abbrev pub is_written : List ℕ → Bool
is_written [] = false
is_written (b ∷ bytes) = true

-- the lines that are not empty
abbrev pub written : List (List ℕ) → List (List ℕ)
written lines = filter is_written lines

-- the lines give these pairs of a path and a digest, in order; an empty line gives none
abbrev pub AreListed : List (List ℕ) → List (List ℕ × List ℕ) → Type 0
AreListed lines pairs = AllZip GivesPair (written lines) pairs

-- of pairs of a path and a digest: the digests of this path
abbrev pub digests_at : List ℕ → List (List ℕ × List ℕ) → List (List ℕ)
digests_at path pairs = map (λ pair. pair.1) (filter (λ pair. bytes_eq path pair.0) pairs)

-- the set of these digests, where there is one
abbrev pub set_of : List (List ℕ) → Option DigestSet
set_of [] = None
set_of (digest ∷ digests) = Some (finite_set.from_list (digest ∷ digests))

-- the map has, at each path, the digests of that path's pairs, and no path without pairs
abbrev pub Collects : List (List ℕ × List ℕ) → DigestMap → Type 0
Collects pairs digests = (path : List ℕ) → finite_map.get digests path ≡ set_of (digests_at path pairs)

-- the digests that these lines list, by their paths: those of a repeated path are added up
abbrev pub LinesCollect : List (List ℕ) → DigestMap → Type 0
LinesCollect lines digests = (pairs : List (List ℕ × List ℕ)) × AreListed lines pairs × Collects pairs digests

abbrev pub ListsDigests : List ℕ → DigestMap → Type 0
ListsDigests text digests = LinesCollect (lines_of text) digests

-- a line that a flat policy may have
abbrev pub IsGoodLine : List ℕ → Type 0
IsGoodLine line = (line ≡ []) ⊎ ((digest : List ℕ) × (path : List ℕ) × FlatLine line digest path)

-- the line at this place, from 0 and counting empty ones, is the first that a flat policy may not have
abbrev pub BreaksAt : List (List ℕ) → ℕ → Type 0
BreaksAt lines place = IsFirstFailing IsGoodLine (λ line. ¬ (IsGoodLine line)) lines place

-- the text is no flat policy: its first bad line, or too many distinct paths where all lines are good
abbrev pub IsFlatFault : List ℕ → PolicyFault → Type 0
IsFlatFault text (Line place) = BreaksAt (lines_of text) place
IsFlatFault text (Over Paths) = (digests : DigestMap) × ListsDigests text digests × (262144 < finite_map.len digests)
IsFlatFault text Memory = ⊤
IsFlatFault text _ = ⊥

-- what reading made of a text that lists these digests: a policy of them, or the answer that they have too
-- many paths, unless memory ran out
abbrev pub IsReadAs : Result PolicyFields PolicyFault → DigestMap → Type 0
IsReadAs (Ok policy) digests = policy.digests ≡ digests
IsReadAs (Err (Over Paths)) digests = 262144 < finite_map.len digests
IsReadAs (Err Memory) digests = ⊤
IsReadAs (Err _) digests = ⊥

-- what reading made of a text whose first bad line is this: the answer which that is, unless memory ran out
abbrev pub IsRefusedAt : Result PolicyFields PolicyFault → ℕ → Type 0
IsRefusedAt (Ok policy) place = ⊥
IsRefusedAt (Err (Line found)) place = found ≡ place
IsRefusedAt (Err Memory) place = ⊤
IsRefusedAt (Err _) place = ⊥
