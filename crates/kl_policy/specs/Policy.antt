-- Which entries of a measurement list a policy allows, and why it does not allow another.
use Rattle.std.specs.Prelude.{◌≡◌, ◌⊎◌, ℕ, if◌then◌else◌, Option, None, Some, List, All, take, slice_get, IsTrue, IsSomeAnd, MatchBool}
use Rattle.std.specs.FinMap as finite_map
use Rattle.std.specs.FinSet as finite_set
use Rattle.kl_exclude.specs.Excludes.{any_excludes}
use Rattle.kl_entry.specs.Entries.{EntryFields, is_violation, is_consistent}
use Rattle.kl_digests.specs.Digests.{DigestSet, DigestMap}
use Rattle.kl_policy.specs.PolicyFields.{PolicyFields}
use Rattle.kl_policy.specs.declared.why.Why.{Why}
use Rattle.kl_policy.specs.declared.why.Why.TheVariants.{Violation, Inconsistent, Unknown, Digest}

-- the policy does not ask for a digest of this path: the leftmost match of one of its exclude patterns begins at byte 0
abbrev pub Excludes : PolicyFields → List ℕ → Type 0
Excludes policy path = IsTrue (any_excludes policy.patterns path)

-- the map names this digest for this path
abbrev pub HasDigest : DigestMap → List ℕ → List ℕ → Type 0
HasDigest digests path digest = IsSomeAnd (finite_map.get digests path) (λ known. IsTrue (finite_set.contains known digest))

-- a violation is allowed where the policy passes violations; another entry is allowed where it is
-- consistent, and its path is excluded or the policy names its digest for its path
abbrev pub Allows : PolicyFields → EntryFields → Type 0
Allows policy entry =
    MatchBool (is_violation entry)
    (IsTrue policy.passes_violations)
    (IsTrue (is_consistent entry) × (Excludes policy entry.path ⊎ HasDigest policy.digests entry.path entry.digest))

-- why a digest is not among those of its path
abbrev pub why_unlisted : Option DigestSet → List ℕ → Option Why
why_unlisted None digest = Some Unknown
why_unlisted (Some known) digest = if finite_set.contains known digest then None else Some Digest

-- why the policy does not allow the entry: the first that fails; none, where it allows it
abbrev pub why_of : PolicyFields → EntryFields → Option Why
why_of policy entry =
    if is_violation entry then (if policy.passes_violations then None else Some Violation)
    else if is_consistent entry then
    (if any_excludes policy.patterns entry.path then None else why_unlisted (finite_map.get policy.digests entry.path) entry.digest)
    else Some Inconsistent

-- the place, from 0, of the first entry that is not allowed, and why it is not; none, where all are
abbrev pub IsFirstBad : PolicyFields → List EntryFields → Option (ℕ × Why) → Type 0
IsFirstBad policy entries None = All (Allows policy) entries
IsFirstBad policy entries (Some found) =
    IsSomeAnd (slice_get entries found.0) (λ entry. why_of policy entry ≡ Some found.1)
    × All (Allows policy) (take found.0 entries)
