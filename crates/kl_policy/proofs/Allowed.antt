-- A policy allows an entry exactly where it has no reason against it.
use Rattle.std.proofs.Common.{◌≡◌, ℕ, Bool, true, false, Option, Some, None, List, ◌↔◌, ◌⊎◌, inl, inr, refl, if◌then◌else◌, IsTrue, IsSomeAnd, MatchBool, rules}
use Rattle.std.specs.FinMap as finite_map
use Rattle.std.specs.FinSet.{contains}
use Rattle.kl_exclude.specs.Excludes.{any_excludes}
use Rattle.kl_entry.specs.Entries.{EntryFields, is_violation, is_consistent}
use Rattle.kl_digests.specs.Digests.{DigestSet}
use Rattle.kl_policy.specs.PolicyFields.{PolicyFields}
use Rattle.kl_policy.specs.Policy.{Allows, why_of, why_unlisted}
use Rattle.kl_policy.specs.declared.why.Why.TheVariants.{Violation, Inconsistent, Digest}

-- the set has the digest exactly where no reason is found
listed : (b : Bool) → ((if b then None else Some Digest) ≡ None) ↔ IsTrue b
listed true = (λ _. search rules, λ _. refl)
listed false = (λ h. cc h, λ h. cc h)

-- the same of the parts that decide
allowed : (violation passes consistent excluded : Bool) (known : Option DigestSet) (digest : List ℕ)
    → ((if violation then (if passes then None else Some Violation) else if consistent then (if excluded then None else why_unlisted known digest) else Some Inconsistent) ≡ None)
    ↔ MatchBool violation (IsTrue passes) (IsTrue consistent × (IsTrue excluded ⊎ IsSomeAnd known (λ set. IsTrue (contains set digest))))
allowed true true consistent excluded known digest = (λ _. search rules, λ _. refl)
allowed true false consistent excluded known digest = (λ h. cc h, λ h. cc h)
allowed false passes true true known digest = (λ _. (refl, inl refl), λ _. refl)
allowed false passes true false None digest = (λ h. cc h, λ h. elim h.1 [ inl excluded ↦ cc excluded | inr found ↦ absurd found ])
allowed false passes true false (Some set) digest =
    let there = listed (contains set digest) in
    (λ h. (refl, inr (there.0 h)), λ h. elim h.1 [ inl excluded ↦ cc excluded | inr found ↦ there.1 found ])
allowed false passes false excluded known digest = (λ h. cc h, λ h. cc h.0)

-- there is no reason against an entry exactly where it is allowed
pub allowed_iff : (policy : PolicyFields) (entry : EntryFields) → (why_of policy entry ≡ None) ↔ Allows policy entry
allowed_iff policy entry =
    allowed (is_violation entry) policy.passes_violations (is_consistent entry) (any_excludes policy.patterns entry.path) (finite_map.get policy.digests entry.path) entry.digest
