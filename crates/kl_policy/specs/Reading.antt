-- What a policy's text says.
use Rattle.std.specs.Prelude.{◌≡◌, ℕ, ◌≤◌, List, [], Bool, false, All}
use Rattle.std.specs.FinMap as finite_map
use Rattle.serde_json.specs.Data.{Data}
use Rattle.kl_exclude.specs.Excludes.{IsPattern}
use Rattle.kl_json.specs.Reading.{Reads}
use Rattle.kl_digests.specs.Digests.{DigestMap}
use Rattle.kl_policy.specs.Flat.{ListsDigests}
use Rattle.kl_policy.specs.Json.{HasParts}
use Rattle.kl_policy.specs.PolicyFields.{PolicyFields}
use Rattle.kl_states.specs.declared.policy_kind.PolicyKind.{PolicyKind}
use Rattle.kl_states.specs.declared.policy_kind.PolicyKind.TheVariants.{Flat, Json}

-- a flat policy lists digests of at most 262,144 paths, excludes nothing, and fails violations
pub record IsFlat (text : List ℕ) (digests : DigestMap) (patterns : List (List ℕ)) (passes : Bool) : Type 0 where
  pub lists : ListsDigests text digests
  pub few : finite_map.len digests ≤ 262144
  pub none : patterns ≡ []
  pub fails : passes ≡ false

-- a JSON policy has these parts, and its patterns are some
pub record IsJson (text : List ℕ) (digests : DigestMap) (patterns : List (List ℕ)) (passes : Bool) : Type 0 where
  pub value : Data
  pub reads : Reads text value
  pub parts : HasParts value digests patterns passes
  pub are_patterns : All IsPattern patterns

-- what the text says in this form
abbrev pub IsReading : List ℕ → PolicyKind → DigestMap → List (List ℕ) → Bool → Type 0
IsReading text Flat digests patterns passes = IsFlat text digests patterns passes
IsReading text Json digests patterns passes = IsJson text digests patterns passes

-- the policy that the text is in this form
pub record IsPolicy (kind : PolicyKind) (text : List ℕ) (p : PolicyFields) : Type 0 where
  pub source : p.source ≡ text
  pub form : p.kind ≡ kind
  pub says : IsReading text kind p.digests p.patterns p.passes_violations
