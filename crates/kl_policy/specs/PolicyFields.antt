-- What a policy is, for contracts.
use Rattle.std.specs.Prelude.{ℕ, Bool, List}
use Rattle.kl_digests.specs.Digests.{DigestMap}
use Rattle.kl_states.specs.declared.policy_kind.PolicyKind.{PolicyKind}

-- a runtime policy: its text, the form of that, the digests of each path, its exclude patterns, and whether violations pass
pub record PolicyFields : Type 0 where
  pub source : List ℕ
  pub kind : PolicyKind
  pub digests : DigestMap
  pub patterns : List (List ℕ)
  pub passes_violations : Bool
