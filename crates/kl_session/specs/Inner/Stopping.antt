-- Where memory ran out.
use Rattle.std.specs.Prelude.{◌≡◌, ◌⊎◌, List, ℕ, None}
use Rattle.kl_script.specs.declared.command.Begin.{Begin}
use Rattle.kl_states.specs.declared.policy_kind.PolicyKind.{PolicyKind}
use Rattle.kl_session.specs.Outside.{Outside}
use Rattle.kl_session.specs.declared.stop.Stop.{Stop}
use Rattle.kl_session.specs.declared.stop.Stop.TheVariants.{NoNonce, Memory}
use Rattle.kl_session.specs.Calls.{VerifierFields}
use Rattle.kl_session.specs.Drawing.{Draws, DrawsNone}
use Rattle.kl_session.specs.Polls.{DoesBegin}
use Rattle.kl_session.specs.Stopped.{MadeSome}

-- memory ran out, before anything was done or after all was
abbrev pub IsShort : {S : Type 0} → Stop → S → S → (List ℕ → Type 0) → Type 0
IsShort stop s s' Does = (stop ≡ Memory) × (((line : List ℕ) × Does line) ⊎ (s' ≡ s))

-- the same, where nothing was asked of the outside before anything was done
abbrev pub IsUndone : Stop → Outside → Outside → VerifierFields → VerifierFields → (List ℕ → Type 0) → Type 0
IsUndone stop o o' s s' Does = (stop ≡ Memory) × (((line : List ℕ) × Does line) ⊎ ((s' ≡ s) × (o' ≡ o)))

-- the same, where patterns may have been made before
abbrev pub IsUnread : Stop → Outside → Outside → PolicyKind → List ℕ → VerifierFields → VerifierFields → (List ℕ → Type 0) → Type 0
IsUnread stop o o' kind text s s' Does = (stop ≡ Memory) × (((line : List ℕ) × Does line) ⊎ ((s' ≡ s) × MadeSome o o' kind text))

-- a begin was not answered: no nonce could be drawn, or memory ran out
abbrev pub IsUnbegun : Stop → Outside → Outside → VerifierFields → Begin → VerifierFields → Type 0
IsUnbegun NoNonce o o' s b s' = (s' ≡ s) × (b.nonce ≡ None) × DrawsNone 16 o o'
IsUnbegun Memory o o' s b s' =
    ((line : List ℕ) × DoesBegin o o' b s s' line) ⊎ ((s' ≡ s) × ((o' ≡ o) ⊎ ((b.nonce ≡ None) × ((drawn : List ℕ) × Draws 16 o o' drawn))))
