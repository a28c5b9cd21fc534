-- What the commands do that hand V out, and that say how its delivery ended.
use Rattle.std.specs.Prelude.{◌≡◌, ◌⊎◌, ℕ, List, Option, Some, None, Result, Ok, Err}
use Rattle.kl_states.specs.declared.outcome.Outcome.{Outcome}
use Rattle.kl_core.specs.declared.refusal.Refusal.{Refusal}
use Rattle.kl_core.specs.declared.settlement.Settlement.{Settlement}
use Rattle.kl_core.specs.Shares.{ShareFields, Releases, release_makes, Settles, settle_makes}
use Rattle.kl_script.specs.declared.command.Settle.{Settle}
use Rattle.kl_script.specs.Deliveries.{outcome_of}
use Rattle.kl_session.specs.Calls.{VerifierFields, Answered, FindsNoRelease}
use Rattle.kl_session.specs.Texts.{released_line, settled_line, says_refused}

-- ---- release

-- the release, or why there is none
abbrev pub says_released : Result ShareFields Refusal → Option (List ℕ)
says_released (Ok s) = Some (released_line s)
says_released (Err why) = says_refused why

-- V of the agent is handed out
abbrev pub DoesRelease : List ℕ → VerifierFields → VerifierFields → List ℕ → Type 0
DoesRelease agent = Answered (Releases agent) release_makes says_released

-- ---- settle

-- how a release was settled; the share of an open release is never refused
abbrev pub says_settled : Result Settlement (Refusal × ShareFields) → Option (List ℕ)
says_settled (Ok x) = Some (settled_line x)
says_settled (Err e) = None

-- the open release of this number is settled, with this outcome
abbrev pub SettlesRelease : ℕ → Outcome → VerifierFields → VerifierFields → List ℕ → Type 0
SettlesRelease n o s s' line = (x : ShareFields) × (x.number ≡ n) × Answered (Settles x o) (settle_makes x o) says_settled s s' line

abbrev pub DoesSettle : Settle → VerifierFields → VerifierFields → List ℕ → Type 0
DoesSettle c s s' line = SettlesRelease c.number (outcome_of c.delivery) s s' line ⊎ FindsNoRelease c.number s s' line
