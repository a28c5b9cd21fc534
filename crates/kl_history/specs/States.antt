-- The operational state of an agent, by its own records.
use Rattle.std.specs.Prelude.{◌≡◌, ◌≢◌, ◌⊎◌, ℕ, ◌==◌, Bool, true, false, ◌&&◌, ◌||◌, if◌then◌else◌, [], ◌∷◌, Option, Some, None, is_some, is_none, IsSome}
use Rattle.std.specs.Option.{option_map_or}
use Rattle.kl_states.specs.declared.op.Op.{Op}
use Rattle.kl_states.specs.declared.op.Op.TheVariants.{Start, GetQuote, GetQuoteRetry, ProvideV, ProvideVRetry, Failed, InvalidQuote, TenantFailed}
use Rattle.kl_states.specs.declared.outcome.Outcome.TheVariants as outcome
use Rattle.kl_states.specs.declared.verdict.Verdict.TheVariants as verdict
use Rattle.kl_appraise.specs.declared.judged.Boot.{Boot}
use Rattle.kl_history.specs.declared.record.InstallWhy.TheVariants.{Add}
use Rattle.kl_history.specs.declared.record.Record.{Record}
use Rattle.kl_history.specs.declared.record.Record.TheVariants.{Install, Verdict, Release, Settled, Stop}
use Rattle.kl_history.specs.Records.{Past, is_begin}
use Rattle.kl_history.specs.LookBacks.{Installed, installed, came, losses, missed, Passing, last_pass}
use Rattle.kl_history.specs.Accepted.{SignsBoot}

-- ---- What ends an agent's being polled

abbrev pub is_stop : Record → Bool
is_stop (Stop a) = true
is_stop _ = false

abbrev pub is_invalid : Record → Bool
is_invalid (Verdict p e s (verdict.Invalid why) true) = true
is_invalid _ = false

abbrev pub is_failed : Record → Bool
is_failed (Verdict p e s (verdict.Failed why) true) = true
is_failed _ = false

-- the state in which an agent is not live any more, where it is in one
abbrev pub ended : Past → Option Op
ended own =
    if came is_stop own then Some TenantFailed
    else if came is_invalid own then Some InvalidQuote
    else if came is_failed own || (losses own == 5 || missed own == 5) then Some Failed
    else None

-- the agent is installed with this generation and is live
abbrev pub is_current : Past → ℕ → Bool
is_current own g = option_map_or (λ (i : Installed). i.generation == g) (installed own) false && is_none (ended own)

-- the agent is installed and live
abbrev pub is_live : Past → Bool
is_live own = is_some (installed own) && is_none (ended own)

-- ---- Whether V is due

-- the poll that a release of this number named, where it was made since the last Install by Add
abbrev pub handed_for : ℕ → Past → Option ℕ
handed_for n [] = None
handed_for n (Install a g t Add ∷ earlier) = None
handed_for n (Release m a g p ∷ earlier) = if n == m then Some p else handed_for n earlier
handed_for n (_ ∷ earlier) = handed_for n earlier

-- the poll passed, by a quote that signs this boot
abbrev pub PassedUnder : ℕ → Past → Boot → Type 0
PassedUnder p [] boot = ⊥
PassedUnder p (Verdict q e s (verdict.Pass cut) c ∷ earlier) boot = ((p ≡ q) × SignsBoot e boot) ⊎ PassedUnder p earlier boot
PassedUnder p (_ ∷ earlier) boot = PassedUnder p earlier boot

-- V has reached a boot: a release since the last Install by Add named a poll whose pass signed it, and arrived, current or not
abbrev pub HasReached : Past → Boot → Type 0
HasReached [] boot = ⊥
HasReached (Install a g t Add ∷ earlier) boot = ⊥
HasReached (Settled n outcome.Arrived c ∷ earlier) boot =
    ((p : ℕ) × (handed_for n earlier ≡ Some p) × PassedUnder p earlier boot) ⊎ HasReached earlier boot
HasReached (_ ∷ earlier) boot = HasReached earlier boot

-- V is due: the installed terms have one, the last finding is a pass, and V has not reached the boot that its quote signs
pub record IsDue (own : Past) : Type 0 where
  pub installation : Installed
  pub installed : installed own ≡ Some installation
  pub has_v : IsSome installation.terms.v
  pub pass : Passing
  pub passed : last_pass own ≡ Some pass
  pub unreached : (boot : Boot) → SignsBoot pass.evidence boot → ¬ (HasReached own boot)

-- ---- The state

-- the state of a live agent: the first that applies
abbrev pub IsLiveOp : Past → Op → Type 0
IsLiveOp own ProvideV = IsDue own × (missed own ≡ 0)
IsLiveOp own ProvideVRetry = IsDue own × (missed own ≢ 0)
IsLiveOp own GetQuoteRetry = (¬ IsDue own) × (losses own ≢ 0)
IsLiveOp own Start = (¬ IsDue own) × (losses own ≡ 0) × (came is_begin own ≡ false)
IsLiveOp own GetQuote = (¬ IsDue own) × (losses own ≡ 0) × (came is_begin own ≡ true)
IsLiveOp own _ = ⊥

-- the state of an installed agent: the first that applies
abbrev pub IsOp : Past → Op → Type 0
IsOp own op = (ended own ≡ Some op) ⊎ ((ended own ≡ None) × IsLiveOp own op)

-- the state of an agent, none where it is not installed
abbrev pub HasOp : Past → Option Op → Type 0
HasOp own None = installed own ≡ None
HasOp own (Some op) = IsSome (installed own) × IsOp own op
