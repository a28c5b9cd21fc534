-- Static PCRs: those whose values are fixed once the machine has booted, and the values that each may have.
use Rattle.std.specs.Prelude.{◌≡◌, ◌≢◌, ℕ, ◌≤◌, Option, None, Some, List, length, All, Any, AllPairs, Contains}
use Rattle.kl_bank.specs.declared.bank.Bank.{Bank}
use Rattle.kl_bank.specs.Banks.{size_of}
use Rattle.kl_pcr.specs.Values.{IsSelected, value_at}
use Rattle.kl_pcr.specs.declared.statics.Static.{Static}

-- The PCR is selected, and is neither PCR 10, where the measurement list is extended, nor PCR 16, where a key is
-- bound. At least one value is allowed, and each is a digest of the bank.
pub record IsStatic (bank : Bank) (mask : ℕ) (s : Static) : Type 0 where
  pub selected : IsSelected mask s.pcr
  pub not_list : s.pcr ≢ 10
  pub not_binding : s.pcr ≢ 16
  pub some : 1 ≤ length s.allowed
  pub sized : All (λ digest. length digest ≡ size_of bank) s.allowed

-- each is a static PCR, and each PCR stands once
pub record AreStatics (bank : Bank) (mask : ℕ) (statics : List Static) : Type 0 where
  pub each : All (λ s. IsStatic bank mask s) statics
  pub once : AllPairs (λ s t. s.pcr ≢ t.pcr) statics

-- the value of its PCR is allowed
abbrev pub IsAllowed : Bank → ℕ → List ℕ → Static → Type 0
IsAllowed bank mask values s = Contains s.allowed (value_at bank mask values s.pcr)

-- the value of its PCR is none of those that are allowed
abbrev pub IsWrong : Bank → ℕ → List ℕ → Static → Type 0
IsWrong bank mask values s = ¬ (IsAllowed bank mask values s)

-- the least PCR whose value is wrong, or none where all values are allowed
abbrev pub IsFirstWrong : Bank → ℕ → List ℕ → List Static → Option ℕ → Type 0
IsFirstWrong bank mask values statics None = All (IsAllowed bank mask values) statics
IsFirstWrong bank mask values statics (Some n) =
    Any (λ s. IsWrong bank mask values s × (s.pcr ≡ n)) statics
    × All (λ s. IsWrong bank mask values s → n ≤ s.pcr) statics
