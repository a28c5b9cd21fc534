-- What an agent is appraised under.
use Rattle.std.specs.Prelude.{ℕ, ◌<◌, ◌^◌, List, Option}
use Rattle.kl_bank.specs.declared.bank.Bank.{Bank}
use Rattle.kl_pcr.specs.Values.{IsSelected}
use Rattle.kl_pcr.specs.Statics.{AreStatics}
use Rattle.kl_pcr.specs.declared.statics.Static.{Static}
use Rattle.kl_policy.specs.PolicyFields.{PolicyFields}

-- the terms of an agent: where it is reached, the bank and the mask of PCRs that it quotes, the values that static
-- PCRs may have, its attestation key, the key share that is released to it where there is one, and its runtime policy
pub record TermsFields : Type 0 where
  pub contact : List ℕ
  pub bank : Bank
  pub mask : ℕ
  pub statics : List Static
  pub ak : List ℕ
  pub v : Option (List ℕ)
  pub policy : PolicyFields

-- A mask has PCR 10, where the measurement list is extended, and PCR 16, where the key is bound, and no PCR from 24 on, which a
-- PC's TPM has. That both must be quoted is this project's own rule.
pub record IsMask (mask : ℕ) : Type 0 where
  pub below : mask < 2 ^ 24
  pub list : IsSelected mask 10
  pub binding : IsSelected mask 16

-- what the terms of every agent keep
pub record AreTerms (t : TermsFields) : Type 0 where
  pub mask : IsMask t.mask
  pub statics : AreStatics t.bank t.mask t.statics
