-- The check that a quote is of a key that is bound to a machine.
use Rattle.std.specs.Prelude.{ℕ, Bool, List}
use Rattle.kl_bank.specs.declared.bank.Bank.TheVariants.{Sha256}
use Rattle.kl_quote.specs.declared.evidence.Evidence.{Evidence}
use Rattle.kl_appraise.specs.Evidence.{Check}

-- PCR 16 alone is wanted, in the SHA-256 bank
abbrev pub identity_check : List ℕ → Evidence → Bool → Check
identity_check nonce evidence signed = record { bank = Sha256; mask = 0x10000; nonce = nonce; evidence = evidence; signed = signed }
