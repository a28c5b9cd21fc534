-- What evidence holds.
use Rattle.std.specs.Prelude.{ℕ, Bool, List}
use Rattle.kl_bank.specs.declared.bank.Bank.{Bank}
use Rattle.kl_attest.specs.Grammar.{Quoted, Spells}
use Rattle.kl_quote.specs.declared.evidence.Evidence.{Evidence}
use Rattle.kl_quote.specs.QuoteText.{IsQuoteText}
use Rattle.kl_appraise.specs.Terms.{TermsFields}

-- what the rules on a quote alone look at: the bank and the mask of PCRs that are wanted, the nonce that was sent, the
-- evidence, and whether the key object said yes to the quote's signature
pub record Check : Type 0 where
  pub bank : Bank
  pub mask : ℕ
  pub nonce : List ℕ
  pub evidence : Evidence
  pub signed : Bool

-- what terms want, with this nonce, and this answer of the key object
abbrev pub check_under : TermsFields → List ℕ → Evidence → Bool → Check
check_under terms nonce evidence signed = record { bank = terms.bank; mask = terms.mask; nonce = nonce; evidence = evidence; signed = signed }

-- the same under another answer
abbrev pub with_answer : Check → Bool → Check
with_answer k signed = record { bank = k.bank; mask = k.mask; nonce = k.nonce; evidence = k.evidence; signed = signed }

-- the attestation that the first part of a quote text spells
abbrev pub Attests : List ℕ → Quoted → Type 0
Attests quote t = (attest : List ℕ) × (signature : List ℕ) × (values : List ℕ) × IsQuoteText quote attest signature values × Spells attest t

-- the PCR values of a quote text, its third part
abbrev pub HasValues : List ℕ → List ℕ → Type 0
HasValues quote values = (attest : List ℕ) × (signature : List ℕ) × IsQuoteText quote attest signature values
