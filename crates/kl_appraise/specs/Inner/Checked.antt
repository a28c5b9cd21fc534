-- What the check of a quote answers.
use Rattle.std.specs.Prelude.{◌≡◌, ℕ, Bool, true, Option, None, Some, List}
use Rattle.kl_attest.specs.Grammar.{Quoted, Spells}
use Rattle.kl_bank.specs.declared.bank.Bank.{Bank}
use Rattle.kl_bank.specs.Banks.{name_of}
use Rattle.kl_quote.specs.QuoteText.{IsQuoteText}
use Rattle.kl_quote.specs.declared.evidence.Evidence.{Evidence}
use Rattle.kl_states.specs.declared.verdict.InvalidCause.{InvalidCause}
use Rattle.kl_appraise.specs.declared.quoted.Wanted.{Wanted}
use Rattle.kl_appraise.specs.declared.quoted.Checked.{Checked}
use Rattle.kl_appraise.specs.declared.quoted.Checked.TheVariants.{Refused, Sound}
use Rattle.kl_appraise.specs.Evidence.{Check}
use Rattle.kl_appraise.specs.ListRules.{boot_of}
use Rattle.kl_appraise.specs.QuoteRules.{MeetsRules, QuoteRules}

-- the check of evidence by what is wanted, under each answer of the key object
abbrev pub check_for : Wanted → Evidence → Bool → Check
check_for w evidence signed = record { bank = w.bank; mask = w.mask; nonce = w.nonce.now; evidence = evidence; signed = signed }

-- None of rules 1 to 3 applies, so that the key object is to be asked: the quote text has these three parts, of which the first
-- spells this attestation, and the evidence names the bank.
pub record IsReadable (bank : Bank) (e : Evidence) (attest signature values : List ℕ) (t : Quoted) : Type 0 where
  pub text : IsQuoteText e.quote attest signature values
  pub spells : Spells attest t
  pub named : e.bank ≡ name_of bank

-- whether the quote is signed
abbrev pub answer_of : Checked → Bool
answer_of (Refused why signed) = signed
answer_of (Sound quote) = true

-- the cause of a refusal
abbrev pub cause_in : Checked → Option InvalidCause
cause_in (Refused why signed) = Some why
cause_in (Sound quote) = None

-- a refusal names the first rule that applies; else none of the nine does, and the quote has this boot and these values
abbrev pub ChecksAs : (Bool → Check) → Checked → Type 0
ChecksAs check (Refused why signed) = QuoteRules (check signed) why
ChecksAs check (Sound quote) = (t : Quoted) × MeetsRules (check true) t quote.values × (boot_of t ≡ quote.boot)
