-- The rules that look at the quote alone, in their order. Each names the cause that it gives where it applies.
use Rattle.std.specs.Prelude.{◌≡◌, ◌≢◌, ◌⊎◌, ℕ, ◌*◌, true, false, List, length, count_ones, Option, None, Some}
use Rattle.sha2.specs.Sha256.{sha256}
use Rattle.kl_bank.specs.Banks.{alg_of, name_of, size_of}
use Rattle.kl_attest.specs.declared.fault.AttestFault.{AttestFault}
use Rattle.kl_attest.specs.declared.fault.AttestFault.TheVariants as fault
use Rattle.kl_attest.specs.Grammar.{Quoted}
use Rattle.kl_attest.specs.FirstFault.{IsFirstFault}
use Rattle.kl_attest.specs.Pcrs.{OneSet}
use Rattle.kl_keys.specs.Relations.{Relations, Answers}
use Rattle.kl_pcr.specs.Values.{value_at, binding_of}
use Rattle.kl_quote.specs.QuoteText.{IsQuoteText, IsFormFault}
use Rattle.kl_states.specs.declared.verdict.AttestCause.{AttestCause}
use Rattle.kl_states.specs.declared.verdict.AttestCause.TheVariants as cause
use Rattle.kl_states.specs.declared.verdict.InvalidCause.{InvalidCause}
use Rattle.kl_states.specs.declared.verdict.InvalidCause.TheVariants.{Form, Bank, Attest, Signature, Nonce, Selection, PcrLength, PcrDigest, Binding}
use Rattle.kl_appraise.specs.Evidence.{Check, Attests, HasValues}

-- the first of two rules that applies: the second counts only where the first applies to nothing
infixr 5 ◌otherwise◌
abbrev pub ◌otherwise◌ : {A : Type 0} → (A → Type 0) → (A → Type 0) → A → Type 0
◌otherwise◌ {A} first second x = first x ⊎ (((y : A) → ¬ (first y)) × second x)

-- a fault of the attestation, as the cause of a verdict
abbrev pub attest_cause : AttestFault → AttestCause
attest_cause (fault.Short at) = cause.Short at
attest_cause fault.Magic = cause.Magic
attest_cause fault.AttestType = cause.AttestType
attest_cause fault.Safe = cause.Safe
attest_cause (fault.Tail at) = cause.Tail at

-- 1. The quote text has not its form.
abbrev pub ByForm : Check → InvalidCause → Type 0
ByForm k why = (part : ℕ) × IsFormFault k.evidence.quote part × (why ≡ Form part)

-- 2. The evidence names another bank.
abbrev pub ByBank : Check → InvalidCause → Type 0
ByBank k why = (k.evidence.bank ≢ name_of k.bank) × (why ≡ Bank)

-- 3. The first part of the quote text is no attestation of a quote.
abbrev pub ByAttest : Check → InvalidCause → Type 0
ByAttest k why =
    (attest : List ℕ) × (signature : List ℕ) × (values : List ℕ) × (f : AttestFault)
    × IsQuoteText k.evidence.quote attest signature values × IsFirstFault attest f × (why ≡ Attest (attest_cause f))

-- 4. The key object says no to the signature.
abbrev pub BySignature : Check → InvalidCause → Type 0
BySignature k why = (k.signed ≡ false) × (why ≡ Signature)

-- 5. The attestation carries another nonce.
abbrev pub ByNonce : Check → InvalidCause → Type 0
ByNonce k why = (t : Quoted) × Attests k.evidence.quote t × (t.extra ≢ k.nonce) × (why ≡ Nonce)

-- 6. The attestation is not over the PCRs of the mask in the bank.
abbrev pub BySelection : Check → InvalidCause → Type 0
BySelection k why = (t : Quoted) × Attests k.evidence.quote t × (¬ (OneSet t.selections (alg_of k.bank) k.mask)) × (why ≡ Selection)

-- 7. The values are not one digest of the bank for each bit of the mask.
abbrev pub ByPcrLength : Check → InvalidCause → Type 0
ByPcrLength k why = (values : List ℕ) × HasValues k.evidence.quote values × (length values ≢ size_of k.bank * count_ones k.mask) × (why ≡ PcrLength)

-- 8. The attestation is not over these values: it signs the SHA-256 of others. That pcrDigest is a SHA-256 in every bank is this
-- project's own rule; a TPM takes the hash of its signing scheme.
abbrev pub ByPcrDigest : Check → InvalidCause → Type 0
ByPcrDigest k why =
    (t : Quoted) × (values : List ℕ) × Attests k.evidence.quote t × HasValues k.evidence.quote values × (t.pcr_digest ≢ sha256 values) × (why ≡ PcrDigest)

-- 9. PCR 16 is not bound to the public key text: it is not what a reset PCR holds into which the hash of that text was extended.
-- That a key is bound so, and by this PCR, is this project's own rule.
abbrev pub ByBinding : Check → InvalidCause → Type 0
ByBinding k why =
    (values : List ℕ) × HasValues k.evidence.quote values × (value_at k.bank k.mask values 16 ≢ binding_of k.bank k.evidence.public) × (why ≡ Binding)

-- the first of rules 5 to 9 that applies, which look at what was signed
abbrev pub SignedRules : Check → InvalidCause → Type 0
SignedRules k = ByNonce k otherwise BySelection k otherwise ByPcrLength k otherwise ByPcrDigest k otherwise ByBinding k

-- the first of the nine that applies
abbrev pub QuoteRules : Check → InvalidCause → Type 0
QuoteRules k = ByForm k otherwise ByBank k otherwise ByAttest k otherwise BySignature k otherwise SignedRules k

-- none of the nine applies
abbrev pub IsSoundQuote : Check → Type 0
IsSoundQuote k = (why : InvalidCause) → ¬ (QuoteRules k why)

-- What is so where none applies: the quote text is that of an attestation and of PCR values; the evidence names the bank; the
-- key object said yes; and the attestation answers the nonce and is over these values, which are those of the mask's PCRs and
-- bind the public key text.
pub record MeetsRules (k : Check) (t : Quoted) (values : List ℕ) : Type 0 where
  pub attests : Attests k.evidence.quote t
  pub has_values : HasValues k.evidence.quote values
  pub bank : k.evidence.bank ≡ name_of k.bank
  pub signed : k.signed ≡ true
  pub nonce : t.extra ≡ k.nonce
  pub selection : OneSet t.selections (alg_of k.bank) k.mask
  pub sized : length values ≡ size_of k.bank * count_ones k.mask
  pub digest : t.pcr_digest ≡ sha256 values
  pub binding : value_at k.bank k.mask values 16 ≡ binding_of k.bank k.evidence.public

-- it is so of the quote of the evidence
abbrev pub IsGoodQuote : Check → Type 0
IsGoodQuote k = (t : Quoted) × (values : List ℕ) × MeetsRules k t values

-- what the nine rules find: the cause of the first that applies, or none where none does
abbrev pub FindsCause : Check → Option InvalidCause → Type 0
FindsCause k None = IsSoundQuote k
FindsCause k (Some why) = QuoteRules k why

-- the first of rules 1 to 3 that applies, where there is no signature to ask the key object about
abbrev pub UnreadRules : Check → InvalidCause → Type 0
UnreadRules k = ByForm k otherwise ByBank k otherwise ByAttest k

-- one of them decides, so that the key object is not asked
abbrev pub IsUnasked : Check → Type 0
IsUnasked k = (why : InvalidCause) × UnreadRules k why

-- Whether the quote is signed: no where the key object is not asked, and else what it answers for the attestation key,
-- the attestation and the signature of the quote text.
pub record IsAnswered (told : Option Relations) (ak : List ℕ) (k : Check) : Type 0 where
  pub unasked : IsUnasked k → k.signed ≡ false
  pub asked : ¬ (IsUnasked k) → (attest signature values : List ℕ) → IsQuoteText k.evidence.quote attest signature values → Answers told ak attest signature k.signed
