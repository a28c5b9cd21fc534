-- What is kept of an accepted list, so that a poll may continue it: its boot, how many entries it has and what they replay to.
use Rattle.std.specs.Prelude.{◌≡◌, ℕ, ◌≤◌, Bool, Option, None, Some, List, [], length, All}
use Rattle.kl_attest.specs.Grammar.{Quoted}
use Rattle.kl_bank.specs.declared.bank.Bank.{Bank}
use Rattle.kl_bank.specs.Banks.{size_of}
use Rattle.kl_entry.specs.Entries.{EntryFields}
use Rattle.kl_pcr.specs.Replay.{replay_of}
use Rattle.kl_pcr.specs.Values.{value_at}
use Rattle.kl_policy.specs.Policy.{Allows}
use Rattle.kl_quote.specs.declared.evidence.Evidence.{Evidence}
use Rattle.kl_states.specs.declared.verdict.Verdict.TheVariants.{Pass, Failed, Invalid}
use Rattle.kl_appraise.specs.declared.judged.Boot.{Boot}
use Rattle.kl_appraise.specs.declared.kept.Kept.{Kept}
use Rattle.kl_appraise.specs.Terms.{TermsFields}
use Rattle.kl_appraise.specs.Evidence.{Attests, HasValues}
use Rattle.kl_appraise.specs.ListRules.{Case, Outcome, Judged, Restart, boot_of, list_limit}

-- it is of a list with an entry, of one that may be accepted, in this bank
pub record IsKept (bank : Bank) (k : Kept) : Type 0 where
  pub some : 1 ≤ k.count
  pub short : k.count ≤ list_limit
  pub sized : length k.pcr ≡ size_of bank

-- where a poll that continues it begins
abbrev pub from_of : Option Kept → ℕ
from_of None = 0
from_of (Some k) = k.count

-- it stands for these entries, of this boot: the terms' policy allows each
pub record StandsFor (k : Kept) (prefix : List EntryFields) (boot : Boot) (terms : TermsFields) : Type 0 where
  pub some : 1 ≤ length prefix
  pub count : k.count ≡ length prefix
  pub pcr : k.pcr ≡ replay_of terms.bank prefix
  pub same_boot : k.boot ≡ boot
  pub allowed : All (Allows terms.policy) prefix

-- nothing stands for no entry
abbrev pub Stands : Option Kept → List EntryFields → Boot → TermsFields → Type 0
Stands None prefix boot terms = prefix ≡ []
Stands (Some k) prefix boot terms = StandsFor k prefix boot terms

-- a poll that continues accepted entries, of this boot, of which this is kept
abbrev pub kept_case : TermsFields → List ℕ → Option Kept → List EntryFields → Boot → Evidence → Bool → Case
kept_case terms nonce kept prefix boot evidence signed =
    record { terms = terms; nonce = nonce; from = from_of kept; prefix = prefix; boot = boot; evidence = evidence; signed = signed }

-- it is so in each case in which what is kept stands for the accepted entries
abbrev pub InEachCase : TermsFields → List ℕ → Option Kept → Evidence → Bool → (Case → Type 0) → Type 0
InEachCase terms nonce kept evidence signed P =
    (prefix : List EntryFields) (boot : Boot) → Stands kept prefix boot terms → P (kept_case terms nonce kept prefix boot evidence signed)

-- what is kept after an outcome: at a Pass the boot that the quote signs, the cut and the quoted PCR 10, and else nothing
abbrev pub IsNext : TermsFields → List ℕ → Outcome → Option Kept → Type 0
IsNext terms quote (Judged (Pass cut)) next =
    (t : Quoted) × (values : List ℕ) × Attests quote t × HasValues quote values
    × (next ≡ Some (record { boot = boot_of t; count = cut; pcr = value_at terms.bank terms.mask values 10 }))
IsNext terms quote (Judged (Failed _)) next = next ≡ None
IsNext terms quote (Judged (Invalid _)) next = next ≡ None
IsNext terms quote Restart next = next ≡ None
