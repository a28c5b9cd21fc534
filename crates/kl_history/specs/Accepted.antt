-- The measurement list that is accepted of an agent since its machine booted.
use Rattle.std.specs.Prelude.{◌≡◌, ℕ, ◌==◌, true, List, [], ◌∷◌, take, Option, Some, None, MatchBool}
use Rattle.kl_attest.specs.Grammar.{Quoted}
use Rattle.kl_entry.specs.Entries.{EntryFields}
use Rattle.kl_quote.specs.declared.evidence.Evidence.{Evidence}
use Rattle.kl_states.specs.declared.verdict.Verdict.TheVariants.{Pass}
use Rattle.kl_appraise.specs.declared.judged.Boot.{Boot}
use Rattle.kl_appraise.specs.Evidence.{Attests}
use Rattle.kl_appraise.specs.ListRules.{boot_of, Continues}
use Rattle.kl_history.specs.declared.record.Record.TheVariants.{Install, Begin, Verdict, Restart, Remove}
use Rattle.kl_history.specs.Records.{Past}

-- the boot that stands for none
abbrev pub no_boot : Boot
no_boot = record { reset = 0; restart = 0 }

-- nothing is accepted
abbrev pub IsNothing : List EntryFields → Boot → Type 0
IsNothing entries boot = (entries ≡ []) × (boot ≡ no_boot)

-- the quote signs this boot
abbrev pub SignsBoot : Evidence → Boot → Type 0
SignsBoot e boot = (t : Quoted) × Attests e.quote t × (boot ≡ boot_of t)

-- A pass of the whole list up to a cut: the whole list is the entries that the reply begins behind, of those accepted when
-- the poll began, and then the reply's own.
pub record IsPassOf (prefix : List EntryFields) (e : Evidence) (cut : ℕ) (entries : List EntryFields) (boot : Boot) : Type 0 where
  pub whole : List EntryFields
  pub continues : Continues prefix e whole
  pub front : entries ≡ take cut whole
  pub signs : SignsBoot e boot

-- What is accepted of an agent, and the boot of its machine, by its own records: nothing after an Install, a Remove or a
-- current Restart, and after a current Pass the whole list up to its cut. Asked of a poll, it is what was accepted when
-- that began.
unfoldable pub HasAccepted : Option ℕ → Past → List EntryFields → Boot → Type 0
HasAccepted poll [] entries boot = IsNothing entries boot
HasAccepted None (Install a g t w ∷ earlier) entries boot = IsNothing entries boot
HasAccepted None (Remove a ∷ earlier) entries boot = IsNothing entries boot
HasAccepted None (Restart p e s true ∷ earlier) entries boot = IsNothing entries boot
HasAccepted None (Verdict p e s (Pass cut) true ∷ earlier) entries boot =
    (prefix : List EntryFields) × (old : Boot) × HasAccepted (Some p) earlier prefix old × IsPassOf prefix e cut entries boot
HasAccepted None (_ ∷ earlier) entries boot = HasAccepted None earlier entries boot
HasAccepted (Some p) (Begin q a g n at from ∷ earlier) entries boot =
    MatchBool (p == q) (HasAccepted None earlier entries boot) (HasAccepted (Some p) earlier entries boot)
HasAccepted (Some p) (_ ∷ earlier) entries boot = HasAccepted (Some p) earlier entries boot

-- what is accepted now
abbrev pub IsAccepted : Past → List EntryFields → Boot → Type 0
IsAccepted own entries boot = HasAccepted None own entries boot

-- what was accepted when the poll began
abbrev pub WasAccepted : ℕ → Past → List EntryFields → Boot → Type 0
WasAccepted p own entries boot = HasAccepted (Some p) own entries boot
