-- The outcome of an appraisal: that of the first rule that applies.
use Rattle.std.specs.Prelude.{◌≡◌, ℕ, ◌+◌, Bool, Option, None, Some, List, [], length, ⊤}
use Rattle.kl_attest.specs.Grammar.{Quoted}
use Rattle.kl_entry.specs.Entries.{EntryFields}
use Rattle.kl_entry.specs.Lines.{lines_of}
use Rattle.kl_quote.specs.declared.evidence.Evidence.{Evidence}
use Rattle.kl_states.specs.declared.verdict.Verdict.{Verdict}
use Rattle.kl_states.specs.declared.verdict.Verdict.TheVariants.{Pass, Failed, Invalid}
use Rattle.kl_states.specs.declared.verdict.FailedCause.TheVariants.{Pcr, Line, ListFull, Unmatched, Entry}
use Rattle.kl_appraise.specs.declared.judged.Boot.{Boot}
use Rattle.kl_appraise.specs.Terms.{TermsFields}
use Rattle.kl_appraise.specs.Evidence.{Attests}
use Rattle.kl_appraise.specs.QuoteRules.{◌otherwise◌}
use Rattle.kl_appraise.specs.ListRules.{Case, Outcome, Judged, Restart, boot_of, WholeList, IsCut, ByQuote, ListRules}

-- rules 1 to 17
abbrev pub IsOutcome : Case → Outcome → Type 0
IsOutcome c = ByQuote c otherwise ListRules c

-- the outcome is this verdict
abbrev pub IsVerdict : Case → Verdict → Type 0
IsVerdict c v = IsOutcome c (Judged v)

-- a poll of the whole list: nothing was accepted before it
abbrev pub whole_case : TermsFields → List ℕ → Evidence → Bool → Case
whole_case terms nonce evidence signed = record { terms = terms; nonce = nonce; from = 0; prefix = []; boot = record { reset = 0; restart = 0 }; evidence = evidence; signed = signed }

-- the boot that goes with a verdict: that which the quote signs with a Pass, and none with another
abbrev pub HasBoot : List ℕ → Verdict → Option Boot → Type 0
HasBoot quote (Pass _) boot = (t : Quoted) × Attests quote t × (boot ≡ Some (boot_of t))
HasBoot quote (Failed _) boot = boot ≡ None
HasBoot quote (Invalid _) boot = boot ≡ None

-- the verdict is one that the list's replay decides: it is given by one of rules 15 to 17
abbrev pub IsReplayed : Verdict → Type 0
IsReplayed (Pass _) = ⊤
IsReplayed (Failed Unmatched) = ⊤
IsReplayed (Failed (Entry _ _)) = ⊤
IsReplayed (Failed (Pcr _)) = ⊥
IsReplayed (Failed (Line _ _)) = ⊥
IsReplayed (Failed ListFull) = ⊥
IsReplayed (Invalid _) = ⊥

-- How many entries are measured for an outcome: those of the reply up to the cut, all of them where there is no cut, and none
-- where a rule before those on the replay decides.
abbrev pub Measures : Case → Outcome → ℕ → Type 0
Measures c (Judged (Pass cut)) n = c.evidence.start + n ≡ cut
Measures c (Judged (Failed (Entry _ _))) n = (whole : List EntryFields) × (cut : ℕ) × WholeList c whole × IsCut c whole cut × (c.evidence.start + n ≡ cut)
Measures c (Judged (Failed Unmatched)) n = n ≡ length (lines_of c.evidence.list)
Measures c (Judged (Failed (Pcr _))) n = n ≡ 0
Measures c (Judged (Failed (Line _ _))) n = n ≡ 0
Measures c (Judged (Failed ListFull)) n = n ≡ 0
Measures c (Judged (Invalid _)) n = n ≡ 0
Measures c Restart n = n ≡ 0
