-- The rules that look at where the list begins, at static PCRs and at the whole measurement list since boot.
use Rattle.std.specs.Prelude.{◌≡◌, ◌≢◌, ℕ, ◌+◌, ◌<◌, ◌≤◌, Bool, List, ◌∷◌, ◌++◌, length, take, Some, All}
use Rattle.kl_attest.specs.Grammar.{Quoted}
use Rattle.kl_entry.specs.declared.fault.LineFault.{LineFault}
use Rattle.kl_entry.specs.declared.fault.LineFault.TheVariants as fault
use Rattle.kl_entry.specs.Entries.{EntryFields}
use Rattle.kl_entry.specs.Lines.{lines_of, AreEntries, Spells, IsLineFault}
use Rattle.kl_pcr.specs.Replay.{replay_of}
use Rattle.kl_pcr.specs.Statics.{IsFirstWrong}
use Rattle.kl_pcr.specs.Values.{value_at}
use Rattle.kl_policy.specs.Policy.{IsFirstBad}
use Rattle.kl_policy.specs.declared.why.Why.{Why}
use Rattle.kl_policy.specs.declared.why.Why.TheVariants as reason
use Rattle.kl_quote.specs.declared.evidence.Evidence.{Evidence}
use Rattle.kl_states.specs.declared.verdict.Verdict.TheVariants.{Pass, Failed, Invalid}
use Rattle.kl_states.specs.declared.verdict.FailedCause.TheVariants.{Pcr, Line, ListFull, Unmatched, Entry}
use Rattle.kl_states.specs.declared.verdict.InvalidCause.{InvalidCause}
use Rattle.kl_states.specs.declared.verdict.InvalidCause.TheVariants.{Start}
use Rattle.kl_states.specs.declared.verdict.LineCause.{LineCause}
use Rattle.kl_states.specs.declared.verdict.LineCause.TheVariants as line
use Rattle.kl_states.specs.declared.verdict.EntryCause.{EntryCause}
use Rattle.kl_states.specs.declared.verdict.EntryCause.TheVariants as entry
use Rattle.kl_appraise.specs.declared.judged.Boot.{Boot}
-- an outcome is a verdict, which these definitions call `Judged`, or the finding that the machine booted anew
pub use Rattle.kl_appraise.specs.declared.judged.Outcome.{Outcome}
pub use Rattle.kl_appraise.specs.declared.judged.Outcome.TheVariants.{Verdict as Judged, Restart}
use Rattle.kl_appraise.specs.Terms.{TermsFields}
use Rattle.kl_appraise.specs.Evidence.{Check, check_under, Attests, HasValues}
use Rattle.kl_appraise.specs.QuoteRules.{◌otherwise◌, QuoteRules}

-- What is appraised: the terms, the poll's nonce, where the poll asked the agent to begin, the entries that were
-- accepted before it and the boot that their quote signed, the evidence, and whether the key object said yes.
pub record Case : Type 0 where
  pub terms : TermsFields
  pub nonce : List ℕ
  pub from : ℕ
  pub prefix : List EntryFields
  pub boot : Boot
  pub evidence : Evidence
  pub signed : Bool

abbrev pub check_of : Case → Check
check_of c = check_under c.terms c.nonce c.evidence c.signed

-- the most entries that a list may have
abbrev pub list_limit : ℕ
list_limit = 131072

abbrev pub boot_of : Quoted → Boot
boot_of t = record { reset = t.reset; restart = t.restart }

abbrev pub line_cause : LineFault → LineCause
line_cause fault.TooLong = line.TooLong
line_cause fault.Pcr = line.Pcr
line_cause fault.HashText = line.HashText
line_cause fault.Template = line.Template
line_cause fault.Digest = line.Digest
line_cause fault.Path = line.Path

abbrev pub entry_cause : Why → EntryCause
entry_cause reason.Violation = entry.Violation
entry_cause reason.Inconsistent = entry.Inconsistent
entry_cause reason.Unknown = entry.Unknown
entry_cause reason.Digest = entry.Digest

-- the whole list since boot: the accepted entries that the reply begins behind, and then those of the reply
abbrev pub Continues : List EntryFields → Evidence → List EntryFields → Type 0
Continues prefix e whole = (entries : List EntryFields) × AreEntries e.list entries × (whole ≡ take e.start prefix ++ entries)

abbrev pub WholeList : Case → List EntryFields → Type 0
WholeList c whole = Continues c.prefix c.evidence whole

-- a place where the list may be cut: at or behind the reply's start, and behind at least one entry
pub record IsPlace (c : Case) (whole : List EntryFields) (cut : ℕ) : Type 0 where
  pub behind : c.evidence.start ≤ cut
  pub some : 1 ≤ cut
  pub inside : cut ≤ length whole

-- the first entries, so many, replay to the quoted PCR 10
abbrev pub Replays : Case → List ℕ → List EntryFields → ℕ → Type 0
Replays c values whole cut = replay_of c.terms.bank (take cut whole) ≡ value_at c.terms.bank c.terms.mask values 10

-- the least place up to which the list replays to the quoted PCR 10
pub record IsCut (c : Case) (whole : List EntryFields) (cut : ℕ) : Type 0 where
  pub place : IsPlace c whole cut
  pub replays : (values : List ℕ) → HasValues c.evidence.quote values → Replays c values whole cut
  pub least : (values : List ℕ) (less : ℕ) → HasValues c.evidence.quote values → IsPlace c whole less → less < cut → ¬ (Replays c values whole less)

-- the first line that spells no entry
pub record IsFirstBadLine (text : List ℕ) (place : ℕ) (f : LineFault) : Type 0 where
  pub before : List (List ℕ)
  pub line : List ℕ
  pub after : List (List ℕ)
  pub cut : lines_of text ≡ before ++ line ∷ after
  pub counted : length before ≡ place
  pub good : All (λ l. (e : EntryFields) × Spells l e) before
  pub bad : IsLineFault line f

-- 1 to 9, by the quote alone
abbrev pub ByQuote : Case → Outcome → Type 0
ByQuote c o = (why : InvalidCause) × QuoteRules (check_of c) why × (o ≡ Judged (Invalid why))

-- 10. The reply begins neither at the list's begin nor where the poll asked.
abbrev pub ByStart : Case → Outcome → Type 0
ByStart c o = (c.evidence.start ≢ 0) × (c.evidence.start ≢ c.from) × (o ≡ Judged (Invalid Start))

-- 11. The reply continues a list of another boot.
abbrev pub ByBoot : Case → Outcome → Type 0
ByBoot c o = (0 < c.evidence.start) × (t : Quoted) × Attests c.evidence.quote t × (boot_of t ≢ c.boot) × (o ≡ Restart)

-- 12. A static PCR has a value that is not allowed: the least such PCR.
abbrev pub ByPcr : Case → Outcome → Type 0
ByPcr c o =
    (values : List ℕ) × (n : ℕ) × HasValues c.evidence.quote values
    × IsFirstWrong c.terms.bank c.terms.mask values c.terms.statics (Some n) × (o ≡ Judged (Failed (Pcr n)))

-- 13. A line of the reply is no entry: the first such line.
abbrev pub ByLine : Case → Outcome → Type 0
ByLine c o = (place : ℕ) × (f : LineFault) × IsFirstBadLine c.evidence.list place f × (o ≡ Judged (Failed (Line (c.evidence.start + place) (line_cause f))))

-- 14. The list is too long.
abbrev pub ByListFull : Case → Outcome → Type 0
ByListFull c o = (list_limit < c.evidence.start + length (lines_of c.evidence.list)) × (o ≡ Judged (Failed ListFull))

-- 15. No beginning of the list, of at least one entry, replays to the quoted PCR 10.
abbrev pub ByUnmatched : Case → Outcome → Type 0
ByUnmatched c o = ((whole : List EntryFields) (cut : ℕ) → WholeList c whole → ¬ (IsCut c whole cut)) × (o ≡ Judged (Failed Unmatched))

-- 16. The policy does not allow an entry before the cut: the first such entry.
abbrev pub ByEntry : Case → Outcome → Type 0
ByEntry c o =
    (whole : List EntryFields) × (cut : ℕ) × (place : ℕ) × (why : Why) × WholeList c whole × IsCut c whole cut
    × IsFirstBad c.terms.policy (take cut whole) (Some (place, why)) × (o ≡ Judged (Failed (Entry place (entry_cause why))))

-- 17. Otherwise the list up to the cut passes.
abbrev pub ByPass : Case → Outcome → Type 0
ByPass c o = (whole : List EntryFields) × (cut : ℕ) × WholeList c whole × IsCut c whole cut × (o ≡ Judged (Pass cut))

-- the first of rules 10 to 17 that applies, which look beyond the quote
abbrev pub ListRules : Case → Outcome → Type 0
ListRules c = ByStart c otherwise ByBoot c otherwise ByPcr c otherwise ByLine c otherwise ByListFull c otherwise ByUnmatched c otherwise ByEntry c otherwise ByPass c
