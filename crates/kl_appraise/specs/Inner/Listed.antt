-- What reading and replaying a measurement list answer.
use Rattle.std.specs.Prelude.{◌≡◌, ◌≢◌, ◌⊎◌, ℕ, ◌+◌, ◌-◌, ◌^◌, ◌<◌, ◌≤◌, Option, None, Some, List, length, map, take, All, ⊤}
use Rattle.kl_attest.specs.Grammar.{Quoted}
use Rattle.kl_bank.specs.declared.bank.Bank.{Bank}
use Rattle.kl_bank.specs.Banks.{size_of, zeros_of}
use Rattle.kl_entry.specs.Entries.{EntryFields}
use Rattle.kl_pcr.specs.Measured.{measured_of}
use Rattle.kl_pcr.specs.Replay.{folded, replay_of}
use Rattle.kl_pcr.specs.Values.{value_at}
use Rattle.kl_policy.specs.PolicyFields.{PolicyFields}
use Rattle.kl_policy.specs.Policy.{why_of, Allows, IsFirstBad}
use Rattle.kl_policy.specs.declared.why.Why.{Why}
use Rattle.kl_states.specs.declared.verdict.Verdict.{Verdict}
use Rattle.kl_states.specs.declared.verdict.Verdict.TheVariants.{Pass, Failed, Invalid}
use Rattle.kl_states.specs.declared.verdict.FailedCause.TheVariants as failed
use Rattle.kl_states.specs.declared.verdict.InvalidCause.TheVariants as invalid
use Rattle.kl_appraise.specs.declared.judged.Boot.{Boot}
use Rattle.kl_appraise.specs.declared.kept.Kept.{Kept}
use Rattle.kl_appraise.specs.declared.listed.ListFault.{ListFault}
use Rattle.kl_appraise.specs.declared.listed.ListFault.TheVariants.{Line, Memory}
use Rattle.kl_appraise.specs.declared.replayed.Base.{Base}
use Rattle.kl_appraise.specs.Terms.{TermsFields}
use Rattle.kl_appraise.specs.Evidence.{Attests}
use Rattle.kl_appraise.specs.ListRules.{Case, Outcome, Judged, Restart, IsFirstBadLine, ListRules, boot_of, entry_cause, list_limit}
use Rattle.kl_appraise.specs.Outcome.{Measures}
use Rattle.kl_appraise.specs.Kept.{from_of}
use Rattle.kl_appraise.specs.Shown.{PassesList}

-- ---- Lines

-- a fault names the first line that spells no entry; want of memory is free
abbrev pub IsListFault : List ℕ → ListFault → Type 0
IsListFault text (Line place f) = IsFirstBadLine text place f
IsListFault text Memory = ⊤

-- its place is one that a list in memory may have
abbrev pub HasSmallPlace : ListFault → Type 0
HasSmallPlace (Line place f) = place < 2 ^ 63
HasSmallPlace Memory = ⊤

-- ---- What a reply continues

-- the kept list ends where the reply begins, is of this boot, and replays to this value
abbrev pub Continues : Option Kept → ℕ → Boot → List ℕ → Type 0
Continues None start boot pcr = ⊥
Continues (Some k) start boot pcr = (k.count ≡ start) × (k.boot ≡ boot) × (k.pcr ≡ pcr)

-- the reply begins at the list's begin, or continues the kept list of this boot
pub record IsBase (bank : Bank) (kept : Option Kept) (start : ℕ) (boot : Boot) (base : Base) : Type 0 where
  pub count : base.count ≡ start
  pub sized : length base.pcr ≡ size_of bank
  pub behind : ((start ≡ 0) × (base.pcr ≡ zeros_of bank)) ⊎ Continues kept start boot base.pcr

-- the kept list is of another boot
abbrev pub IsOtherBoot : Option Kept → Boot → Type 0
IsOtherBoot None boot = ⊥
IsOtherBoot (Some k) boot = k.boot ≢ boot

-- it does neither: by rule 10 or by rule 11
abbrev pub IsNoBase : Option Kept → ℕ → Boot → Outcome → Type 0
IsNoBase kept start boot (Judged (Invalid invalid.Start)) = (start ≢ 0) × (start ≢ from_of kept)
IsNoBase kept start boot Restart = (0 < start) × (start ≡ from_of kept) × IsOtherBoot kept boot
IsNoBase kept start boot _ = ⊥

-- In a case: neither of the two rules applies, and the accepted entries that the reply begins behind are as many as it says, replay to
-- this value, and the policy allows each.
pub record IsBehind (c : Case) (pcr : List ℕ) : Type 0 where
  pub start : (c.evidence.start ≡ 0) ⊎ (c.evidence.start ≡ c.from)
  pub boot : (t : Quoted) → Attests c.evidence.quote t → 0 < c.evidence.start → boot_of t ≡ c.boot
  pub count : length (take c.evidence.start c.prefix) ≡ c.evidence.start
  pub value : pcr ≡ replay_of c.terms.bank (take c.evidence.start c.prefix)
  pub allowed : All (Allows c.terms.policy) (take c.evidence.start c.prefix)

-- ---- A walk over entries, which are extended onto a value

-- the first so many entries give the quoted value
abbrev pub GivesValue : Bank → Base → List EntryFields → List ℕ → ℕ → Type 0
GivesValue bank base entries quoted n = folded bank base.pcr (map (measured_of bank) (take n entries)) ≡ quoted

-- how many entries a list has at least that may be accepted: one, with those that it continues
abbrev pub fewest : Base → ℕ
fewest base = 1 - base.count

-- no beginning of so many to `most` entries gives this value
abbrev pub NoneGives : Bank → Base → List EntryFields → List ℕ → ℕ → Type 0
NoneGives bank base entries quoted most = (n : ℕ) → fewest base ≤ n → n ≤ most → ¬ (GivesValue bank base entries quoted n)

-- the shortest beginning of so many that gives this value has n entries
pub record IsShortest (bank : Bank) (base : Base) (entries : List EntryFields) (quoted : List ℕ) (n : ℕ) : Type 0 where
  pub some : fewest base ≤ n
  pub inside : n ≤ length entries
  pub gives : GivesValue bank base entries quoted n
  pub least : (m : ℕ) → fewest base ≤ m → m < n → ¬ (GivesValue bank base entries quoted m)

-- a reason at a place
abbrev pub at_place : ℕ → Option Why → Option (ℕ × Why)
at_place place None = None
at_place place (Some why) = Some (place, why)

-- the first entry that is not allowed, once the entry at this place is looked at too
abbrev pub with_next : PolicyFields → Option (ℕ × Why) → ℕ → EntryFields → Option (ℕ × Why)
with_next policy None place e = at_place place (why_of policy e)
with_next policy (Some found) place e = Some found

-- the verdict on entries of which none is missing, by rules 15 to 17, and how many of them are measured for it
abbrev pub JudgesEntries : TermsFields → Base → List EntryFields → List ℕ → Verdict → ℕ → Type 0
JudgesEntries t base entries quoted (Pass cut) n = (cut ≡ base.count + n) × IsShortest t.bank base entries quoted n × IsFirstBad t.policy (take n entries) None
JudgesEntries t base entries quoted (Failed failed.Unmatched) n = (n ≡ length entries) × NoneGives t.bank base entries quoted n
JudgesEntries t base entries quoted (Failed (failed.Entry place cause)) n =
    (at : ℕ) × (why : Why) × (place ≡ base.count + at) × (cause ≡ entry_cause why)
    × IsShortest t.bank base entries quoted n × IsFirstBad t.policy (take n entries) (Some (at, why))
JudgesEntries t base entries quoted (Failed (failed.Pcr _)) n = ⊥
JudgesEntries t base entries quoted (Failed (failed.Line _ _)) n = ⊥
JudgesEntries t base entries quoted (Failed failed.ListFull) n = ⊥
JudgesEntries t base entries quoted (Invalid _) n = ⊥

-- ---- The rules beyond the quote

-- a pass is one of a list that is so beside these values
abbrev pub PassesBeside : Case → Quoted → List ℕ → Outcome → Type 0
PassesBeside c t values (Judged (Pass cut)) = PassesList c t values cut
PassesBeside c t values (Judged (Failed _)) = ⊤
PassesBeside c t values (Judged (Invalid _)) = ⊤
PassesBeside c t values Restart = ⊤

-- the outcome of the first of rules 10 to 17 that applies, what a pass shows, and how many entries are measured
pub record JudgesList (c : Case) (t : Quoted) (values : List ℕ) (o : Outcome) (n : ℕ) : Type 0 where
  pub rules : ListRules c o
  pub shows : PassesBeside c t values o
  pub cost : Measures c o n

-- a list that passes has an entry, and not too many
abbrev pub IsWithin : Outcome → Type 0
IsWithin (Judged (Pass cut)) = (1 ≤ cut) × (cut ≤ list_limit)
IsWithin (Judged (Failed _)) = ⊤
IsWithin (Judged (Invalid _)) = ⊤
IsWithin Restart = ⊤

-- what is kept of a list that passes, of this boot and beside these values
abbrev pub next_with : TermsFields → Boot → List ℕ → Outcome → Option Kept
next_with t boot values (Judged (Pass cut)) = Some (record { boot = boot; count = cut; pcr = value_at t.bank t.mask values 10 })
next_with t boot values (Judged (Failed _)) = None
next_with t boot values (Judged (Invalid _)) = None
next_with t boot values Restart = None

-- its boot
abbrev pub boot_in : Option Kept → Option Boot
boot_in None = None
boot_in (Some k) = Some k.boot
