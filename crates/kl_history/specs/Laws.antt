-- What holds of every legal history.
use Rattle.std.specs.Prelude.{◌≡◌, ℕ, ◌<◌, ◌≤◌, ◌⊎◌, ◌↔◌, Bool, true, false, List, ◌∷◌, length, map, take, filter_map, Option, Some, None, is_some, option_and_then, slice_get, bytes_eq, ◌==◌}
use Rattle.std.specs.List.{range_with_len, list_any, IsDistinct}
use Rattle.kl_entry.specs.Entries.{EntryFields}
use Rattle.kl_quote.specs.declared.evidence.Evidence.{Evidence}
use Rattle.kl_states.specs.declared.op.Op.{Op}
use Rattle.kl_notice.specs.declared.notice.Notice.{Notice}
use Rattle.kl_states.specs.declared.outcome.Outcome.{Outcome as Delivery}
use Rattle.kl_states.specs.declared.outcome.Outcome.TheVariants as outcome
use Rattle.kl_states.specs.declared.verdict.Verdict.{Verdict as AnyVerdict}
use Rattle.kl_states.specs.declared.verdict.Verdict.TheVariants.{Pass}
use Rattle.kl_appraise.specs.declared.judged.Boot.{Boot}
use Rattle.kl_appraise.specs.Terms.{TermsFields}
use Rattle.kl_appraise.specs.QuoteRules.{IsUnasked}
use Rattle.kl_appraise.specs.ListRules.{Case, check_of}
use Rattle.kl_appraise.specs.declared.judged.Outcome.{Outcome}
use Rattle.kl_appraise.specs.declared.judged.Outcome.TheVariants.{Verdict as Judged}
use Rattle.kl_appraise.specs.declared.judged.Outcome.TheVariants as rules
use Rattle.kl_appraise.specs.Outcome.{IsOutcome}
use Rattle.kl_history.specs.declared.record.InstallWhy.{InstallWhy}
use Rattle.kl_history.specs.declared.record.InstallWhy.TheVariants.{Add}
use Rattle.kl_history.specs.declared.record.Record.{Record}
use Rattle.kl_history.specs.declared.record.Record.TheVariants.{Install, Begin, Verdict, Restart, Lost, Dropped, Release, Settled, Remove}
use Rattle.kl_history.specs.Records.{History, Past, past_of, is_open, is_unsettled, open_polls, open_releases, closes, settles, is_begin, is_release_of, belongs, own, generations, polls, releases_made}
use Rattle.kl_history.specs.LookBacks.{installed, came, losses, missed, Passing, last_pass}
use Rattle.kl_history.specs.Accepted.{IsNothing, SignsBoot, IsAccepted}
use Rattle.kl_history.specs.States.{is_current, is_live, ended, handed_for, PassedUnder, HasReached, IsDue, HasOp}
use Rattle.kl_history.specs.Legal.{agents, IsBusy}
use Rattle.kl_history.specs.Notices.{Failure, has_failed, failure, told_by, notices}

-- The record stands at this place of the history. Places count from 0.
abbrev pub StandsAt : History → ℕ → Record → Type 0
StandsAt H i r = slice_get H i ≡ Some r

-- what stands before a place
abbrev pub before : History → ℕ → Past
before H i = past_of (take i H)

-- ---- Numbers

-- at one place, and at no other
abbrev pub AtOnePlace : (ℕ → Type 0) → Type 0
AtOnePlace Is = (i : ℕ) × Is i × ((j : ℕ) → Is j → j ≡ i)

-- Each number from 1 to the last is drawn at one place, and no other number is drawn.
pub record AreDrawnOnce (last : ℕ) (IsDrawnAt : ℕ → ℕ → Type 0) : Type 0 where
  pub each : (n : ℕ) → 1 ≤ n → n ≤ last → AtOnePlace (IsDrawnAt n)
  pub none_else : (n i : ℕ) → IsDrawnAt n i → (1 ≤ n) × (n ≤ last)

-- the Install of a generation, the Begin of a poll and the Release of a number
abbrev pub IsInstalledAt : History → ℕ → ℕ → Type 0
IsInstalledAt H g i = (a : List ℕ) × (t : TermsFields) × (w : InstallWhy) × StandsAt H i (Install a g t w)

abbrev pub IsBegunAt : History → ℕ → ℕ → Type 0
IsBegunAt H p i = (a : List ℕ) × (g : ℕ) × (n : List ℕ) × (at : ℕ) × (from : ℕ) × StandsAt H i (Begin p a g n at from)

abbrev pub IsReleasedAt : History → ℕ → ℕ → Type 0
IsReleasedAt H n i = (a : List ℕ) × (g : ℕ) × (p : ℕ) × StandsAt H i (Release n a g p)

-- Each generation has one Install, each poll one Begin and each release one Release.
pub record NumbersAreDrawnOnce (H : History) : Type 0 where
  pub installs : AreDrawnOnce (generations (past_of H)) (IsInstalledAt H)
  pub begins : AreDrawnOnce (polls (past_of H)) (IsBegunAt H)
  pub releases : AreDrawnOnce (releases_made (past_of H)) (IsReleasedAt H)

-- ---- Ends

-- one record at most does this
abbrev pub IsDoneOnce : History → (Record → Bool) → Type 0
IsDoneOnce H does = (i j : ℕ) (r q : Record) → StandsAt H i r → StandsAt H j q → does r ≡ true → does q ≡ true → i ≡ j

-- A poll is closed once at most, and a release settled once at most; of one agent and generation one poll at most is open.
pub record EndsAreOne (H : History) : Type 0 where
  pub closed : (p : ℕ) → IsDoneOnce H (closes p)
  pub settled : (n : ℕ) → IsDoneOnce H (settles n)
  pub open_once : (a : List ℕ) (g p q : ℕ) → IsBusy (past_of H) a g p → IsBusy (past_of H) a g q → p ≡ q

-- ---- Verdicts

-- What was found at a place, of this poll's evidence, is the outcome of the appraisal rules over the whole list since boot:
-- what was accepted of the agent when the poll began, and then the reply's own entries; under the terms of the one
-- generation that the poll's Begin names, with its nonce.
pub record IsAppraised (H : History) (i p : ℕ) (e : Evidence) (signed : Bool) (o : Outcome) : Type 0 where
  pub case : Case
  -- the Begin of the poll
  pub begin_place : ℕ
  pub agent : List ℕ
  pub generation : ℕ
  pub at : ℕ
  pub begun : StandsAt H begin_place (Begin p agent generation case.nonce at case.from)
  pub earlier : begin_place < i
  -- the Install of that generation
  pub install_place : ℕ
  pub why : InstallWhy
  pub installed : StandsAt H install_place (Install agent generation case.terms why)
  pub first : install_place < begin_place
  -- what is appraised
  pub accepted : IsAccepted (own (before H begin_place) agent) case.prefix case.boot
  pub evidence : case.evidence ≡ e
  pub answer : case.signed ≡ signed
  pub unasked : IsUnasked (check_of case) → signed ≡ false
  pub outcome : IsOutcome case o

pub record AreAppraised (H : History) : Type 0 where
  pub verdicts : (i p : ℕ) (e : Evidence) (s : Bool) (v : AnyVerdict) (c : Bool) → StandsAt H i (Verdict p e s v c) → IsAppraised H i p e s (Judged v)
  pub restarts : (i p : ℕ) (e : Evidence) (s c : Bool) → StandsAt H i (Restart p e s c) → (s ≡ true) × IsAppraised H i p e s rules.Restart

-- ---- Releases

-- what decides anew whether the last finding of an agent is a pass: an Install, a current Verdict, a current Restart
abbrev pub decides_anew : Record → Bool
decides_anew (Install a g t w) = true
decides_anew (Verdict p e s v true) = true
decides_anew (Restart p e s true) = true
decides_anew _ = false

-- A release at a place stands behind a current Pass of a poll of that agent, under the generation that was installed then and
-- is installed still; nothing that stands between them decided anew.
pub record IsPassed (H : History) (i : ℕ) (a : List ℕ) (g p : ℕ) : Type 0 where
  pub verdict_place : ℕ
  pub evidence : Evidence
  pub signed : Bool
  pub cut : ℕ
  pub passed : StandsAt H verdict_place (Verdict p evidence signed (Pass cut) true)
  pub earlier : verdict_place < i
  -- the Begin of the poll
  pub begin_place : ℕ
  pub nonce : List ℕ
  pub at : ℕ
  pub from : ℕ
  pub begun : StandsAt H begin_place (Begin p a g nonce at from)
  pub first : begin_place < verdict_place
  -- the generation is current at the pass, and at the release
  pub at_pass : is_current (own (before H verdict_place) a) g ≡ true
  pub at_release : is_current (own (before H i) a) g ≡ true
  pub last : (j : ℕ) (r : Record) → verdict_place < j → j < i → StandsAt H j r → belongs (before H j) a r ≡ true → decides_anew r ≡ false

abbrev pub AreReleasedOnPasses : History → Type 0
AreReleasedOnPasses H = (i n : ℕ) (a : List ℕ) (g p : ℕ) → StandsAt H i (Release n a g p) → IsPassed H i a g p

-- no record between these two places adds the agent
abbrev pub IsNotAdded : History → List ℕ → ℕ → ℕ → Type 0
IsNotAdded H a j i = (k g : ℕ) (t : TermsFields) → j < k → k < i → ¬ (StandsAt H k (Install a g t Add))

-- the poll passed, at some place, by a quote that signs this boot
abbrev pub PassesUnder : History → ℕ → Boot → Type 0
PassesUnder H p boot =
    (k : ℕ) × (e : Evidence) × (s : Bool) × (cut : ℕ) × (c : Bool) × StandsAt H k (Verdict p e s (Pass cut) c) × SignsBoot e boot

-- Release m, at place j and for poll q, is over at place i, where V is released for poll p: it was settled between the two. Where
-- it arrived, current or not, p passed under no boot under which q did.
pub record IsOver (H : History) (j m q i p : ℕ) : Type 0 where
  pub place : ℕ
  pub end : Delivery
  pub current : Bool
  pub settled : StandsAt H place (Settled m end current)
  pub later : j < place
  pub earlier : place < i
  pub another_boot : end ≡ outcome.Arrived → (boot : Boot) → PassesUnder H q boot → ¬ (PassesUnder H p boot)

-- Of two releases to an agent, where it was not added again between them, the earlier is over at the later.
abbrev pub AreReleasedOnce : History → Type 0
AreReleasedOnce H = (j i m n : ℕ) (a : List ℕ) (h g q p : ℕ)
    → StandsAt H j (Release m a h q) → StandsAt H i (Release n a g p) → j < i → IsNotAdded H a j i → IsOver H j m q i p

-- ---- Failures

-- the failure that the record at a place brings, where it brings one
abbrev pub failure_at : History → ℕ → Option Failure
failure_at H i = option_and_then (failure (before H i)) (slice_get H i)

-- the failures of a history, in the order of their places
abbrev pub failures : History → List Failure
failures H = filter_map (failure_at H) (range_with_len 0 (length H))

-- the record brings an agent that was live to a state in which it has failed
pub record BringsDown (past : Past) (r : Record) (a : List ℕ) : Type 0 where
  pub was_live : is_live (own past a) ≡ true
  pub has_failed_now : has_failed (ended (own (r ∷ past) a)) ≡ true

-- a current verdict, a current loss, or the current end of a delivery
abbrev pub is_current_end : Record → Bool
is_current_end (Verdict p e s v true) = true
is_current_end (Lost p w true) = true
is_current_end (Settled n o true) = true
is_current_end _ = false

-- The notices tell the failures, one each, in order, and are numbered from 1. A failure is what brings a live agent to a state
-- in which it has failed, and a record that is not current is none.
pub record TellFailures (H : History) : Type 0 where
  pub each : map told_by (notices H) ≡ failures H
  pub numbered : map (λ (n : Notice). n.number) (notices H) ≡ range_with_len 1 (length (failures H))
  pub brings : (i : ℕ) (r : Record) (f : Failure) → StandsAt H i r → failure (before H i) r ≡ Some f → BringsDown (before H i) r f.agent × (is_current_end r ≡ true)
  pub brought : (i : ℕ) (r : Record) (a : List ℕ) → StandsAt H i r → BringsDown (before H i) r a → (f : Failure) × (failure (before H i) r ≡ Some f) × (f.agent ≡ a)

-- ---- What counts for nothing

-- What is installed of an agent, what ended its being polled, whether a poll of it began, its losses, its missed deliveries,
-- its last pass and what is accepted of it are as they were.
pub record AreKept (old new : Past) : Type 0 where
  pub terms : installed new ≡ installed old
  pub over : ended new ≡ ended old
  pub began : came is_begin new ≡ came is_begin old
  pub lost : losses new ≡ losses old
  pub late : missed new ≡ missed old
  pub pass : last_pass new ≡ last_pass old
  pub accepts : (entries : List EntryFields) (boot : Boot) → IsAccepted new entries boot ↔ IsAccepted old entries boot

-- An agent stands as it did: its state too, and whether V is due.
pub record IsAsBefore (old new : Past) : Type 0 where
  pub kept : AreKept old new
  pub due : IsDue new ↔ IsDue old
  pub state : (op : Option Op) → HasOp new op ↔ HasOp old op

-- a close of a poll that is not current, or that drops it, and the end of a delivery that is not current and no arrival, or
-- that withdraws it
abbrev pub counts_for_nothing : Record → Bool
counts_for_nothing (Verdict p e s v false) = true
counts_for_nothing (Restart p e s false) = true
counts_for_nothing (Lost p w false) = true
counts_for_nothing (Dropped p w) = true
counts_for_nothing (Settled n outcome.Missed false) = true
counts_for_nothing (Settled n (outcome.Withdrawn why) c) = true
counts_for_nothing _ = false

-- by the arrival of a release, V reaches this boot
abbrev pub ReachesBy : ℕ → Past → Boot → Type 0
ReachesBy n own boot = (p : ℕ) × (handed_for n own ≡ Some p) × PassedUnder p own boot

-- An agent stands as it did, but that V has now reached the boot of the pass for which this release was made. V stays due where
-- the last pass signs another boot, and then the state stays too.
pub record HasOnlyReached (n : ℕ) (old new : Past) : Type 0 where
  pub kept : AreKept old new
  pub reached : (boot : Boot) → HasReached new boot ↔ (ReachesBy n old boot ⊎ HasReached old boot)
  pub due : IsDue new ↔ (IsDue old × ((p : Passing) (boot : Boot) → last_pass old ≡ Some p → SignsBoot p.evidence boot → ¬ (ReachesBy n old boot)))
  pub state : (IsDue old → IsDue new) → (op : Option Op) → HasOp new op ↔ HasOp old op

pub record CountForNothing (past : Past) (a : List ℕ) : Type 0 where
  pub stale : (r : Record) → counts_for_nothing r ≡ true → IsAsBefore (own past a) (own (r ∷ past) a)
  pub arrived : (n : ℕ) → is_release_of past a n ≡ true → HasOnlyReached n (own past a) (own (Settled n outcome.Arrived false ∷ past) a)
  pub of_others : (r : Record) → belongs past a r ≡ false → IsAsBefore (own past a) (own (r ∷ past) a)

-- ---- What begins anew

-- Nothing stands: no entry is accepted, nothing was lost or missed, and there is no pass.
pub record IsAnew (own : Past) : Type 0 where
  pub accepts : (entries : List EntryFields) (boot : Boot) → IsAccepted own entries boot → IsNothing entries boot
  pub lost : losses own ≡ 0
  pub late : missed own ≡ 0
  pub pass : last_pass own ≡ None
  pub over : ended own ≡ None

pub record BeginAnew (past : Past) (a : List ℕ) : Type 0 where
  pub installs : (g : ℕ) (t : TermsFields) (w : InstallWhy) → IsAnew (own (Install a g t w ∷ past) a)
  pub removes : (entries : List EntryFields) (boot : Boot) → IsAccepted (own (Remove a ∷ past) a) entries boot → IsNothing entries boot

-- ---- What is one

-- One list and boot at most are accepted, and an agent is in one state at most.
pub record AreOne (own : Past) : Type 0 where
  pub accepted : (xs ys : List EntryFields) (b c : Boot) → IsAccepted own xs b → IsAccepted own ys c → (xs ≡ ys) × (b ≡ c)
  pub state : (x y : Option Op) → HasOp own x → HasOp own y → x ≡ y

-- ---- What is counted

-- So many are there of which this holds: a list without repeats has exactly these, and so many.
abbrev pub ThereAre : {X : Type 0} → (X → X → Bool) → (X → Bool) → ℕ → Type 0
ThereAre {X} same holds n = (items : List X) × IsDistinct same items × ((x : X) → list_any (same x) items ≡ holds x) × (length items ≡ n)

-- The counts that a difference gives are the numbers of the agents that are installed, of the open polls and of the open
-- releases. No more than 1,024 agents are installed.
pub record AreCounted (past : Past) : Type 0 where
  pub installed_agents : ThereAre bytes_eq (λ a. is_some (installed (own past a))) (agents past)
  pub few_agents : agents past ≤ 1024
  pub polls_open : ThereAre ◌==◌ (is_open past) (open_polls past)
  pub releases_open : ThereAre ◌==◌ (is_unsettled past) (open_releases past)
