-- What the calls that release V, and settle what was released, answer, by the records that they found, and which record each
-- makes.
use Rattle.std.specs.Prelude.{◌≡◌, ◌==◌, ℕ, true, false, if◌then◌else◌, List, [], ◌∷◌, Option, Some, None, Result, Ok, Err, ⊤}
use Rattle.kl_states.specs.declared.op.Op.{Op}
use Rattle.kl_states.specs.declared.outcome.Outcome.{Outcome}
use Rattle.kl_states.specs.Ops.{is_owed}
use Rattle.kl_quote.specs.declared.evidence.Evidence.{Evidence}
use Rattle.kl_appraise.specs.Terms.{TermsFields}
use Rattle.kl_history.specs.declared.record.Record.{Record}
use Rattle.kl_history.specs.declared.record.Record.TheVariants.{Verdict, Release, Settled}
use Rattle.kl_history.specs.Records.{Past, handing_of, is_unsettled, terms_of, own}
use Rattle.kl_history.specs.LookBacks.{installed}
use Rattle.kl_history.specs.States.{handed_for, is_current, HasOp}
use Rattle.kl_history.specs.Legal.{HasRoom}
use Rattle.kl_history.specs.Releases.{MayRelease}
use Rattle.kl_core.specs.declared.settlement.Settlement.{Settlement}
use Rattle.kl_core.specs.declared.refusal.Refusal.{Refusal}
use Rattle.kl_core.specs.declared.refusal.Refusal.TheVariants.{NoAgent, WrongState, Busy, NoRelease, JournalRecords, Memory}

-- ---- Shares

-- a share: the release, the agent, the generation that was installed, the poll whose pass it is released on, V, the public key
-- that V is sealed to, and where the agent is reached
pub record ShareFields : Type 0 where
  pub number : ℕ
  pub agent : List ℕ
  pub generation : ℕ
  pub poll : ℕ
  pub v : List ℕ
  pub public : List ℕ
  pub contact : List ℕ

-- the evidence of the Verdict that closed a poll
abbrev pub evidence_of : Past → ℕ → Option Evidence
evidence_of [] p = None
evidence_of (Verdict q e s v c ∷ earlier) p = if p == q then Some e else evidence_of earlier p
evidence_of (_ ∷ earlier) p = evidence_of earlier p

-- The share that its release gave: what the Release names, V and the contact of the terms of that generation, and the public
-- key of the evidence of that poll.
pub record IsGivenShare (past : Past) (s : ShareFields) : Type 0 where
  pub released : handing_of past s.number ≡ Some (record { agent = s.agent; generation = s.generation; poll = s.poll })
  pub terms : TermsFields
  pub under : terms_of past s.generation ≡ Some terms
  pub v : terms.v ≡ Some s.v
  pub contact : terms.contact ≡ s.contact
  pub evidence : Evidence
  pub passed : evidence_of past s.poll ≡ Some evidence
  pub public : evidence.public ≡ s.public

-- the share of a release that is not settled
abbrev pub IsOpenShare : Past → ShareFields → Type 0
IsOpenShare past s = (is_unsettled past s.number ≡ true) × IsGivenShare past s

-- ---- release

-- this release of the agent, made since its last Add, is not settled
abbrev pub IsAwaited : Past → List ℕ → ℕ → Type 0
IsAwaited past a n = (p : ℕ) × (handed_for n (own past a) ≡ Some p) × (is_unsettled past n ≡ true)

-- the agent is in a state in which V is owed
abbrev pub IsOwed : Past → List ℕ → Type 0
IsOwed past a = (op : Op) × HasOp (own past a) (Some op) × (is_owed op ≡ true)

-- and no release to it is awaited
abbrev pub MayHand : Past → List ℕ → Type 0
MayHand past a = IsOwed past a × ((n : ℕ) → ¬ (IsAwaited past a n))

abbrev pub RefusesRelease : Past → List ℕ → Refusal → Type 0
RefusesRelease past a NoAgent = installed (own past a) ≡ None
RefusesRelease past a (WrongState op) = HasOp (own past a) (Some op) × (is_owed op ≡ false)
RefusesRelease past a (Busy n) = IsOwed past a × IsAwaited past a n
RefusesRelease past a JournalRecords = MayHand past a × (¬ (HasRoom past 2))
RefusesRelease past a Memory = ⊤
RefusesRelease past a _ = ⊥

-- the record that gives this share
abbrev pub release_of : ShareFields → Record
release_of s = Release s.number s.agent s.generation s.poll

-- The share is the agent's, and its record meets the release rule. From then on it is the one that its own Release gave, and is
-- not settled.
pub record Gives (a : List ℕ) (s : ShareFields) (past : Past) : Type 0 where
  pub agent : s.agent ≡ a
  pub rule : MayRelease past s.number s.agent s.generation s.poll
  pub room : HasRoom past 2
  pub given : IsGivenShare (release_of s ∷ past) s
  pub unsettled : is_unsettled (release_of s ∷ past) s.number ≡ true

-- a share, or a refusal
abbrev pub Releases : List ℕ → Result ShareFields Refusal → Past → Type 0
Releases a (Ok s) past = Gives a s past
Releases a (Err why) past = RefusesRelease past a why

abbrev pub release_makes : Result ShareFields Refusal → Past → List Record
release_makes (Ok s) past = release_of s ∷ []
release_makes (Err why) past = []

-- ---- settle

-- What a settlement tells: the release and its outcome, whether the generation of its Release was installed and the agent live,
-- and the state of the agent once the record of it stands.
pub record IsSettlement (past : Past) (s : ShareFields) (o : Outcome) (x : Settlement) : Type 0 where
  pub number : x.number ≡ s.number
  pub outcome : x.outcome ≡ o
  pub now : x.current ≡ is_current (own past s.agent) s.generation
  pub state : HasOp (own (Settled s.number o x.current ∷ past) s.agent) x.op

abbrev pub settle_makes : ShareFields → Outcome → Result Settlement (Refusal × ShareFields) → Past → List Record
settle_makes s o (Ok x) past = Settled s.number o x.current ∷ []
settle_makes s o (Err e) past = []

-- by a share that its release gave: done where that is not settled; else the share is handed back
abbrev pub OwnSettles : ShareFields → Outcome → Result Settlement (Refusal × ShareFields) → Past → Type 0
OwnSettles s o (Ok x) past = (is_unsettled past s.number ≡ true) × IsSettlement past s o x
OwnSettles s o (Err e) past = (is_unsettled past s.number ≡ false) × (e ≡ (NoRelease s.number, s))

-- by any share: done where it is that of a release that is not settled
abbrev pub Settles : ShareFields → Outcome → Result Settlement (Refusal × ShareFields) → Past → Type 0
Settles s o (Ok x) past = IsOpenShare past s × IsSettlement past s o x
Settles s o (Err e) past = (¬ (IsOpenShare past s)) × (e ≡ (NoRelease s.number, s))
