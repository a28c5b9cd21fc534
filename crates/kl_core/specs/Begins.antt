-- What a call that begins a poll answers, by the records that it found, and which record it makes.
use Rattle.std.specs.Prelude.{◌≡◌, ℕ, ◌+◌, true, List, [], ◌∷◌, Some, None, Result, Ok, Err, ⊤}
use Rattle.kl_appraise.specs.Terms.{TermsFields}
use Rattle.kl_incr.specs.Kept.{TicketFields}
use Rattle.kl_appraise.specs.Kept.{from_of}
use Rattle.kl_history.specs.declared.record.Record.{Record}
use Rattle.kl_history.specs.declared.record.Record.TheVariants.{Begin}
use Rattle.kl_history.specs.Records.{Past, own, is_open, polls}
use Rattle.kl_history.specs.LookBacks.{Installed, installed}
use Rattle.kl_history.specs.States.{ended}
use Rattle.kl_history.specs.Legal.{IsBusy, HasRoom, HasBytes}
use Rattle.kl_core.specs.declared.refusal.Refusal.{Refusal}
use Rattle.kl_core.specs.declared.refusal.Refusal.TheVariants.{NoAgent, WrongState, Busy, JournalRecords, JournalBytes, Memory}
use Rattle.kl_core.specs.Endings.{HasEnded}
use Rattle.kl_core.specs.Tickets.{IsGiven}

-- The agent is installed with this generation and these terms, and live, and no poll of it is open that was begun under the
-- installed generation.
pub record IsIdle (past : Past) (a : List ℕ) (g : ℕ) (t : TermsFields) : Type 0 where
  pub with : installed (own past a) ≡ Some (record { generation = g; terms = t })
  pub live : ended (own past a) ≡ None
  pub idle : (q : ℕ) → ¬ (IsBusy past a g q)

-- the agent may be polled
abbrev pub MayPoll : Past → List ℕ → Type 0
MayPoll past a = (g : ℕ) × (t : TermsFields) × IsIdle past a g t

-- this poll of the agent is open, and was begun under the installed generation
abbrev pub IsPolled : Past → List ℕ → ℕ → Type 0
IsPolled past a p = (i : Installed) × (installed (own past a) ≡ Some i) × (ended (own past a) ≡ None) × IsBusy past a i.generation p

abbrev pub RefusesBegin : Past → List ℕ → Refusal → Type 0
RefusesBegin past a NoAgent = installed (own past a) ≡ None
RefusesBegin past a (WrongState op) = HasEnded past a (WrongState op)
RefusesBegin past a (Busy p) = IsPolled past a p
RefusesBegin past a JournalRecords = MayPoll past a × (¬ (HasRoom past 2))
RefusesBegin past a JournalBytes = MayPoll past a × HasRoom past 2 × (¬ (HasBytes past 16777216))
RefusesBegin past a Memory = ⊤
RefusesBegin past a _ = ⊥

-- the record that gives this ticket at a moment
abbrev pub begin_of : TicketFields → ℕ → Record
begin_of t at = Begin t.poll t.agent t.generation t.nonce at (from_of t.kept)

-- The ticket is of the next poll, under what the agent is installed with, and nothing is kept of an accepted list. From then
-- on it is the one that its own Begin gave, and its poll is open.
pub record Begins (a n : List ℕ) (at : ℕ) (t : TicketFields) (past : Past) : Type 0 where
  pub next : t.poll ≡ polls past + 1
  pub agent : t.agent ≡ a
  pub nonce : t.nonce ≡ n
  pub kept : t.kept ≡ None
  pub idle : IsIdle past a t.generation t.terms
  pub room : HasRoom past 2
  pub bytes : HasBytes past 16777216
  pub given : IsGiven (begin_of t at ∷ past) t
  pub opened : is_open (begin_of t at ∷ past) t.poll ≡ true

-- a ticket, or a refusal
abbrev pub BeginAnswers : List ℕ → List ℕ → ℕ → Result TicketFields Refusal → Past → Type 0
BeginAnswers a n at (Ok t) past = Begins a n at t past
BeginAnswers a n at (Err why) past = RefusesBegin past a why

abbrev pub begin_makes : ℕ → Result TicketFields Refusal → Past → List Record
begin_makes at (Ok t) past = begin_of t at ∷ []
begin_makes at (Err why) past = []
