-- What the calls that close a poll answer, by the records that they found, and which record each makes.
use Rattle.std.specs.Prelude.{◌≡◌, ℕ, Bool, true, false, List, [], ◌∷◌, Result, Ok, Err}
use Rattle.kl_states.specs.declared.outcome.DropWhy.{DropWhy}
use Rattle.kl_states.specs.declared.outcome.LostWhy.{LostWhy}
use Rattle.kl_quote.specs.declared.evidence.Evidence.{Evidence}
use Rattle.kl_incr.specs.Kept.{TicketFields}
use Rattle.kl_incr.specs.Appraisal.{AppraisedFields}
use Rattle.kl_appraise.specs.declared.judged.Outcome.{Outcome as Finding}
use Rattle.kl_appraise.specs.declared.judged.Outcome.TheVariants as finding
use Rattle.kl_history.specs.declared.record.Record.{Record}
use Rattle.kl_history.specs.declared.record.Record.TheVariants as record_of
use Rattle.kl_history.specs.Records.{Past, own, is_open}
use Rattle.kl_history.specs.States.{is_current, HasOp}
use Rattle.kl_core.specs.declared.closed.Closed.{Closed}
use Rattle.kl_core.specs.declared.closed.ClosedAs.{ClosedAs}
use Rattle.kl_core.specs.declared.closed.ClosedAs.TheVariants.{Verdict, Restart, Lost, Dropped}
use Rattle.kl_core.specs.declared.refusal.Refusal.{Refusal}
use Rattle.kl_core.specs.declared.refusal.Refusal.TheVariants.{NoPoll}
use Rattle.kl_core.specs.Tickets.{IsOpenTicket}

-- What a close tells: the poll and its agent, by what it was closed, whether the generation of its Begin was installed and the
-- agent live, and the state of the agent once the record of it stands.
pub record IsClosed (past : Past) (made : Record) (t : TicketFields) (what : ClosedAs) (c : Closed) : Type 0 where
  pub poll : c.poll ≡ t.poll
  pub agent : c.agent ≡ t.agent
  pub closed_as : c.as_what ≡ what
  pub now : c.current ≡ is_current (own past t.agent) t.generation
  pub state : HasOp (own (made ∷ past) t.agent) c.op

-- ---- by a ticket, whatever closes its poll

-- the record that a close makes, current or not, where it is done
abbrev pub close_makes : {A : Type 0} → (Bool → Record) → Result Closed (Refusal × A) → Past → List Record
close_makes made (Ok c) past = made c.current ∷ []
close_makes made (Err e) past = []

-- by what its poll's Begin gave a ticket for: done where the poll is open; else what was taken is handed back
abbrev pub OwnCloses : {A : Type 0} → TicketFields → (Bool → Record) → ClosedAs → A → Result Closed (Refusal × A) → Past → Type 0
OwnCloses t made what taken (Ok c) past = (is_open past t.poll ≡ true) × IsClosed past (made c.current) t what c
OwnCloses t made what taken (Err e) past = (is_open past t.poll ≡ false) × (e ≡ (NoPoll t.poll, taken))

-- by any ticket: done where it is that of an open poll
abbrev pub AnyCloses : {A : Type 0} → TicketFields → (Bool → Record) → ClosedAs → A → Result Closed (Refusal × A) → Past → Type 0
AnyCloses t made what taken (Ok c) past = IsOpenTicket past t × IsClosed past (made c.current) t what c
AnyCloses t made what taken (Err e) past = (¬ (IsOpenTicket past t)) × (e ≡ (NoPoll t.poll, taken))

-- ---- by what the appraisal of its evidence found

abbrev pub closed_by : Finding → ClosedAs
closed_by (finding.Verdict v) = Verdict v
closed_by finding.Restart = Restart

-- the record of a poll that was closed so, current or not
abbrev pub record_by : ℕ → Evidence → Bool → Finding → Bool → Record
record_by p e signed (finding.Verdict v) now = record_of.Verdict p e signed v now
record_by p e signed finding.Restart now = record_of.Restart p e signed now

-- the record of a poll that what was appraised closes
abbrev pub found_record : AppraisedFields → Bool → Record
found_record a now = record_by a.ticket.poll a.evidence a.signed a.finding now

abbrev pub finish_makes : AppraisedFields → Result Closed (Refusal × AppraisedFields) → Past → List Record
finish_makes a = close_makes (found_record a)

abbrev pub OwnFinishes : AppraisedFields → Result Closed (Refusal × AppraisedFields) → Past → Type 0
OwnFinishes a = OwnCloses a.ticket (found_record a) (closed_by a.finding) a

abbrev pub Finishes : AppraisedFields → Result Closed (Refusal × AppraisedFields) → Past → Type 0
Finishes a = AnyCloses a.ticket (found_record a) (closed_by a.finding) a

-- ---- since no evidence came back

abbrev pub lost_record : ℕ → LostWhy → Bool → Record
lost_record p why now = record_of.Lost p why now

abbrev pub lose_makes : TicketFields → LostWhy → Result Closed (Refusal × TicketFields) → Past → List Record
lose_makes t why = close_makes (lost_record t.poll why)

abbrev pub OwnLoses : TicketFields → LostWhy → Result Closed (Refusal × TicketFields) → Past → Type 0
OwnLoses t why = OwnCloses t (lost_record t.poll why) (Lost why) t

abbrev pub Loses : TicketFields → LostWhy → Result Closed (Refusal × TicketFields) → Past → Type 0
Loses t why = AnyCloses t (lost_record t.poll why) (Lost why) t

-- ---- without counting for or against the agent

abbrev pub dropped_record : ℕ → DropWhy → Bool → Record
dropped_record p why now = record_of.Dropped p why

abbrev pub drop_makes : TicketFields → DropWhy → Result Closed (Refusal × TicketFields) → Past → List Record
drop_makes t why = close_makes (dropped_record t.poll why)

abbrev pub OwnDrops : TicketFields → DropWhy → Result Closed (Refusal × TicketFields) → Past → Type 0
OwnDrops t why = OwnCloses t (dropped_record t.poll why) (Dropped why) t

abbrev pub Drops : TicketFields → DropWhy → Result Closed (Refusal × TicketFields) → Past → Type 0
Drops t why = AnyCloses t (dropped_record t.poll why) (Dropped why) t
