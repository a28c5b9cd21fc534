-- What a reply does.
use Rattle.std.specs.Prelude.{◌≡◌, ◌⊎◌, ℕ, ◌+◌, ◌≤◌, Bool, false, List, [], ◌∷◌, length, Some, None}
use Rattle.kl_entry.specs.Lines.{lines_of}
use Rattle.kl_entry.specs.declared.fault.LineFault.{LineFault}
use Rattle.kl_quote.specs.declared.evidence.Evidence.{Evidence}
use Rattle.kl_states.specs.declared.outcome.DropWhy.TheVariants as dropped
use Rattle.kl_appraise.specs.Asking.{Asked, AskedOnce}
use Rattle.kl_appraise.specs.Evidence.{check_under}
use Rattle.kl_appraise.specs.QuoteRules.{IsAnswered, IsUnasked}
use Rattle.kl_appraise.specs.ListRules.{Case, IsFirstBadLine}
use Rattle.kl_appraise.specs.declared.judged.Outcome.{Outcome as Finding}
use Rattle.kl_appraise.specs.Outcome.{IsOutcome}
use Rattle.kl_incr.specs.Kept.{TicketFields}
use Rattle.kl_script.specs.Commands.{ReplyFields}
use Rattle.kl_history.specs.declared.record.Record.{Record}
use Rattle.kl_history.specs.declared.record.Record.TheVariants as record_of
use Rattle.kl_history.specs.Records.{Past}
use Rattle.kl_history.specs.Legal.{IsCaseOf}
use Rattle.kl_core.specs.declared.closed.Closed.{Closed}
use Rattle.kl_core.specs.declared.closed.ClosedAs.{ClosedAs}
use Rattle.kl_core.specs.declared.closed.ClosedAs.TheVariants.{Dropped}
use Rattle.kl_core.specs.Closes.{IsClosed, closed_by, record_by}
use Rattle.kl_core.specs.Tickets.{IsOpenTicket}
use Rattle.kl_session.specs.Outside.{Outside}
use Rattle.kl_session.specs.Calls.{VerifierFields, past, with_more, FindsNoPoll}
use Rattle.kl_session.specs.Texts.{closed_line}

-- the parts of a reply to a poll that carries the evidence
abbrev pub fields_of : ℕ → Evidence → ReplyFields
fields_of p e = record { poll = p; bank = e.bank; start = e.start; public = e.public; quote = e.quote; list = e.list }

-- how the appraisal of a reply goes
pub data Appraisal : Type 0 where
  -- the signature is said to be good or not, and the rules find this
  Finds : Bool → Finding → Appraisal
  -- the key object was to be asked, and met a fault
  Unanswered : Appraisal
  -- memory ran out
  Short : Appraisal

-- No rule before that on the signature decides, so the key object is to be asked.
abbrev pub IsToAsk : TicketFields → Evidence → Type 0
IsToAsk t e = ¬ (IsUnasked (check_under t.terms t.nonce e false))

-- at most as many entries were measured as the list has, which are as many as its lines, and none where a line is no entry
pub record Costs (list : List ℕ) (before after : ℕ) : Type 0 where
  pub most : after ≤ before + length (lines_of list)
  pub unread : (place : ℕ) (fault : LineFault) → IsFirstBadLine list place fault → after ≡ before

-- What the rules find of a reply to the open poll: over the whole list since boot, with the poll's nonce, under the terms of the
-- one generation that its Begin named. The key object was asked once about the quote where it was to be, and else it was not;
-- by its answer the quote is signed. At most as many entries were measured as the list has.
pub record IsFinding (o o' : Outside) (past : Past) (t : TicketFields) (e : Evidence) (signed : Bool) (found : Finding) : Type 0 where
  pub case : Case
  pub poll_case : IsCaseOf past t.poll e signed case
  pub outcome : IsOutcome case found
  pub answered : IsAnswered o.keys.relations t.terms.ak (check_under t.terms t.nonce e signed)
  pub asked : IsToAsk t e → Asked o.keys o'.keys t.terms.ak e.quote (Some signed)
  pub spared : IsUnasked (check_under t.terms t.nonce e false) → o'.keys ≡ o.keys
  pub cost : Costs e.list o.steps o'.steps

-- it went so
abbrev pub Went : Outside → Outside → Past → TicketFields → Evidence → Appraisal → Type 0
Went o o' past t e (Finds signed found) = IsFinding o o' past t e signed found
Went o o' past t e Unanswered = IsToAsk t e × Asked o.keys o'.keys t.terms.ak e.quote None × (o'.steps ≡ o.steps)
Went o o' past t e Short =
    ((o'.keys ≡ o.keys) ⊎ (IsToAsk t e × AskedOnce o.keys o'.keys t.terms.ak e.quote))
    × (o'.keys.calls.faults ≡ o.keys.calls.faults) × (t.terms.policy.patterns ≡ [] → o'.steps ≡ o.steps) × Costs e.list o.steps o'.steps

-- by what the poll is closed
abbrev pub closed_as : Appraisal → ClosedAs
closed_as (Finds signed found) = closed_by found
closed_as Unanswered = Dropped dropped.Keys
closed_as Short = Dropped dropped.Memory

-- the record that closes it
abbrev pub closing_record : ℕ → Evidence → Appraisal → Bool → Record
closing_record p e (Finds signed found) current = record_by p e signed found current
closing_record p e Unanswered current = record_of.Dropped p dropped.Keys
closing_record p e Short current = record_of.Dropped p dropped.Memory

-- An open poll is closed by the appraisal of its reply's evidence. No word is drawn, and no pattern is made.
pub record Closes (o o' : Outside) (past : Past) (t : TicketFields) (e : Evidence) (made : Record) (c : Closed) : Type 0 where
  pub appraisal : Appraisal
  pub went : Went o o' past t e appraisal
  pub undrawn : o'.words ≡ o.words
  pub unmade : o'.maker ≡ o.maker
  pub by_record : made ≡ closing_record t.poll e appraisal c.current
  pub told : IsClosed past made t (closed_as appraisal) c

-- a reply closes its open poll
pub record ClosesPoll (o o' : Outside) (r : ReplyFields) (s s' : VerifierFields) (line : List ℕ) : Type 0 where
  pub ticket : TicketFields
  pub opened : IsOpenTicket (past s) ticket
  pub evidence : Evidence
  pub carries : fields_of ticket.poll evidence ≡ r
  pub made : Record
  pub closed : Closed
  pub closes : Closes o o' (past s) ticket evidence made closed
  pub after : s' ≡ with_more (made ∷ []) s
  pub said : line ≡ closed_line closed

abbrev pub DoesReply : Outside → Outside → ReplyFields → VerifierFields → VerifierFields → List ℕ → Type 0
DoesReply o o' r s s' line = ClosesPoll o o' r s s' line ⊎ ((o' ≡ o) × FindsNoPoll r.poll s s' line)
