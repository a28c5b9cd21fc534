-- What a book keeps beside its records is what the records say.
use Rattle.std.specs.Prelude.{◌≡◌, ℕ, ◌+◌, ◌≤◌, Bool, true, false, List, length, count_by, Option, None, Some, is_some, slice_get, option_and_then}
use Rattle.std.specs.List.{sum_by}
use Rattle.std.specs.Option.{option_map}
use Rattle.std.specs.Ordering.{nat_cmp}
use Rattle.std.specs.Cmp.Lexicographic.{slice_cmp}
use Rattle.std.specs.BTreeMap.{BTreeMap, get, btree_map_len}
use Rattle.kl_entry.specs.Entries.{EntryFields}
use Rattle.kl_appraise.specs.declared.judged.Boot.{Boot}
use Rattle.kl_appraise.specs.Terms.{TermsFields}
use Rattle.kl_incr.specs.Kept.{TicketFields}
use Rattle.kl_history.specs.declared.record.Record.{Record}
use Rattle.kl_history.specs.declared.record.Record.TheVariants.{Install}
use Rattle.kl_history.specs.Records.{History, Past, own, Beginning, start_of, is_open, terms_of, is_begin, is_close, is_settling, generations, polls, releases_made}
use Rattle.kl_history.specs.LookBacks.{installed, came, losses, missed, Passing, last_pass}
use Rattle.kl_history.specs.Accepted.{SignsBoot, WasAccepted}
use Rattle.kl_history.specs.States.{ended, HasReached}
use Rattle.kl_history.specs.Legal.{is_add, is_remove, IsBusy, weight_of, Fits, IsLegalPast}
use Rattle.kl_agents.specs.declared.entry.Entry.{Entry}
use Rattle.kl_agents.specs.declared.entry.Begun.{Begun}
use Rattle.kl_agents.specs.declared.entry.Opening.{Opening}
use Rattle.kl_agents.specs.declared.entry.Passed.{Passed}
use Rattle.kl_core.specs.States.{Accepted}
use Rattle.kl_core.specs.Picks.{begun_at}
use Rattle.kl_core.specs.Tickets.{IsGiven}
use Rattle.kl_agents.specs.Steps.{latest_poll}

abbrev pub terms_by : Record → Option TermsFields
terms_by (Install a g t w) = Some t
terms_by _ = None

-- the terms of the Install at a place
abbrev pub terms_at : History → ℕ → Option TermsFields
terms_at H place = option_and_then terms_by (slice_get H place)

-- the test says whether it is so
abbrev pub Tells : Bool → Type 0 → Type 0
Tells b P = (b ≡ true → P) × (b ≡ false → P → ⊥)

-- this is the last finding, a pass
abbrev pub IsPassed : Past → Passed → Type 0
IsPassed own_past k = (pass : Passing) × (last_pass own_past ≡ Some pass) × (pass.poll ≡ k.poll) × SignsBoot pass.evidence k.boot

-- What an agent's own records say of it, since it was installed.
pub record Says (own_past : Past) (t : TermsFields) (e : Entry) : Type 0 where
  pub terms_are : installed own_past ≡ Some (record { generation = e.generation; terms = t })
  pub v_is : is_some t.v ≡ e.has_v
  pub end_is : ended own_past ≡ e.end
  pub losses_are : losses own_past ≡ e.losses
  pub few_losses : e.losses ≤ 5
  pub missed_are : missed own_past ≡ e.missed
  pub few_missed : e.missed ≤ 5
  pub no_pass : e.pass ≡ None → last_pass own_past ≡ None
  pub pass_is : (k : Passed) → e.pass ≡ Some k → IsPassed own_past k
  pub reached_is : (k : Passed) → e.pass ≡ Some k → Tells e.reached (HasReached own_past k.boot)
  pub accepted : Accepted own_past e.accepted
  pub polled : came is_begin own_past ≡ is_some e.latest
  pub begun : begun_at own_past ≡ option_map (λ (b : Begun). b.at) e.latest

-- the poll is the agent's, and was begun under this generation
pub record IsPollOf (past : Past) (a : List ℕ) (g q : ℕ) : Type 0 where
  pub started : Beginning
  pub began : start_of past q ≡ Some started
  pub agent : started.agent ≡ a
  pub generation : started.generation ≡ g

-- what is kept of an installed agent; of its polls under the installed generation none is open but the last
pub record IsEntry (H : History) (past : Past) (a : List ℕ) (e : Entry) : Type 0 where
  pub with : TermsFields
  pub place_is : terms_at H e.place ≡ Some with
  pub named : terms_of past e.generation ≡ Some with
  pub says : Says (own past a) with e
  pub busy_is_latest : (q : ℕ) → IsBusy past a e.generation q → latest_poll e ≡ Some q
  pub latest_is_its : (q : ℕ) → latest_poll e ≡ Some q → IsPollOf past a e.generation q

abbrev pub HasEntry : History → Past → List ℕ → Option Entry → Type 0
HasEntry H past a None = installed (own past a) ≡ None
HasEntry H past a (Some e) = IsEntry H past a e

-- the ticket that a poll's Begin gave
abbrev pub ticket_of : ℕ → Opening → TermsFields → TicketFields
ticket_of p o t = record { poll = p; agent = o.agent; generation = o.generation; nonce = o.nonce; terms = t; kept = None }

-- what is kept of an open poll
pub record IsOpening (H : History) (past : Past) (p : ℕ) (o : Opening) : Type 0 where
  pub with : TermsFields
  pub place_is : terms_at H o.place ≡ Some with
  pub unclosed : is_open past p ≡ true
  pub given : IsGiven past (ticket_of p o with)
  pub accepted : (entries : List EntryFields) × (boot : Boot) × WasAccepted p (own past o.agent) entries boot

abbrev pub HasOpening : History → Past → ℕ → Option Opening → Type 0
HasOpening H past p None = is_open past p ≡ false
HasOpening H past p (Some o) = IsOpening H past p o

-- the numbers that records name were drawn
pub record Numbers (past : Past) : Type 0 where
  pub begun_within : (q : ℕ) (s : Beginning) → start_of past q ≡ Some s → q ≤ polls past
  pub under_within : (q : ℕ) (s : Beginning) → start_of past q ≡ Some s → s.generation ≤ generations past
  pub named_within : (g : ℕ) (t : TermsFields) → terms_of past g ≡ Some t → g ≤ generations past

pub record IsBook (H : History) (past : Past) (of_agents : BTreeMap (List ℕ) Entry) (of_polls : BTreeMap ℕ Opening) (drawn begun weighs capacity waiting : ℕ) : Type 0 where
  pub legal : IsLegalPast past
  pub fits : Fits past
  pub as_long : length past ≡ length H
  pub numbers : Numbers past
  pub agents_are : (a : List ℕ) → HasEntry H past a (get (slice_cmp nat_cmp) of_agents a)
  pub polls_are : (p : ℕ) → HasOpening H past p (get nat_cmp of_polls p)
  pub drawn_is : drawn ≡ generations past
  pub begun_is : begun ≡ polls past
  pub agents_counted : btree_map_len of_agents + count_by is_remove past ≡ count_by is_add past
  pub polls_counted : btree_map_len of_polls + count_by is_close past ≡ polls past
  pub releases_counted : waiting + count_by is_settling past ≡ releases_made past
  pub weighs_is : weighs ≡ sum_by weight_of past
  -- each open poll has room for its close, and each release that waits for its settlement
  pub room : length H + btree_map_len of_polls + waiting ≤ capacity
