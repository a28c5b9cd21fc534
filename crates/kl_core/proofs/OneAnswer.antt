-- A call has one answer, unless memory runs out: of the reasons to refuse it the first that applies is one.
use Rattle.std.proofs.Common.{◌≡◌, ◌≢◌, ℕ, Bool, true, false, List, ◌∷◌, length, Option, Some, None, is_some, Ok, Err, Ordering, inl, inr, refl, ap, sym, ◌∙◌, subst, arith}
use Rattle.std.specs.Ordering.{nat_cmp, is_gt, is_eq, ordering_reverse}
use Rattle.std.specs.declared.cmp.Ordering.TheVariants.{Less, Equal, Greater}
use Rattle.std.specs.Cmp.Lexicographic.{slice_cmp}
use Rattle.std.proofs.lemmas.Cmp.{nat_list_cmp_total}
use Rattle.std.proofs.lemmas.Map.Text.{is_eq-slice_cmp}
use Rattle.std.proofs.lemmas.Bool.{both_ways, false≢true}
use Rattle.std.proofs.lemmas.Option.{same_Some, none-some}
use Rattle.kl_policy.specs.PolicyFields.{PolicyFields}
use Rattle.kl_appraise.specs.Terms.{TermsFields}
use Rattle.kl_incr.specs.Kept.{TicketFields}
use Rattle.kl_incr.specs.Appraisal.{AppraisedFields}
use Rattle.kl_states.specs.declared.op.Op.{Op}
use Rattle.kl_states.specs.declared.op.State.{State}
use Rattle.kl_states.specs.declared.outcome.DropWhy.{DropWhy}
use Rattle.kl_states.specs.declared.outcome.LostWhy.{LostWhy}
use Rattle.kl_states.specs.declared.outcome.Outcome.{Outcome}
use Rattle.kl_appraise.specs.declared.kept.Kept.{Kept}
use Rattle.kl_entry.specs.Entries.{EntryFields}
use Rattle.kl_history.specs.declared.record.Record.{Record}
use Rattle.kl_history.specs.declared.record.Record.TheVariants.{Settled}
use Rattle.kl_quote.specs.declared.evidence.Evidence.{Evidence}
use Rattle.kl_states.specs.Ops.{is_owed}
use Rattle.kl_history.specs.Records.{History, Past, past_of, own, terms_of, is_unsettled}
use Rattle.kl_history.specs.LookBacks.{Installed, installed, Passing}
use Rattle.kl_history.specs.Legal.{Legal, IsBusy}
use Rattle.kl_history.specs.Releases.{MayRelease}
use Rattle.kl_history.specs.States.{HasOp}
use Rattle.kl_history.proofs.Drawn.{ends_once}
use Rattle.kl_history.proofs.OneStanding.{are_one}
use Rattle.kl_core.specs.declared.refusal.Refusal.{Refusal}
use Rattle.kl_core.specs.declared.refusal.Refusal.TheVariants.{NoAgent, Exists, AgentsFull, WrongState, Busy, JournalRecords, JournalBytes, Memory}
use Rattle.kl_core.specs.Installs.{RefusesAdd, Adds, RefusesReplace, Replaces, RefusesReactivate, Reactivates}
use Rattle.kl_core.specs.Endings.{RefusesStop, Stops, RefusesRemove, Removes}
use Rattle.kl_core.specs.Begins.{MayPoll, IsPolled, RefusesBegin, Begins, BeginAnswers}
use Rattle.kl_core.specs.Shares.{ShareFields, evidence_of, IsOwed, RefusesRelease, Gives, Releases}
use Rattle.kl_core.specs.declared.closed.Closed.{Closed}
use Rattle.kl_core.specs.declared.closed.ClosedAs.{ClosedAs}
use Rattle.kl_core.specs.declared.closed.ClosedAs.TheVariants.{Lost, Dropped}
use Rattle.kl_core.specs.Closes.{IsClosed, OwnCloses, AnyCloses, closed_by, found_record, OwnFinishes, Finishes, lost_record, OwnLoses, Loses, dropped_record, OwnDrops, Drops}
use Rattle.kl_core.specs.Books.{BookFields}
use Rattle.kl_core.specs.declared.settlement.Settlement.{Settlement}
use Rattle.kl_core.specs.Shares.{ShareFields, IsSettlement, OwnSettles, Settles}
use Rattle.kl_core.specs.States.{IsState, StateAnswers}
use Rattle.kl_core.specs.Picks.{IsAhead, PickAnswers}
use Rattle.kl_core.specs.Notices.{NoticeAnswers, MarkAnswers}
use Rattle.kl_agents.proofs.Texts.{eq_same}
use Rattle.kl_core.proofs.Awaited.{awaited_once}
use Rattle.kl_core.specs.Answers.{IsAmple, IsAmpleWith, IsAny, IsOneAnswer}

-- a refusal that is one, with what it hands back
handed_back : {B : Type 0} (b : B) (x y : Refusal × B) → x.0 ≡ y.0 → x.1 ≡ b → y.1 ≡ b → x ≡ y
handed_back b x y why first second = ap (λ w. (w, x.1)) why ∙ ap (λ c. (y.0, c)) (first ∙ sym second)

-- ---- add
one_add_refusal : (past : Past) (a : List ℕ) (t : TermsFields) (x y : Refusal) → RefusesAdd past a t x → RefusesAdd past a t y → x ≢ Memory → y ≢ Memory
    → x ≡ y
one_add_refusal past a t Exists Exists x y m n = refl
one_add_refusal past a t AgentsFull AgentsFull x y m n = refl
one_add_refusal past a t JournalRecords JournalRecords x y m n = refl
one_add_refusal past a t JournalBytes JournalBytes x y m n = refl
one_add_refusal past a t Memory _ x y m n = absurd (m refl)
one_add_refusal past a t _ Memory x y m n = absurd (n refl)
one_add_refusal past a t _ _ x y m n = grind arith

no_add_refusal : (past : Past) (a : List ℕ) (t : TermsFields) (g : ℕ) (why : Refusal) → Adds a t (Ok g) past → RefusesAdd past a t why → why ≡ Memory
no_add_refusal past a t g Memory x y = refl
no_add_refusal past a t g _ x y = grind arith

pub one_add : (past : Past) (a : List ℕ) (t : TermsFields) → IsOneAnswer IsAmpleWith (Adds a t) past
one_add past a t (Ok g) (Ok h) x y m n = ap Ok (x.0 ∙ sym y.0)
one_add past a t (Ok g) (Err e) x y m n = absurd (n (no_add_refusal past a t g e.0 x y.0))
one_add past a t (Err e) (Ok h) x y m n = absurd (m (no_add_refusal past a t h e.0 y x.0))
one_add past a t (Err e) (Err f) x y m n = ap Err (handed_back t e f (one_add_refusal past a t e.0 f.0 x.0 y.0 m n) x.1 y.1)

-- ---- replace
one_replace_refusal : (past : Past) (a : List ℕ) (p : PolicyFields) (x y : Refusal) → RefusesReplace past a p x → RefusesReplace past a p y → x ≢ Memory
    → y ≢ Memory → x ≡ y
one_replace_refusal past a p NoAgent NoAgent x y m n = refl
one_replace_refusal past a p JournalRecords JournalRecords x y m n = refl
one_replace_refusal past a p JournalBytes JournalBytes x y m n = refl
one_replace_refusal past a p Memory _ x y m n = absurd (m refl)
one_replace_refusal past a p _ Memory x y m n = absurd (n refl)
one_replace_refusal past a p _ _ x y m n = grind arith

no_replace_refusal : (past : Past) (a : List ℕ) (p : PolicyFields) (g : ℕ) (why : Refusal) → Replaces a p (Ok g) past → RefusesReplace past a p why
    → why ≡ Memory
no_replace_refusal past a p g Memory x y = refl
no_replace_refusal past a p g _ x y = grind arith

pub one_replace : (past : Past) (a : List ℕ) (p : PolicyFields) → IsOneAnswer IsAmpleWith (Replaces a p) past
one_replace past a p (Ok g) (Ok h) x y m n = ap Ok (x.0 ∙ sym y.0)
one_replace past a p (Ok g) (Err e) x y m n = absurd (n (no_replace_refusal past a p g e.0 x y.0))
one_replace past a p (Err e) (Ok h) x y m n = absurd (m (no_replace_refusal past a p h e.0 y x.0))
one_replace past a p (Err e) (Err f) x y m n = ap Err (handed_back p e f (one_replace_refusal past a p e.0 f.0 x.0 y.0 m n) x.1 y.1)

-- ---- reactivate
one_reactivate_refusal : (past : Past) (a : List ℕ) (x y : Refusal) → RefusesReactivate past a x → RefusesReactivate past a y → x ≢ Memory → y ≢ Memory
    → x ≡ y
one_reactivate_refusal past a NoAgent NoAgent x y m n = refl
one_reactivate_refusal past a JournalRecords JournalRecords x y m n = refl
one_reactivate_refusal past a Memory _ x y m n = absurd (m refl)
one_reactivate_refusal past a _ Memory x y m n = absurd (n refl)
one_reactivate_refusal past a _ _ x y m n = grind arith

no_reactivate_refusal : (past : Past) (a : List ℕ) (g : ℕ) (why : Refusal) → Reactivates a (Ok g) past → RefusesReactivate past a why → why ≡ Memory
no_reactivate_refusal past a g Memory x y = refl
no_reactivate_refusal past a g _ x y = grind arith

pub one_reactivate : (past : Past) (a : List ℕ) → IsOneAnswer IsAmple (Reactivates a) past
one_reactivate past a (Ok g) (Ok h) x y m n = ap Ok (x.0 ∙ sym y.0)
one_reactivate past a (Ok g) (Err e) x y m n = absurd (n (no_reactivate_refusal past a g e x y))
one_reactivate past a (Err e) (Ok h) x y m n = absurd (m (no_reactivate_refusal past a h e y x))
one_reactivate past a (Err e) (Err f) x y m n = ap Err (one_reactivate_refusal past a e f x y m n)

-- ---- stop
one_stop_refusal : (past : Past) (a : List ℕ) (x y : Refusal) → RefusesStop past a x → RefusesStop past a y → x ≢ Memory → y ≢ Memory → x ≡ y
one_stop_refusal past a NoAgent NoAgent x y m n = refl
one_stop_refusal past a (WrongState o) (WrongState p) x y m n = ap WrongState (same_Some o p (sym x.1 ∙ y.1))
one_stop_refusal past a JournalRecords JournalRecords x y m n = refl
one_stop_refusal past a Memory _ x y m n = absurd (m refl)
one_stop_refusal past a _ Memory x y m n = absurd (n refl)
one_stop_refusal past a _ _ x y m n = grind arith

no_stop_refusal : (past : Past) (a : List ℕ) (u : Unit {0}) (why : Refusal) → Stops a (Ok u) past → RefusesStop past a why → why ≡ Memory
no_stop_refusal past a u Memory x y = refl
no_stop_refusal past a u _ x y = grind arith

pub one_stop : (past : Past) (a : List ℕ) → IsOneAnswer IsAmple (Stops a) past
one_stop past a (Ok u) (Ok v) x y m n = refl
one_stop past a (Ok u) (Err e) x y m n = absurd (n (no_stop_refusal past a u e x y))
one_stop past a (Err e) (Ok v) x y m n = absurd (m (no_stop_refusal past a v e y x))
one_stop past a (Err e) (Err f) x y m n = ap Err (one_stop_refusal past a e f x y m n)

-- ---- remove
one_remove_refusal : (past : Past) (a : List ℕ) (x y : Refusal) → RefusesRemove past a x → RefusesRemove past a y → x ≢ Memory → y ≢ Memory → x ≡ y
one_remove_refusal past a NoAgent NoAgent x y m n = refl
one_remove_refusal past a JournalRecords JournalRecords x y m n = refl
one_remove_refusal past a Memory _ x y m n = absurd (m refl)
one_remove_refusal past a _ Memory x y m n = absurd (n refl)
one_remove_refusal past a _ _ x y m n = grind arith

no_remove_refusal : (past : Past) (a : List ℕ) (u : Unit {0}) (why : Refusal) → Removes a (Ok u) past → RefusesRemove past a why → why ≡ Memory
no_remove_refusal past a u Memory x y = refl
no_remove_refusal past a u _ x y = grind arith

pub one_remove : (past : Past) (a : List ℕ) → IsOneAnswer IsAmple (Removes a) past
one_remove past a (Ok u) (Ok v) x y m n = refl
one_remove past a (Ok u) (Err e) x y m n = absurd (n (no_remove_refusal past a u e x y))
one_remove past a (Err e) (Ok v) x y m n = absurd (m (no_remove_refusal past a v e y x))
one_remove past a (Err e) (Err f) x y m n = ap Err (one_remove_refusal past a e f x y m n)

-- ---- begin
one_installed : (past : Past) (a : List ℕ) (i j : Installed) → installed (own past a) ≡ Some i → installed (own past a) ≡ Some j → i ≡ j
one_installed past a i j is also = same_Some i j (sym is ∙ also)

-- an agent that may be polled has no open poll of its installed generation
not_polled : (past : Past) (a : List ℕ) (p : ℕ) → MayPoll past a → ¬ (IsPolled past a p)
not_polled past a p (g, t, may) (i, is, live, busy) =
    let same = ap (λ (j : Installed). j.generation) (one_installed past a i (record { generation = g; terms = t }) is may.with) in
    may.idle p (subst (λ (n : ℕ). IsBusy past a n p) same busy)

one_poll : (H : History) (a : List ℕ) (p q : ℕ) → Legal H → IsPolled (past_of H) a p → IsPolled (past_of H) a q → p ≡ q
one_poll H a p q legal (i, is, live, busy) (j, also, _, other) =
    let same = ap (λ (k : Installed). k.generation) (one_installed (past_of H) a i j is also) in
    (ends_once H legal).open_once a j.generation p q (subst (λ (n : ℕ). IsBusy (past_of H) a n p) same busy) other

one_begin_refusal : (H : History) (a : List ℕ) (x y : Refusal) → Legal H → RefusesBegin (past_of H) a x → RefusesBegin (past_of H) a y → x ≢ Memory
    → y ≢ Memory → x ≡ y
one_begin_refusal H a NoAgent NoAgent legal x y m n = refl
one_begin_refusal H a (WrongState o) (WrongState p) legal x y m n = ap WrongState (same_Some o p (sym x.1 ∙ y.1))
one_begin_refusal H a (Busy p) (Busy q) legal x y m n = ap Busy (one_poll H a p q legal x y)
one_begin_refusal H a JournalRecords JournalRecords legal x y m n = refl
one_begin_refusal H a JournalBytes JournalBytes legal x y m n = refl
one_begin_refusal H a Memory _ legal x y m n = absurd (m refl)
one_begin_refusal H a _ Memory legal x y m n = absurd (n refl)
one_begin_refusal H a (Busy p) JournalRecords legal x y m n = absurd (not_polled (past_of H) a p y.0 x)
one_begin_refusal H a (Busy p) JournalBytes legal x y m n = absurd (not_polled (past_of H) a p y.0 x)
one_begin_refusal H a JournalRecords (Busy q) legal x y m n = absurd (not_polled (past_of H) a q x.0 y)
one_begin_refusal H a JournalBytes (Busy q) legal x y m n = absurd (not_polled (past_of H) a q x.0 y)
one_begin_refusal H a _ _ legal x y m n = grind arith

no_begin_refusal : (past : Past) (a n : List ℕ) (at : ℕ) (t : TicketFields) (why : Refusal) → Begins a n at t past → RefusesBegin past a why → why ≡ Memory
no_begin_refusal past a n at t Memory x y = refl
no_begin_refusal past a n at t (Busy p) x y = absurd (not_polled past a p (t.generation, t.terms, x.idle) y)
no_begin_refusal past a n at t NoAgent x y = absurd (none-some _ (sym y ∙ x.idle.with))
no_begin_refusal past a n at t (WrongState o) x y = absurd (none-some o (sym x.idle.live ∙ y.1))
no_begin_refusal past a n at t JournalRecords x y = absurd (y.1 x.room)
no_begin_refusal past a n at t JournalBytes x y = absurd (y.2 x.bytes)
no_begin_refusal past a n at t _ x y = absurd y

ticket_by : ℕ → List ℕ → ℕ → List ℕ → TermsFields → Option Kept → TicketFields
ticket_by p a g n t k = record { poll = p; agent = a; generation = g; nonce = n; terms = t; kept = k }

pub same_tickets : (t u : TicketFields) → t.poll ≡ u.poll → t.agent ≡ u.agent → t.generation ≡ u.generation → t.nonce ≡ u.nonce → t.terms ≡ u.terms
    → t.kept ≡ u.kept → t ≡ u
unfolding ticket_by
same_tickets t u poll agent generation nonce terms kept =
    let same : ticket_by t.poll t.agent t.generation t.nonce t.terms t.kept ≡ ticket_by u.poll u.agent u.generation u.nonce u.terms u.kept = cc in same

the_installed : ℕ → TermsFields → Installed
the_installed g t = record { generation = g; terms = t }

one_ticket : (past : Past) (a n : List ℕ) (at : ℕ) (t u : TicketFields) → Begins a n at t past → Begins a n at u past → t ≡ u
unfolding the_installed
one_ticket past a n at t u x y =
    let as_named = λ (k : TicketFields). the_installed k.generation k.terms in
    let same = one_installed past a (as_named t) (as_named u) x.idle.with y.idle.with in
    same_tickets t u (x.next ∙ sym y.next) (x.agent ∙ sym y.agent) (ap (λ (i : Installed). i.generation) same) (x.nonce ∙ sym y.nonce)
    (ap (λ (i : Installed). i.terms) same) (x.kept ∙ sym y.kept)

pub one_begin : (H : History) (a n : List ℕ) (at : ℕ) → Legal H → IsOneAnswer IsAmple (BeginAnswers a n at) (past_of H)
one_begin H a n at legal (Ok t) (Ok u) x y k m = ap Ok (one_ticket (past_of H) a n at t u x y)
one_begin H a n at legal (Ok t) (Err e) x y k m = absurd (m (no_begin_refusal (past_of H) a n at t e x y))
one_begin H a n at legal (Err e) (Ok u) x y k m = absurd (k (no_begin_refusal (past_of H) a n at u e y x))
one_begin H a n at legal (Err e) (Err f) x y k m = ap Err (one_begin_refusal H a e f legal x y k m)

-- ---- release
one_state_in : (past : Past) (a : List ℕ) (o p : Op) → HasOp (own past a) (Some o) → HasOp (own past a) (Some p) → o ≡ p
one_state_in past a o p x y = same_Some o p ((are_one (own past a)).state (Some o) (Some p) x y)

not_in : (past : Past) (a : List ℕ) (o : Op) → installed (own past a) ≡ None → ¬ (HasOp (own past a) (Some o))
not_in past a o none is = both_ways (is_some (installed (own past a))) (ap is_some none) is.0

not_owed : (past : Past) (a : List ℕ) (o : Op) → HasOp (own past a) (Some o) → is_owed o ≡ false → ¬ (IsOwed past a)
not_owed past a o is none (p, also, owed) = both_ways (is_owed o) none (ap is_owed (one_state_in past a o p is also) ∙ owed)

one_release_refusal : (H : History) (a : List ℕ) (x y : Refusal) → Legal H → RefusesRelease (past_of H) a x → RefusesRelease (past_of H) a y → x ≢ Memory → y ≢ Memory
    → x ≡ y
one_release_refusal H a NoAgent NoAgent legal x y m n = refl
one_release_refusal H a (WrongState o) (WrongState p) legal x y m n = ap WrongState (one_state_in (past_of H) a o p x.0 y.0)
one_release_refusal H a (Busy p) (Busy q) legal x y m n = ap Busy (awaited_once (past_of H) a p q legal x.1 y.1)
one_release_refusal H a JournalRecords JournalRecords legal x y m n = refl
one_release_refusal H a Memory _ legal x y m n = absurd (m refl)
one_release_refusal H a _ Memory legal x y m n = absurd (n refl)
one_release_refusal H a NoAgent (WrongState p) legal x y m n = absurd (not_in (past_of H) a p x y.0)
one_release_refusal H a (WrongState o) NoAgent legal x y m n = absurd (not_in (past_of H) a o y x.0)
one_release_refusal H a NoAgent (Busy q) legal x y m n = absurd (not_in (past_of H) a y.0.0 x y.0.1)
one_release_refusal H a (Busy p) NoAgent legal x y m n = absurd (not_in (past_of H) a x.0.0 y x.0.1)
one_release_refusal H a NoAgent JournalRecords legal x y m n = absurd (not_in (past_of H) a y.0.0.0 x y.0.0.1)
one_release_refusal H a JournalRecords NoAgent legal x y m n = absurd (not_in (past_of H) a x.0.0.0 y x.0.0.1)
one_release_refusal H a (WrongState o) (Busy q) legal x y m n = absurd (not_owed (past_of H) a o x.0 x.1 y.0)
one_release_refusal H a (Busy p) (WrongState o) legal x y m n = absurd (not_owed (past_of H) a o y.0 y.1 x.0)
one_release_refusal H a (WrongState o) JournalRecords legal x y m n = absurd (not_owed (past_of H) a o x.0 x.1 y.0.0)
one_release_refusal H a JournalRecords (WrongState o) legal x y m n = absurd (not_owed (past_of H) a o y.0 y.1 x.0.0)
one_release_refusal H a (Busy p) JournalRecords legal x y m n = absurd (y.0.1 p x.1)
one_release_refusal H a JournalRecords (Busy q) legal x y m n = absurd (x.0.1 q y.1)
one_release_refusal H a _ _ legal x y m n = grind arith

-- what the release rule says of an agent
given_rule : (past : Past) (a : List ℕ) (s : ShareFields) → Gives a s past → MayRelease past s.number a s.generation s.poll
given_rule past a s x = subst (λ (b : List ℕ). MayRelease past s.number b s.generation s.poll) x.agent x.rule

no_release_refusal : (past : Past) (a : List ℕ) (s : ShareFields) (why : Refusal) → Gives a s past → RefusesRelease past a why → why ≡ Memory
no_release_refusal past a s Memory x y = refl
no_release_refusal past a s NoAgent x y = let rule = given_rule past a s x in absurd (none-some _ (sym y ∙ rule.due.installed))
no_release_refusal past a s (WrongState o) x y = let rule = given_rule past a s x in absurd (not_owed past a o y.0 y.1 (rule.op, (ap is_some rule.due.installed, rule.state), rule.owed))
no_release_refusal past a s (Busy n) x y = let rule = given_rule past a s x in absurd (both_ways (is_unsettled past n) (rule.alone n y.1.0 y.1.1) y.1.2)
no_release_refusal past a s JournalRecords x y = absurd (y.1 x.room)
no_release_refusal past a s _ x y = absurd y

share_by : ℕ → List ℕ → ℕ → ℕ → List ℕ → List ℕ → List ℕ → ShareFields
share_by n a g p v public contact = record { number = n; agent = a; generation = g; poll = p; v = v; public = public; contact = contact }

same_shares : (s t : ShareFields) → s.number ≡ t.number → s.agent ≡ t.agent → s.generation ≡ t.generation → s.poll ≡ t.poll → s.v ≡ t.v → s.public ≡ t.public → s.contact ≡ t.contact
    → s ≡ t
unfolding share_by
same_shares s t number agent generation poll v public contact =
    let same : share_by s.number s.agent s.generation s.poll s.v s.public s.contact ≡ share_by t.number t.agent t.generation t.poll t.v t.public t.contact = cc in same

one_share : (past : Past) (a : List ℕ) (s t : ShareFields) → Gives a s past → Gives a t past → s ≡ t
one_share past a s t x y =
    let first = given_rule past a s x in
    let second = given_rule past a t y in
    let generation : s.generation ≡ t.generation = first.named ∙ ap (λ (i : Installed). i.generation) (one_installed past a first.due.installation second.due.installation first.due.installed second.due.installed) ∙ sym second.named in
    let poll : s.poll ≡ t.poll = first.stands ∙ ap (λ (k : Passing). k.poll) (same_Some first.due.pass second.due.pass (sym first.due.passed ∙ second.due.passed)) ∙ sym second.stands in
    let terms = same_Some x.given.terms y.given.terms (sym x.given.under ∙ ap (terms_of past) generation ∙ y.given.under) in
    let evidence = same_Some x.given.evidence y.given.evidence (sym x.given.passed ∙ ap (evidence_of past) poll ∙ y.given.passed) in
    same_shares s t (first.next ∙ sym second.next) (x.agent ∙ sym y.agent) generation poll
    (same_Some s.v t.v (sym x.given.v ∙ ap (λ (u : TermsFields). u.v) terms ∙ y.given.v))
    (sym x.given.public ∙ ap (λ (e : Evidence). e.public) evidence ∙ y.given.public)
    (sym x.given.contact ∙ ap (λ (u : TermsFields). u.contact) terms ∙ y.given.contact)

pub one_release : (H : History) (a : List ℕ) → Legal H → IsOneAnswer IsAmple (Releases a) (past_of H)
one_release H a legal (Ok s) (Ok t) x y k m = ap Ok (one_share (past_of H) a s t x y)
one_release H a legal (Ok s) (Err e) x y k m = absurd (m (no_release_refusal (past_of H) a s e x y))
one_release H a legal (Err e) (Ok t) x y k m = absurd (k (no_release_refusal (past_of H) a t e y x))
one_release H a legal (Err e) (Err f) x y k m = ap Err (one_release_refusal H a e f legal x y k m)

-- ---- closes
closed_so : ℕ → List ℕ → ClosedAs → Bool → Option Op → Closed
closed_so p a what now op = record { poll = p; agent = a; as_what = what; current = now; op = op }

pub same_closes : (c d : Closed) → c.poll ≡ d.poll → c.agent ≡ d.agent → c.as_what ≡ d.as_what → c.current ≡ d.current → c.op ≡ d.op → c ≡ d
unfolding closed_so
same_closes c d poll agent what current op =
    let same : closed_so c.poll c.agent c.as_what c.current c.op ≡ closed_so d.poll d.agent d.as_what d.current d.op = cc in same

pub one_close : (past : Past) (made : Record) (t : TicketFields) (what : ClosedAs) (c d : Closed) → IsClosed past made t what c → IsClosed past made t what d
    → c ≡ d
one_close past made t what c d x y =
    same_closes c d (x.poll ∙ sym y.poll) (x.agent ∙ sym y.agent) (x.closed_as ∙ sym y.closed_as) (x.now ∙ sym y.now)
    ((are_one (own (made ∷ past) t.agent)).state c.op d.op x.state y.state)

-- where the record depends on whether the close is current
pub one_close_by : (past : Past) (made : Bool → Record) (t : TicketFields) (what : ClosedAs) (c d : Closed) → IsClosed past (made c.current) t what c
    → IsClosed past (made d.current) t what d → c ≡ d
one_close_by past made t what c d x y =
    one_close past (made c.current) t what c d x (subst (λ (now : Bool). IsClosed past (made now) t what d) (y.now ∙ sym x.now) y)

-- of one ticket, whatever closes its poll
one_own : {A : Type 0} (past : Past) (t : TicketFields) (made : Bool → Record) (what : ClosedAs) (taken : A)
    → IsOneAnswer IsAny (OwnCloses t made what taken) past
one_own past t made what taken (Ok c) (Ok d) x y m n = ap Ok (one_close_by past made t what c d x.1 y.1)
one_own past t made what taken (Ok c) (Err e) x y m n = absurd (false≢true (sym y.0 ∙ x.0))
one_own past t made what taken (Err e) (Ok d) x y m n = absurd (false≢true (sym x.0 ∙ y.0))
one_own past t made what taken (Err e) (Err f) x y m n = ap Err (x.1 ∙ sym y.1)

one_any : {A : Type 0} (past : Past) (t : TicketFields) (made : Bool → Record) (what : ClosedAs) (taken : A)
    → IsOneAnswer IsAny (AnyCloses t made what taken) past
one_any past t made what taken (Ok c) (Ok d) x y m n = ap Ok (one_close_by past made t what c d x.1 y.1)
one_any past t made what taken (Ok c) (Err e) x y m n = absurd (y.0 x.0)
one_any past t made what taken (Err e) (Ok d) x y m n = absurd (x.0 y.0)
one_any past t made what taken (Err e) (Err f) x y m n = ap Err (x.1 ∙ sym y.1)

pub one_own_finish : (past : Past) (a : AppraisedFields) → IsOneAnswer IsAny (OwnFinishes a) past
one_own_finish past a = one_own past a.ticket (found_record a) (closed_by a.finding) a

pub one_finish : (past : Past) (a : AppraisedFields) → IsOneAnswer IsAny (Finishes a) past
one_finish past a = one_any past a.ticket (found_record a) (closed_by a.finding) a

pub one_own_loss : (past : Past) (t : TicketFields) (why : LostWhy) → IsOneAnswer IsAny (OwnLoses t why) past
one_own_loss past t why = one_own past t (lost_record t.poll why) (Lost why) t

pub one_loss : (past : Past) (t : TicketFields) (why : LostWhy) → IsOneAnswer IsAny (Loses t why) past
one_loss past t why = one_any past t (lost_record t.poll why) (Lost why) t

pub one_own_drop : (past : Past) (t : TicketFields) (why : DropWhy) → IsOneAnswer IsAny (OwnDrops t why) past
one_own_drop past t why = one_own past t (dropped_record t.poll why) (Dropped why) t

pub one_drop : (past : Past) (t : TicketFields) (why : DropWhy) → IsOneAnswer IsAny (Drops t why) past
one_drop past t why = one_any past t (dropped_record t.poll why) (Dropped why) t

-- ---- state
state_by : Op → ℕ → ℕ → State
state_by op g n = record { op = op; generation = g; accepted = n }

same_states : (s z : State) → s.op ≡ z.op → s.generation ≡ z.generation → s.accepted ≡ z.accepted → s ≡ z
unfolding state_by
same_states s z op generation accepted =
    let same : state_by s.op s.generation s.accepted ≡ state_by z.op z.generation z.accepted = cc in same

one_state_of : (past : Past) (a : List ℕ) (s z : State) → IsState (own past a) s → IsState (own past a) z → s ≡ z
one_state_of past a s z x y =
    let one = are_one (own past a) in
    let some = λ (i : Installed) (is : installed (own past a) ≡ Some i). ap is_some is in
    let op = same_Some s.op z.op (one.state (Some s.op) (Some z.op) (some x.with x.installed, x.op) (some y.with y.installed, y.op)) in
    let same = one_installed past a x.with y.with x.installed y.installed in
    let list = one.accepted x.accepted.0 y.accepted.0 x.accepted.1 y.accepted.1 x.accepted.2 y.accepted.2 in
    same_states s z op (x.generation ∙ ap (λ (i : Installed). i.generation) same ∙ sym y.generation)
    (sym x.accepted.3 ∙ ap (λ (l : List EntryFields). length l) list.0 ∙ y.accepted.3)

pub one_state : (past : Past) (a : List ℕ) → IsOneAnswer IsAny (StateAnswers a) past
one_state past a None None x y m n = refl
one_state past a None (Some z) x y m n = absurd (none-some y.with (sym x ∙ y.installed))
one_state past a (Some s) None x y m n = absurd (none-some x.with (sym y ∙ x.installed))
one_state past a (Some s) (Some z) x y m n = ap Some (one_state_of past a s z x y)

-- ---- pick
names_alike : (a b : List ℕ) → is_gt (slice_cmp nat_cmp a b) ≡ false → is_gt (slice_cmp nat_cmp b a) ≡ false → a ≡ b
names_alike a b le ge = by_order (slice_cmp nat_cmp a b) refl le (ap is_gt (sym (nat_list_cmp_total.antisymm b a)) ∙ ge) where
  by_order : (o : Ordering) → slice_cmp nat_cmp a b ≡ o → is_gt o ≡ false → is_gt (ordering_reverse o) ≡ false → a ≡ b
  by_order Less is le ge = absurd (false≢true (sym ge))
  by_order Equal is le ge = eq_same a b (sym (is_eq-slice_cmp a b) ∙ ap is_eq is)
  by_order Greater is le ge = absurd (false≢true (sym le))

not_ahead : (past : Past) (a b : List ℕ) → IsAhead past a b → IsAhead past b a → a ≡ b
not_ahead past a b (inl less) (inl more) = absurd (omega arith)
not_ahead past a b (inl less) (inr (same, _)) = absurd (omega arith)
not_ahead past a b (inr (same, _)) (inl more) = absurd (omega arith)
not_ahead past a b (inr (same, le)) (inr (_, ge)) = names_alike a b le ge

pub one_pick : (past : Past) (now : ℕ) → IsOneAnswer IsAny (PickAnswers now) past
one_pick past now None None x y m n = refl
one_pick past now None (Some b) x y m n = absurd (x b y.waiting)
one_pick past now (Some a) None x y m n = absurd (y a x.waiting)
one_pick past now (Some a) (Some b) x y m n = ap Some (not_ahead past a b (x.ahead b y.waiting) (y.ahead a x.waiting))

-- ---- notices
pub one_notice : (found : BookFields) → IsOneAnswer IsAny NoticeAnswers found
one_notice found p q x y m n = x ∙ sym y

pub one_mark : (found : BookFields) (number : ℕ) → IsOneAnswer IsAny (MarkAnswers number) found
one_mark found number true true x y m n = refl
one_mark found number true false x y m n = absurd (false≢true (y.1 (x.0 refl)))
one_mark found number false true x y m n = absurd (false≢true (x.1 (y.0 refl)))
one_mark found number false false x y m n = refl

-- ---- settlements
settlement_by : ℕ → Outcome → Bool → Option Op → Settlement
settlement_by n o now op = record { number = n; outcome = o; current = now; op = op }

same_settlements : (x y : Settlement) → x.number ≡ y.number → x.outcome ≡ y.outcome → x.current ≡ y.current → x.op ≡ y.op → x ≡ y
unfolding settlement_by
same_settlements x y number outcome current op =
    let same : settlement_by x.number x.outcome x.current x.op ≡ settlement_by y.number y.outcome y.current y.op = cc in same

one_settlement : (past : Past) (s : ShareFields) (o : Outcome) (x y : Settlement) → IsSettlement past s o x → IsSettlement past s o y → x ≡ y
one_settlement past s o x y one other =
    let now : x.current ≡ y.current = one.now ∙ sym other.now in
    let state = subst (λ (b : Bool). HasOp (own (Settled s.number o b ∷ past) s.agent) y.op) (sym now) other.state in
    same_settlements x y (one.number ∙ sym other.number) (one.outcome ∙ sym other.outcome) now
    ((are_one (own (Settled s.number o x.current ∷ past) s.agent)).state x.op y.op one.state state)

pub one_settle : (past : Past) (s : ShareFields) (o : Outcome) → IsOneAnswer IsAny (Settles s o) past
one_settle past s o (Ok a) (Ok b) x y m n = ap Ok (one_settlement past s o a b x.1 y.1)
one_settle past s o (Ok a) (Err e) x y m n = absurd (y.0 x.0)
one_settle past s o (Err e) (Ok b) x y m n = absurd (x.0 y.0)
one_settle past s o (Err e) (Err f) x y m n = ap Err (x.1 ∙ sym y.1)

pub one_own_settle : (past : Past) (s : ShareFields) (o : Outcome) → IsOneAnswer IsAny (OwnSettles s o) past
one_own_settle past s o (Ok a) (Ok b) x y m n = ap Ok (one_settlement past s o a b x.1 y.1)
one_own_settle past s o (Ok a) (Err e) x y m n = absurd (false≢true (sym y.0 ∙ x.0))
one_own_settle past s o (Err e) (Ok b) x y m n = absurd (false≢true (sym x.0 ∙ y.0))
one_own_settle past s o (Err e) (Err f) x y m n = ap Err (x.1 ∙ sym y.1)
