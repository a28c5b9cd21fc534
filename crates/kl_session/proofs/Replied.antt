-- How a reply closes its poll, a poll is given up as lost, and a release is settled.
use Rattle.std.proofs.Common.{◌≡◌, ◌≢◌, ◌⊎◌, All, ℕ, Bool, false, List, [], ◌∷◌, ◌++◌, Some, Result, Ok, Err, inl, inr, refl, ap, sym, ◌∙◌, subst, eqb}
use Rattle.std.specs.Result.{IfOk, IfErr}
use Rattle.kl_quote.specs.declared.evidence.Evidence.{Evidence}
use Rattle.kl_states.specs.declared.outcome.DropWhy.{DropWhy}
use Rattle.kl_states.specs.declared.outcome.DropWhy.TheVariants.{Keys, Memory, End}
use Rattle.kl_states.specs.declared.outcome.LostWhy.TheVariants.{Named}
use Rattle.kl_states.specs.declared.outcome.Outcome.{Outcome}
use Rattle.kl_appraise.specs.Asking.{Asked, AskedOnce}
use Rattle.kl_appraise.specs.Evidence.{check_under}
use Rattle.kl_appraise.specs.QuoteRules.{IsAnswered, IsUnasked}
use Rattle.kl_appraise.specs.declared.judged.Outcome.{Outcome as Finding}
use Rattle.kl_appraise.specs.declared.judged.Outcome.TheVariants as finding
use Rattle.kl_incr.specs.Kept.{TicketFields}
use Rattle.kl_incr.specs.Appraisal.{IsIdle, AppraisedFields, IsBlamed}
use Rattle.kl_history.specs.declared.record.Record.{Record}
use Rattle.kl_history.specs.declared.record.Record.TheVariants.{Dropped, Settled}
use Rattle.kl_history.specs.Records.{History, Past, past_of, begins, closes, releases, settles}
use Rattle.kl_history.specs.Legal.{IsLegalPast, Legal, Row}
use Rattle.kl_core.specs.declared.closed.Closed.{Closed}
use Rattle.kl_core.specs.Books.{BookFields, past as past_at, with_more as and_more}
use Rattle.kl_core.specs.declared.closed.ClosedAs.TheVariants as closed
use Rattle.kl_core.specs.Closes.{IsClosed, closed_by, record_by, lost_record, Loses, lose_makes}
use Rattle.kl_core.proofs.OneMore.{past_of-snoc}
use Rattle.kl_session.specs.Outside.{Outside}
use Rattle.kl_core.specs.declared.refusal.Refusal.TheVariants.{NoPoll, NoRelease}
use Rattle.kl_core.specs.Tickets.{IsOpenTicket}
use Rattle.kl_core.specs.declared.settlement.Settlement.{Settlement}
use Rattle.kl_core.specs.Shares.{ShareFields, IsSettlement, Settles, settle_makes}
use Rattle.kl_script.specs.declared.command.Settle.{Settle}
use Rattle.kl_script.specs.Deliveries.{outcome_of}
use Rattle.kl_script.specs.Commands.{ReplyFields}
use Rattle.kl_session.specs.Calls.{VerifierFields, past, with_more, verifier_of, book_of, FindsNoPoll, FindsNoRelease}
use Rattle.kl_session.specs.Losing.{DoesLose, says_closed}
use Rattle.kl_session.specs.Releasing.{SettlesRelease, DoesSettle, says_settled}
use Rattle.kl_session.specs.Texts.{closed_line, settled_line, says_refused}
use Rattle.kl_session.specs.Replies.{Appraisal, DoesReply, Finds, Unanswered, Short, IsToAsk, Costs, closing_record, fields_of}
use Rattle.kl_session.specs.Inner.Tickets.{AreTickets, AreShares, AreKept, Takes}
use Rattle.kl_session.specs.declared.stop.Stop.{Stop}
use Rattle.kl_session.specs.declared.stop.Stop.TheVariants.{Memory as no_memory}
use Rattle.kl_session.specs.Inner.Stopping.{IsShort}
use Rattle.kl_session.proofs.Commands.{Made, done_of}
use Rattle.kl_session.proofs.Opened.{Kind, tickets, shares, AreOf, PassesBy, ClosesOne, closed_taken, passed_taken, taken_opened, none_of}
use Rattle.kl_session.specs.Inner.Closed.{IsFound, ClosesBook}

some_same : {A : Type 0} {x y : A} → Some x ≡ Some y → x ≡ y
some_same same = cc

same_verifier : (s t : VerifierFields) → book_of s ≡ book_of t → s.moment ≡ t.moment → s ≡ t
same_verifier s t book moment = ap (λ b. verifier_of b s.moment) book ∙ ap (verifier_of (book_of t)) moment

found_by_row : (past : Past) (p : ℕ) (e : Evidence) (s : Bool) (f : Finding) (c : Bool) → Row past (record_by p e s f c) → IsFound past p e s f
found_by_row past p e s (finding.Verdict v) c row = row.1
found_by_row past p e s finding.Restart c row = row.2

-- a history stays legal by what was found, so the rules find it
pub found_in : (H : History) (p : ℕ) (e : Evidence) (s : Bool) (f : Finding) (c : Bool) → Legal (H ++ record_by p e s f c ∷ []) → IsFound (past_of H) p e s f
found_in H p e s f c legal = found_by_row (past_of H) p e s f c (subst IsLegalPast (past_of-snoc H (record_by p e s f c)) legal).1

-- by what was found of the reply
pub found_closes : (o o' : Outside) (b b' : BookFields) (t : TicketFields) (e : Evidence) (a : AppraisedFields) (c : Closed) → a.ticket ≡ t → a.evidence ≡ e
    → IsFound (past_at b) a.ticket.poll a.evidence a.signed a.finding
    → IsAnswered o.keys.relations t.terms.ak (check_under t.terms t.nonce e a.signed)
    → (IsUnasked (check_under t.terms t.nonce e false) ⊎ Asked o.keys o'.keys t.terms.ak e.quote (Some a.signed))
    → ((o'.keys ≡ o.keys) ⊎ IsToAsk t e) → o'.words ≡ o.words → o'.maker ≡ o.maker → Costs e.list o.steps o'.steps
    → IsClosed (past_at b) (record_by a.ticket.poll a.evidence a.signed a.finding c.current) a.ticket (closed_by a.finding) c
    → b' ≡ and_more (record_by a.ticket.poll a.evidence a.signed a.finding c.current ∷ []) b
    → ClosesBook o o' b t e c b'
found_closes o o' b b' t e a c same_t same_e found answered question unasked undrawn unmade cost is_closed grown = (
  record_by a.ticket.poll a.evidence a.signed a.finding c.current,
  grown,
  record {
    appraisal = Finds a.signed a.finding;
    went = record {
      case = found.0;
      poll_case = rw (← same_t, ← same_e) found.1;
      outcome = found.2;
      answered = answered;
      asked = λ ask. elim question [ inl un ↦ absurd (ask un) | inr asked ↦ asked ];
      spared = λ un. elim unasked [ inl same ↦ same | inr ask ↦ absurd (ask un) ];
      cost = cost;
    };
    undrawn = undrawn;
    unmade = unmade;
    by_record = rw (← same_t, ← same_e) refl;
    told = rw (← same_t) is_closed;
  },
)

-- without a finding
pub dropped_closes : (o o' : Outside) (b b' : BookFields) (t u : TicketFields) (e : Evidence) (why : DropWhy) (c : Closed) → u ≡ t
    → IsBlamed why o.keys o'.keys t e → ((o'.keys ≡ o.keys) ⊎ IsToAsk t e) → ((o'.keys ≡ o.keys) ⊎ AskedOnce o.keys o'.keys t.terms.ak e.quote)
    → o'.words ≡ o.words → o'.maker ≡ o.maker → IsIdle why t o.steps o'.steps → Costs e.list o.steps o'.steps
    → IsClosed (past_at b) (Dropped u.poll why) u (closed.Dropped why) c → b' ≡ and_more (Dropped u.poll why ∷ []) b → ClosesBook o o' b t e c b'
dropped_closes o o' b b' t u e Keys c same blamed unasked once undrawn unmade idle cost is_closed grown = (
  Dropped u.poll Keys,
  grown,
  record {
    appraisal = Unanswered;
    went = (blamed.0, blamed.1, idle);
    undrawn = undrawn;
    unmade = unmade;
    by_record = ap (λ (v : TicketFields). Dropped v.poll Keys) same;
    told = rw (← same) is_closed;
  },
)
dropped_closes o o' b b' t u e Memory c same blamed unasked once undrawn unmade idle cost is_closed grown = (
  Dropped u.poll Memory,
  grown,
  record {
    appraisal = Short;
    went = (
      elim unasked [
        | inl same_keys ↦ inl same_keys
        | inr ask ↦ elim once [ inl same_keys ↦ inl same_keys | inr asked ↦ inr (ask, asked) ]
      ],
      blamed,
      idle,
      cost,
    );
    undrawn = undrawn;
    unmade = unmade;
    by_record = ap (λ (v : TicketFields). Dropped v.poll Memory) same;
    told = rw (← same) is_closed;
  },
)
dropped_closes o o' b b' t u e End c same blamed unasked once undrawn unmade idle cost is_closed grown = absurd blamed

-- ---- one is taken out and closed

-- the record closes this one of the one kind, and leaves the other kind alone
record ClosesAlone {X Y : Type 0} (k : Kind X) (j : Kind Y) (n : ℕ) (r : Record) : Type 0 where
  closes_it : ClosesOne k n r
  leaves_others : PassesBy j r

-- it is not kept any more, and all others are
closed_alone : {X Y : Type 0} (k : Kind X) (j : Kind Y) (b b' : BookFields) (xs others : List X) (ys : List Y) (x : X) (r : Record) → Takes xs x others
    → ClosesAlone k j (k.number x) r → b' ≡ and_more (r ∷ []) b → Legal b'.history → AreOf k (past_at b) xs → AreOf j (past_at b) ys
    → AreOf k (past_at b') others × AreOf j (past_at b') ys
closed_alone k j b b' xs others ys x r taken alone grown legal are rest =
    (closed_taken k b b' r xs others x taken alone.closes_it grown legal are, passed_taken j b b' r ys alone.leaves_others grown legal rest)

poll_alone : (p : ℕ) (r : Record) → ((q : ℕ) → closes q r ≡ eqb q p) → ((q : ℕ) → begins q r ≡ false) → ((n : ℕ) → releases n r ≡ false) → ((n : ℕ) → settles n r ≡ false)
    → ClosesAlone tickets shares p r
poll_alone p r shuts begins_none releases_none settles_none = record {
  closes_it = record { opens_none = begins_none; closes_it = shuts };
  leaves_others = record { opens_none = releases_none; closes_none = settles_none };
}

closing_alone : (p : ℕ) (e : Evidence) (a : Appraisal) (c : Bool) → ClosesAlone tickets shares p (closing_record p e a c)
closing_alone p e (Finds s (finding.Verdict v)) c = poll_alone p _ (λ q. refl) (λ q. refl) (λ n. refl) (λ n. refl)
closing_alone p e (Finds s finding.Restart) c = poll_alone p _ (λ q. refl) (λ q. refl) (λ n. refl) (λ n. refl)
closing_alone p e Unanswered c = poll_alone p _ (λ q. refl) (λ q. refl) (λ n. refl) (λ n. refl)
closing_alone p e Short c = poll_alone p _ (λ q. refl) (λ q. refl) (λ n. refl) (λ n. refl)

poll_closed : (b b' : BookFields) (ts others : List TicketFields) (ss : List ShareFields) (t : TicketFields) (r : Record) → Takes ts t others
    → ClosesAlone tickets shares t.poll r → b' ≡ and_more (r ∷ []) b → Legal b'.history → AreKept (past_at b) ts ss → AreKept (past_at b') others ss
poll_closed b b' ts others ss t r taken alone grown legal are =
    let both = closed_alone tickets shares b b' ts others ss t r taken alone grown legal are.tickets_are are.shares_are in
    record { tickets_are = both.0; shares_are = both.1 }

-- ---- its line is said, or memory runs out for it

pub said_of : {X : Type 0} (bytes : X → List ℕ) (r : Result X Stop) (Did : List ℕ → Type 0) (text : List ℕ) → Did text → IfOk r (λ line. bytes line ≡ text)
    → IfOk r (λ line. Did (bytes line))
said_of bytes (Ok line) Did text did said = subst Did (sym said) did
said_of bytes (Err why) Did text did said = said

pub unsaid_of : {X S : Type 0} (r : Result X Stop) (s s' : S) (Did : List ℕ → Type 0) (text : List ℕ) → Did text → IfErr r (λ stop. stop ≡ no_memory)
    → IfErr r (λ stop. IsShort stop s s' Did)
unsaid_of (Ok line) s s' Did text did short = short
unsaid_of (Err why) s s' Did text did short = (short, inl (text, did))

-- ---- a reply closes its poll

pub closed_kept : (o o' : Outside) (b b' : BookFields) (ts others : List TicketFields) (ss : List ShareFields) (t : TicketFields) (e : Evidence) (c : Closed)
    → Takes ts t others → ClosesBook o o' b t e c b' → Legal b'.history → AreKept (past_at b) ts ss → AreKept (past_at b') others ss
closed_kept o o' b b' ts others ss t e c taken by legal are =
    poll_closed b b' ts others ss t by.0 taken
    (subst (ClosesAlone tickets shares t.poll) (sym by.2.by_record) (closing_alone t.poll e by.2.appraisal c.current)) by.1 legal are

pub closes_session : (o o' : Outside) (r : ReplyFields) (s s' : VerifierFields) (t : TicketFields) (e : Evidence) (c : Closed) (line : List ℕ)
    → IsOpenTicket (past s) t → fields_of t.poll e ≡ r → ClosesBook o o' (book_of s) t e c (book_of s') → s'.moment ≡ s.moment → line ≡ closed_line c
    → DoesReply o o' r s s' line
closes_session o o' r s s' t e c line opened carries b same said = inl (record {
  ticket = t;
  opened = opened;
  evidence = e;
  carries = carries;
  made = b.0;
  closed = c;
  closes = b.2;
  after = same_verifier s' (with_more (b.0 ∷ []) s) b.1 same;
  said = said;
})

pub finds_no_poll : (p : ℕ) (s : VerifierFields) (ts : List TicketFields) (line : List ℕ) → AreTickets (past s) ts → All (λ t. t.poll ≢ p) ts
    → says_refused (NoPoll p) ≡ Some line → FindsNoPoll p s s line
finds_no_poll p s ts line are none said = (none_of tickets (past s) ts p are none, refl, sym (some_same said))

-- ---- a poll is given up as lost

pub lost_kept : (b b' : BookFields) (ts others : List TicketFields) (ss : List ShareFields) (t : TicketFields) (now : Bool) → Takes ts t others
    → b' ≡ and_more (lost_record t.poll Named now ∷ []) b → Legal b'.history → AreKept (past_at b) ts ss → AreKept (past_at b') others ss
lost_kept b b' ts others ss t now taken grown legal are =
    poll_closed b b' ts others ss t (lost_record t.poll Named now) taken (poll_alone t.poll (lost_record t.poll Named now) (λ q. refl) (λ q. refl) (λ n. refl) (λ n. refl)) grown legal are

pub loses_poll : (b b' : BookFields) (m : ℕ) (ts others : List TicketFields) (t : TicketFields) (p : ℕ) (c : Closed) → AreTickets (past_at b) ts → Takes ts t others
    → t.poll ≡ p → IsClosed (past_at b) (lost_record t.poll Named c.current) t (closed.Lost Named) c → b' ≡ and_more (lost_record t.poll Named c.current ∷ []) b
    → DoesLose p (verifier_of b m) (verifier_of b' m) (closed_line c)
loses_poll b b' m ts others t p c are taken poll told grown =
    let made : Made (Loses t Named) (lose_makes t Named) b b' (Ok c) = record { answers = (taken_opened tickets (past_at b) ts others t taken are, told); grown = grown } in
    inl (t, poll, done_of made says_closed m (closed_line c) refl)

-- ---- a release is settled

pub settled_kept : (b b' : BookFields) (ts : List TicketFields) (ss others : List ShareFields) (x : ShareFields) (o : Outcome) (now : Bool) → Takes ss x others
    → b' ≡ and_more (Settled x.number o now ∷ []) b → Legal b'.history → AreKept (past_at b) ts ss → AreKept (past_at b') ts others
settled_kept b b' ts ss others x o now taken grown legal are =
    let alone : ClosesAlone shares tickets x.number (Settled x.number o now) =
    record { closes_it = record { opens_none = λ n. refl; closes_it = λ n. refl }; leaves_others = record { opens_none = λ p. refl; closes_none = λ p. refl } } in
    let both = closed_alone shares tickets b b' ss others ts x (Settled x.number o now) taken alone grown legal are.shares_are are.tickets_are in
    record { tickets_are = both.1; shares_are = both.0 }

pub settles_release : (b b' : BookFields) (m : ℕ) (ss others : List ShareFields) (x : ShareFields) (c : Settle) (o : Outcome) (y : Settlement) → o ≡ outcome_of c.delivery
    → AreShares (past_at b) ss → Takes ss x others → x.number ≡ c.number → IsSettlement (past_at b) x o y → b' ≡ and_more (Settled x.number o y.current ∷ []) b
    → DoesSettle c (verifier_of b m) (verifier_of b' m) (settled_line y)
settles_release b b' m ss others x c o y outcome are taken number told grown =
    let made : Made (Settles x o) (settle_makes x o) b b' (Ok y) = record { answers = (taken_opened shares (past_at b) ss others x taken are, told); grown = grown } in
    inl (subst (λ (p : Outcome). SettlesRelease c.number p (verifier_of b m) (verifier_of b' m) (settled_line y)) outcome
    (x, number, done_of made says_settled m (settled_line y) refl))

pub finds_no_release : (n : ℕ) (s : VerifierFields) (ss : List ShareFields) (line : List ℕ) → AreShares (past s) ss → All (λ x. x.number ≢ n) ss
    → says_refused (NoRelease n) ≡ Some line → FindsNoRelease n s s line
finds_no_release n s ss line are none said = (none_of shares (past s) ss n are none, refl, sym (some_same said))
