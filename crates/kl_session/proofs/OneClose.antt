-- A poll that is given up as lost, and a release that is settled: each is so in one way.
use Rattle.std.proofs.Common.{◌≡◌, ℕ, List, Some, Result, Ok, Err, inl, inr, sym, ap, ◌∙◌, subst}
use Rattle.std.proofs.lemmas.Bool.{false≢true}
use Rattle.std.proofs.lemmas.Option.{same_Some, none-some}
use Rattle.kl_states.specs.declared.outcome.LostWhy.TheVariants.{Named}
use Rattle.kl_states.specs.declared.outcome.Outcome.{Outcome}
use Rattle.kl_quote.specs.declared.evidence.Evidence.{Evidence}
use Rattle.kl_appraise.specs.Terms.{TermsFields}
use Rattle.kl_incr.specs.Kept.{TicketFields}
use Rattle.kl_history.specs.Records.{Past, is_open, Handing, handing_of, is_unsettled, terms_of}
use Rattle.kl_script.specs.declared.command.Settle.{Settle}
use Rattle.kl_script.specs.Deliveries.{outcome_of}
use Rattle.kl_core.specs.declared.closed.Closed.{Closed}
use Rattle.kl_core.specs.declared.settlement.Settlement.{Settlement}
use Rattle.kl_core.specs.declared.refusal.Refusal.{Refusal}
use Rattle.kl_core.specs.declared.refusal.Refusal.TheVariants.{NoPoll, NoRelease}
use Rattle.kl_core.specs.Answers.{IsAny}
use Rattle.kl_core.specs.Closes.{Loses, lose_makes}
use Rattle.kl_core.specs.Tickets.{IsOpenTicket}
use Rattle.kl_core.specs.Shares.{ShareFields, IsOpenShare, evidence_of, Settles, settle_makes}
use Rattle.kl_core.proofs.OneAnswer.{one_loss, one_settle}
use Rattle.kl_session.specs.Calls.{VerifierFields, past as past_at, Answered, FindsNoPoll, FindsNoRelease}
use Rattle.kl_session.specs.Losing.{says_closed, LosesPoll, DoesLose}
use Rattle.kl_session.specs.Releasing.{says_settled, SettlesRelease, DoesSettle}
use Rattle.kl_session.proofs.OneCall.{one_call}
use Rattle.kl_session.proofs.OneReply.{one_open_ticket, not_both, one_refusal}

-- ---- a poll that is given up as lost

lost_open : (past : Past) (t : TicketFields) (a : Result Closed (Refusal × TicketFields)) (line : List ℕ) → Loses t Named a past → says_closed a ≡ Some line
    → IsOpenTicket past t
lost_open past t (Ok c) line is said = is.0
lost_open past t (Err e) line is said = absurd (none-some line said)

one_loss_of : (p : ℕ) (s x y : VerifierFields) (l m : List ℕ) → LosesPoll p s x l → LosesPoll p s y m → (x ≡ y) × (l ≡ m)
one_loss_of p s x y l m (t, at, f) (u, on, g) =
    let same : t ≡ u = one_open_ticket (past_at s) t u (at ∙ sym on) (lost_open (past_at s) t f.answer l f.answers f.said)
    (lost_open (past_at s) u g.answer m g.answers g.said) in
    one_call IsAny (Loses t Named) (lose_makes t Named) says_closed (λ a line said. tt) s x y l m (one_loss (past_at s) t Named) f
    (subst (λ (v : TicketFields). Answered (Loses v Named) (lose_makes v Named) says_closed s y m) (sym same) g)

lost_not_closed : (p : ℕ) (s x y : VerifierFields) (l m : List ℕ) → LosesPoll p s x l → ¬ (FindsNoPoll p s y m)
lost_not_closed p s x y l m (t, at, f) = not_both p s y m t (lost_open (past_at s) t f.answer l f.answers f.said) at

pub one_lose : (p : ℕ) (s x y : VerifierFields) (l m : List ℕ) → DoesLose p s x l → DoesLose p s y m → (x ≡ y) × (l ≡ m)
one_lose p s x y l m (inl f) (inl g) = one_loss_of p s x y l m f g
one_lose p s x y l m (inl f) (inr g) = absurd (lost_not_closed p s x y l m f g)
one_lose p s x y l m (inr f) (inl g) = absurd (lost_not_closed p s y x m l g f)
one_lose p s x y l m (inr f) (inr g) = one_refusal (is_open (past_at s) p) (NoPoll p) s x y l m f g

-- ---- a release that is settled

share_by : ℕ → List ℕ → ℕ → ℕ → List ℕ → List ℕ → List ℕ → ShareFields
share_by number agent generation poll v public contact =
    record { number = number; agent = agent; generation = generation; poll = poll; v = v; public = public; contact = contact }

same_shares : (s z : ShareFields) → s.number ≡ z.number → s.agent ≡ z.agent → s.generation ≡ z.generation → s.poll ≡ z.poll → s.v ≡ z.v
    → s.public ≡ z.public → s.contact ≡ z.contact → s ≡ z
unfolding share_by
same_shares s z number agent generation poll v public contact =
    let same : share_by s.number s.agent s.generation s.poll s.v s.public s.contact
    ≡ share_by z.number z.agent z.generation z.poll z.v z.public z.contact = cc in same

-- an open release has one share
one_open_share : (past : Past) (s z : ShareFields) → s.number ≡ z.number → IsOpenShare past s → IsOpenShare past z → s ≡ z
one_open_share past s z number (_, f) (_, g) =
    let first : Handing = record { agent = s.agent; generation = s.generation; poll = s.poll } in
    let second : Handing = record { agent = z.agent; generation = z.generation; poll = z.poll } in
    let same : first ≡ second = same_Some first second (sym f.released ∙ ap (λ n. handing_of past n) number ∙ g.released) in
    let generation = ap (λ (h : Handing). h.generation) same in
    let poll = ap (λ (h : Handing). h.poll) same in
    let terms : f.terms ≡ g.terms = same_Some f.terms g.terms (sym f.under ∙ ap (λ n. terms_of past n) generation ∙ g.under) in
    let evidence : f.evidence ≡ g.evidence = same_Some f.evidence g.evidence (sym f.passed ∙ ap (λ n. evidence_of past n) poll ∙ g.passed) in
    same_shares s z number (ap (λ (h : Handing). h.agent) same) generation poll
    (same_Some s.v z.v (sym f.v ∙ ap (λ (t : TermsFields). t.v) terms ∙ g.v))
    (sym f.public ∙ ap (λ (e : Evidence). e.public) evidence ∙ g.public)
    (sym f.contact ∙ ap (λ (t : TermsFields). t.contact) terms ∙ g.contact)

settled_open : (past : Past) (z : ShareFields) (o : Outcome) (a : Result Settlement (Refusal × ShareFields)) (line : List ℕ) → Settles z o a past
    → says_settled a ≡ Some line → IsOpenShare past z
settled_open past z o (Ok x) line is said = is.0
settled_open past z o (Err e) line is said = absurd (none-some line said)

one_settlement_of : (n : ℕ) (o : Outcome) (s x y : VerifierFields) (l m : List ℕ) → SettlesRelease n o s x l → SettlesRelease n o s y m → (x ≡ y) × (l ≡ m)
one_settlement_of n o s x y l m (z, at, f) (w, on, g) =
    let same : z ≡ w = one_open_share (past_at s) z w (at ∙ sym on) (settled_open (past_at s) z o f.answer l f.answers f.said)
    (settled_open (past_at s) w o g.answer m g.answers g.said) in
    one_call IsAny (Settles z o) (settle_makes z o) says_settled (λ a line said. tt) s x y l m (one_settle (past_at s) z o) f
    (subst (λ (v : ShareFields). Answered (Settles v o) (settle_makes v o) says_settled s y m) (sym same) g)

-- an open release is not refused
settled_not_closed : (n : ℕ) (o : Outcome) (s x y : VerifierFields) (l m : List ℕ) → SettlesRelease n o s x l → ¬ (FindsNoRelease n s y m)
settled_not_closed n o s x y l m (z, at, f) (shut, _, _) =
    let opened = (settled_open (past_at s) z o f.answer l f.answers f.said).0 in
    false≢true (sym shut ∙ ap (λ k. is_unsettled (past_at s) k) (sym at) ∙ opened)

pub one_settle_done : (c : Settle) (s x y : VerifierFields) (l m : List ℕ) → DoesSettle c s x l → DoesSettle c s y m → (x ≡ y) × (l ≡ m)
one_settle_done c s x y l m (inl f) (inl g) = one_settlement_of c.number (outcome_of c.delivery) s x y l m f g
one_settle_done c s x y l m (inl f) (inr g) = absurd (settled_not_closed c.number (outcome_of c.delivery) s x y l m f g)
one_settle_done c s x y l m (inr f) (inl g) = absurd (settled_not_closed c.number (outcome_of c.delivery) s y x m l g f)
one_settle_done c s x y l m (inr f) (inr g) = one_refusal (is_unsettled (past_at s) c.number) (NoRelease c.number) s x y l m f g
