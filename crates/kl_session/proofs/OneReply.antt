-- A reply closes its poll in one way, where the key object meets no fault and memory suffices.
use Rattle.std.proofs.Common.{◌≡◌, ℕ, ◌≤◌, Bool, false, List, [], ◌∷◌, Option, Some, inl, inr, refl, sym, ap, ◌∙◌, subst, arith}
use Rattle.std.proofs.Math.Bridge.{le_prop}
use Rattle.std.proofs.lemmas.Bool.{false≢true}
use Rattle.std.proofs.lemmas.Option.{same_Some}
use Rattle.std.proofs.lemmas.List.Elements.{All-head}
use Rattle.std.specs.Prelude.{All}
use Rattle.kl_io.specs.Calls.{Rose}
use Rattle.kl_entry.specs.Entries.{EntryFields}
use Rattle.kl_keys.specs.Relations.{Relations}
use Rattle.kl_quote.specs.Size.{total_bytes}
use Rattle.kl_quote.specs.declared.evidence.Evidence.{Evidence}
use Rattle.kl_quote.specs.declared.evidence.TheConstants.{EVIDENCE_LIMIT}
use Rattle.kl_appraise.specs.declared.judged.Boot.{Boot}
use Rattle.kl_appraise.specs.Terms.{TermsFields}
use Rattle.kl_appraise.specs.Kept.{from_of}
use Rattle.kl_appraise.specs.Evidence.{check_under}
use Rattle.kl_appraise.specs.QuoteRules.{IsAnswered}
use Rattle.kl_appraise.specs.ListRules.{Case}
use Rattle.kl_appraise.specs.declared.judged.Outcome.{Outcome as Finding}
use Rattle.kl_appraise.specs.Outcome.{IsOutcome}
use Rattle.kl_appraise.proofs.OneOutcome.{one_outcome, one_answer}
use Rattle.kl_incr.specs.Kept.{TicketFields}
use Rattle.kl_script.specs.Commands.{ReplyFields}
use Rattle.kl_history.specs.declared.record.Record.{Record}
use Rattle.kl_history.specs.Records.{Past, Beginning, start_of, terms_of, own, is_open}
use Rattle.kl_history.specs.Accepted.{WasAccepted}
use Rattle.kl_history.specs.Legal.{IsLegalPast, Legal, IsCaseOf}
use Rattle.kl_history.proofs.OwnRecords.{begin_at, was_accepted}
use Rattle.kl_history.proofs.OneStanding.{are_one}
use Rattle.kl_core.specs.declared.closed.Closed.{Closed}
use Rattle.kl_core.specs.declared.refusal.Refusal.{Refusal}
use Rattle.kl_core.specs.declared.refusal.Refusal.TheVariants.{NoPoll}
use Rattle.kl_core.specs.Closes.{IsClosed, closed_by, record_by}
use Rattle.kl_core.specs.Tickets.{IsOpenTicket}
use Rattle.kl_core.proofs.OneAnswer.{same_tickets, one_close_by}
use Rattle.kl_session.specs.Outside.{Outside}
use Rattle.kl_session.specs.Calls.{VerifierFields, past as past_at, with_more, FindsNone, FindsNoPoll}
use Rattle.kl_session.specs.Texts.{closed_line}
use Rattle.kl_session.specs.Replies.{Appraisal, Finds, Unanswered, Short, fields_of, IsFinding, Went, closed_as, closing_record}
use Rattle.kl_session.specs.Replies.{ClosesPoll, DoesReply}
use Rattle.kl_session.specs.Unique.{is_short, LacksNothing}
use Rattle.kl_session.proofs.Opened.{all_right}

-- ---- evidence is its parts, and an open poll has one ticket

built : (r : ReplyFields) → total_bytes r.bank r.public r.quote r.list ≤ EVIDENCE_LIMIT → Evidence
built r h = record { bank = r.bank; start = r.start; public = r.public; quote = r.quote; list = r.list; bounded = h }

pub one_evidence : (p q : ℕ) (e f : Evidence) → fields_of p e ≡ fields_of q f → e ≡ f
unfolding built
one_evidence p q e f same =
    subst (λ (r : ReplyFields). (h : total_bytes r.bank r.public r.quote r.list ≤ EVIDENCE_LIMIT) → e ≡ built r h) same
    (λ h. ap (built (fields_of p e)) (le_prop e.bounded h)) f.bounded

pub one_open_ticket : (past : Past) (t u : TicketFields) → t.poll ≡ u.poll → IsOpenTicket past t → IsOpenTicket past u → t ≡ u
one_open_ticket past t u poll (_, f) (_, g) =
    let first : Beginning = record { agent = t.agent; generation = t.generation; nonce = t.nonce; at = f.at; from = from_of t.kept } in
    let second : Beginning = record { agent = u.agent; generation = u.generation; nonce = u.nonce; at = g.at; from = from_of u.kept } in
    let same : first ≡ second = same_Some first second (sym f.began ∙ ap (λ q. start_of past q) poll ∙ g.began) in
    let generation = ap (λ (s : Beginning). s.generation) same in
    same_tickets t u poll (ap (λ (s : Beginning). s.agent) same) generation (ap (λ (s : Beginning). s.nonce) same)
    (same_Some t.terms u.terms (sym f.terms ∙ ap (λ n. terms_of past n) generation ∙ g.terms)) (f.kept ∙ sym g.kept)

-- ---- what a reply is appraised as

accepted_before : (past : Past) (p : ℕ) (s : Beginning) (xs ys : List EntryFields) (b c : Boot) → IsLegalPast past → start_of past p ≡ Some s
    → WasAccepted p (own past s.agent) xs b → WasAccepted p (own past s.agent) ys c → (xs ≡ ys) × (b ≡ c)
accepted_before past p s xs ys b c legal began x y =
    let at = begin_at past p s began in
    (are_one (own at.0 s.agent)).accepted xs ys b c (was_accepted p s.agent s.generation s.nonce s.at s.from xs b legal at.1 x)
    (was_accepted p s.agent s.generation s.nonce s.at s.from ys c legal at.1 y)

case_by : TermsFields → List ℕ → ℕ → List EntryFields → Boot → Evidence → Bool → Case
case_by t n from prefix boot e signed =
    record { terms = t; nonce = n; from = from; prefix = prefix; boot = boot; evidence = e; signed = signed }

one_case : (past : Past) (p : ℕ) (e : Evidence) (said : Bool) (c d : Case) → IsLegalPast past → IsCaseOf past p e said c → IsCaseOf past p e said d → c ≡ d
unfolding case_by
one_case past p e said c d legal x y =
    let start = same_Some x.started y.started (sym x.began ∙ y.began) in
    let was = subst (λ (s : Beginning). WasAccepted p (own past s.agent) d.prefix d.boot) (sym start) y.accepted in
    let accepted = accepted_before past p x.started c.prefix d.prefix c.boot d.boot legal x.began x.accepted was in
    let terms = same_Some c.terms d.terms (sym x.terms ∙ ap (λ (s : Beginning). terms_of past s.generation) start ∙ y.terms) in
    let nonce = x.nonce ∙ ap (λ (s : Beginning). s.nonce) start ∙ sym y.nonce in
    let from = x.from ∙ ap (λ (s : Beginning). s.from) start ∙ sym y.from in
    let prefix = accepted.0 in
    let boot = accepted.1 in
    let evidence = x.evidence ∙ sym y.evidence in
    let signed = x.signed ∙ sym y.signed in
    let same : case_by c.terms c.nonce c.from c.prefix c.boot c.evidence c.signed ≡ case_by d.terms d.nonce d.from d.prefix d.boot d.evidence d.signed =
    cc in same

-- ---- what is found of it

-- a close by what the rules find
record ClosesAs (o o' : Outside) (past : Past) (t : TicketFields) (e : Evidence) (made : Record) (c : Closed) : Type 0 where
  pub signed : Bool
  pub found : Finding
  pub finding : IsFinding o o' past t e signed found
  pub by_record : made ≡ record_by t.poll e signed found c.current
  pub told : IsClosed past made t (closed_by found) c

-- is what a close is, where the key object meets no fault and memory suffices
finds : (o o' : Outside) (past : Past) (t : TicketFields) (e : Evidence) (made : Record) (c : Closed) (a : Appraisal)
    → ¬ (Rose o.keys.calls.faults o'.keys.calls.faults) → is_short made ≡ false
    → Went o o' past t e a → made ≡ closing_record t.poll e a c.current → IsClosed past made t (closed_as a) c → ClosesAs o o' past t e made c
finds o o' past t e made c (Finds signed found) faultless ample went by_record told =
    record { signed = signed; found = found; finding = went; by_record = by_record; told = told }
finds o o' past t e made c Unanswered faultless ample went by_record told = absurd (faultless (omega (arith, (went.1.counted.met refl).0)))
finds o o' past t e made c Short faultless ample went by_record told = absurd (false≢true (sym ample ∙ ap is_short by_record))

one_finding : (relations : Relations) (o o' p p' : Outside) (past : Past) (t : TicketFields) (e : Evidence) (s z : Bool) (f g : Finding) → IsLegalPast past
    → o.keys.relations ≡ Some relations → p.keys.relations ≡ Some relations → IsFinding o o' past t e s f → IsFinding p p' past t e z g → (s ≡ z) × (f ≡ g)
one_finding relations o o' p p' past t e s z f g legal first second x y =
    let by = λ (told : Option Relations) (said : Bool). IsAnswered told t.terms.ak (check_under t.terms t.nonce e said) in
    let answer : s ≡ z = one_answer relations t.terms.ak (check_under t.terms t.nonce e false) s z
    (subst (λ (told : Option Relations). by told s) first x.answered) (subst (λ (told : Option Relations). by told z) second y.answered) in
    let as_told = subst (λ (said : Bool). IsCaseOf past t.poll e said y.case) (sym answer) y.poll_case in
    let case = one_case past t.poll e s x.case y.case legal x.poll_case as_told in
    (answer, one_outcome x.case f g x.outcome (subst (λ (k : Case). IsOutcome k g) (sym case) y.outcome))

one_close_as : (relations : Relations) (o o' p p' : Outside) (past : Past) (t : TicketFields) (e : Evidence) (m n : Record) (c d : Closed) → IsLegalPast past
    → o.keys.relations ≡ Some relations → p.keys.relations ≡ Some relations → ClosesAs o o' past t e m c → ClosesAs p p' past t e n d → (m ≡ n) × (c ≡ d)
one_close_as relations o o' p p' past t e m n c d legal first second x y =
    let same = one_finding relations o o' p p' past t e x.signed y.signed x.found y.found legal first second x.finding y.finding in
    let first_so = subst (λ (r : Record). IsClosed past r t (closed_by x.found) c) x.by_record x.told in
    let second_so = subst (λ (r : Record). IsClosed past r t (closed_by y.found) d) y.by_record y.told in
    let as_signed = subst (λ (s : Bool). IsClosed past (record_by t.poll e s y.found d.current) t (closed_by y.found) d) (sym same.0) second_so in
    let as_found = subst (λ (f : Finding). IsClosed past (record_by t.poll e x.signed f d.current) t (closed_by f) d) (sym same.1) as_signed in
    let closed = one_close_by past (record_by t.poll e x.signed x.found) t (closed_by x.found) c d first_so as_found in (
      x.by_record ∙ ap (λ s. record_by t.poll e s x.found c.current) same.0 ∙ ap (λ f. record_by t.poll e y.signed f c.current) same.1
          ∙ ap (λ (k : Closed). record_by t.poll e y.signed y.found k.current) closed ∙ sym y.by_record,
      closed,
    )

-- ---- the reply

-- the objects that were asked: the relations that the key object tells, and that it met no fault
pub record Answering (relations : Relations) (o o' : Outside) : Type 0 where
  pub related : o.keys.relations ≡ Some relations
  pub faultless : ¬ (Rose o.keys.calls.faults o'.keys.calls.faults)

made_ample : (s x : VerifierFields) (made : Record) → x ≡ with_more (made ∷ []) s → LacksNothing x.history → is_short made ≡ false
made_ample s x made after unwanting =
    let all = subst (λ (z : VerifierFields). All (λ r. is_short r ≡ false) z.history) after unwanting.ample in
    All-head (λ r. is_short r ≡ false) made [] (all_right (λ r. is_short r ≡ false) s.history (made ∷ []) all)

closes_as : (relations : Relations) (o o' : Outside) (r : ReplyFields) (s x : VerifierFields) (l : List ℕ) (h : ClosesPoll o o' r s x l)
    → ¬ (Rose o.keys.calls.faults o'.keys.calls.faults) → LacksNothing x.history → ClosesAs o o' (past_at s) h.ticket h.evidence h.made h.closed
closes_as relations o o' r s x l h faultless unwanting =
    finds o o' (past_at s) h.ticket h.evidence h.made h.closed h.closes.appraisal faultless (made_ample s x h.made h.after unwanting)
    h.closes.went h.closes.by_record h.closes.told

pub one_poll_closed : (relations : Relations) (o o' p p' : Outside) (r : ReplyFields) (s x y : VerifierFields) (l m : List ℕ) → Legal s.history
    → Answering relations o o' → Answering relations p p' → LacksNothing x.history → LacksNothing y.history
    → ClosesPoll o o' r s x l → ClosesPoll p p' r s y m → (x ≡ y) × (l ≡ m)
one_poll_closed relations o o' p p' r s x y l m legal first second f_ample g_ample f g =
    let carried = f.carries ∙ sym g.carries in
    let evidence = one_evidence f.ticket.poll g.ticket.poll f.evidence g.evidence carried in
    let ticket = one_open_ticket (past_at s) f.ticket g.ticket (ap (λ (z : ReplyFields). z.poll) carried) f.opened g.opened in
    let other = closes_as relations p p' r s y m g second.faultless g_ample in
    let as_ticket = subst (λ (t : TicketFields). ClosesAs p p' (past_at s) t g.evidence g.made g.closed) (sym ticket) other in
    let as_evidence = subst (λ (e : Evidence). ClosesAs p p' (past_at s) f.ticket e g.made g.closed) (sym evidence) as_ticket in
    let same = one_close_as relations o o' p p' (past_at s) f.ticket f.evidence f.made g.made f.closed g.closed legal first.related second.related
    (closes_as relations o o' r s x l f first.faultless f_ample) as_evidence in
    (f.after ∙ ap (λ (z : Record). with_more (z ∷ []) s) same.0 ∙ sym g.after, f.said ∙ ap closed_line same.1 ∙ sym g.said)

-- a reply to an open poll is not refused
pub not_both : (p : ℕ) (s y : VerifierFields) (m : List ℕ) (t : TicketFields) → IsOpenTicket (past_at s) t → t.poll ≡ p → ¬ (FindsNoPoll p s y m)
not_both p s y m t opened poll (shut, _, _) = false≢true (sym shut ∙ ap (λ q. is_open (past_at s) q) (sym poll) ∙ opened.0)

-- of the two that are refused
pub one_refusal : (opened : Bool) (why : Refusal) (s x y : VerifierFields) (l m : List ℕ) → FindsNone opened why s x l → FindsNone opened why s y m → (x ≡ y) × (l ≡ m)
one_refusal opened why s x y l m (_, to, says) (_, on, speaks) = (to ∙ sym on, says ∙ sym speaks)

pub one_reply : (relations : Relations) (o o' p p' : Outside) (r : ReplyFields) (s x y : VerifierFields) (l m : List ℕ) → Legal s.history
    → Answering relations o o' → Answering relations p p' → LacksNothing x.history → LacksNothing y.history
    → DoesReply o o' r s x l → DoesReply p p' r s y m → (x ≡ y) × (l ≡ m)
one_reply relations o o' p p' r s x y l m legal first second f_ample g_ample (inl f) (inl g) =
    one_poll_closed relations o o' p p' r s x y l m legal first second f_ample g_ample f g
one_reply relations o o' p p' r s x y l m legal first second f_ample g_ample (inl f) (inr g) =
    absurd (not_both r.poll s y m f.ticket f.opened (ap (λ (z : ReplyFields). z.poll) f.carries) g.1)
one_reply relations o o' p p' r s x y l m legal first second f_ample g_ample (inr f) (inl g) =
    absurd (not_both r.poll s x l g.ticket g.opened (ap (λ (z : ReplyFields). z.poll) g.carries) f.1)
one_reply relations o o' p p' r s x y l m legal first second f_ample g_ample (inr f) (inr g) =
    one_refusal (is_open (past_at s) r.poll) (NoPoll r.poll) s x y l m f.1 g.1
