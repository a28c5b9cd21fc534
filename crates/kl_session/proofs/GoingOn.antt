-- From one command to the next the objects of the outside go on as they were, and the history grows.
use Rattle.std.proofs.Common.{◌≡◌, ◌⊎◌, ℕ, Bool, false, List, [], ◌∷◌, ◌++◌, length, Option, Some, None, Result, Ok, Err, inl, inr, refl, sym, ap, ◌∙◌, subst}
use Rattle.std.proofs.Common.{arith, append-nil, append_assoc}
use Rattle.std.specs.Prelude.{All}
use Rattle.std.proofs.lemmas.Option.{same_Some}
use Rattle.std.proofs.lemmas.List.Elements.{All-take}
use Rattle.std.proofs.Math.Seq.{take-append_seam}
use Rattle.kl_io.specs.Told.{WordsTold}
use Rattle.kl_keys.specs.Told.{KeysTold}
use Rattle.kl_quote.specs.declared.evidence.Evidence.{Evidence}
use Rattle.kl_states.specs.declared.verdict.InvalidCause.{InvalidCause}
use Rattle.kl_states.specs.declared.verdict.Verdict.TheVariants.{Invalid}
use Rattle.kl_appraise.specs.Terms.{TermsFields}
use Rattle.kl_appraise.specs.Kept.{from_of}
use Rattle.kl_appraise.specs.Evidence.{Check, check_under}
use Rattle.kl_appraise.specs.QuoteRules.{QuoteRules, IsUnasked, IsSoundQuote}
use Rattle.kl_appraise.specs.ListRules.{Case, check_of}
use Rattle.kl_appraise.specs.declared.judged.Outcome.{Outcome as Finding}
use Rattle.kl_appraise.specs.declared.judged.Outcome.TheVariants.{Verdict as Judged}
use Rattle.kl_appraise.specs.Outcome.{IsOutcome}
use Rattle.kl_incr.specs.Kept.{TicketFields}
use Rattle.kl_registrar.specs.Calls.{Log}
use Rattle.kl_registrar.specs.declared.fault.RegFault.{RegFault}
use Rattle.kl_registrar.specs.declared.fault.RegFault.TheVariants.{Full, KeysFault}
use Rattle.kl_script.specs.declared.command.Register.{Register}
use Rattle.kl_script.specs.declared.command.RegistrarCommand.{RegistrarCommand}
use Rattle.kl_script.specs.declared.command.RegistrarCommand.TheVariants as registrar
use Rattle.kl_script.specs.Commands.{ReplyFields, VerifierCommandFields, add, replace, reactivate, stop, remove, now, begin, reply, state, lose, pick, release, settle, notice, noticed}
use Rattle.kl_script.specs.Commands.{CommandFields, nothing, to_verifier, to_registrar}
use Rattle.kl_history.specs.declared.record.Record.{Record}
use Rattle.kl_history.specs.Records.{History, Past, past_of, Beginning, terms_of}
use Rattle.kl_history.specs.Legal.{IsLegalPast, IsCaseOf}
use Rattle.kl_core.specs.Tickets.{IsOpenTicket}
use Rattle.kl_session.specs.declared.stop.Stop.TheVariants.{NoNonce}
use Rattle.kl_session.specs.Outside.{Outside}
use Rattle.kl_session.specs.Calls.{VerifierFields, SessionFields, past as past_at, Answered}
use Rattle.kl_session.specs.Replies.{Appraisal, Finds, Unanswered, Short, IsFinding, Went, DoesReply}
use Rattle.kl_session.specs.Registering.{RegisterAnswers, RegistrarDoes}
use Rattle.kl_session.specs.Stopped.{VerifierStopped, RegistrarStopped, IsStopped}
use Rattle.kl_session.specs.Verifying.{VerifierDoes}
use Rattle.kl_session.specs.Session.{Does, Follows}
use Rattle.kl_session.specs.Unique.{is_short, LacksNothing, GoesOn, Grows}
use Rattle.kl_exclude.specs.Told.{MakerTold}
use Rattle.kl_session.proofs.Opened.{behind}
use Rattle.kl_session.proofs.Moments.{KeysOn, spared, asked, asked_blob, asks_on, same_on, and_on, draws_on, nonce_on, none_on}
use Rattle.kl_session.proofs.Readings.{reads_on, refuses_on, no_terms_on}

-- ---- the key object is asked, or is not: the rule that decides says which

not_unread : (k : Check) → IsSoundQuote k → ¬ (IsUnasked k)
not_unread k sound (why, inl form) = sound why (inl form)
not_unread k sound (why, inr (no_form, inl bank)) = sound why (inr (no_form, inl bank))
not_unread k sound (why, inr (no_form, inr (no_bank, attest))) = sound why (inr (no_form, inr (no_bank, inl attest)))

by_rules : (k : Check) (why : InvalidCause) → QuoteRules k why → IsUnasked k ⊎ (¬ (IsUnasked k))
by_rules k why (inl form) = inl (why, inl form)
by_rules k why (inr (no_form, inl bank)) = inl (why, inr (no_form, inl bank))
by_rules k why (inr (no_form, inr (no_bank, inl attest))) = inl (why, inr (no_form, inr (no_bank, attest)))
by_rules k why (inr (no_form, inr (no_bank, inr (no_attest, rest)))) = inr (λ (unread : IsUnasked k). elim unread.1 [
  | inl form ↦ no_form unread.0 form
  | inr (_, inl bank) ↦ no_bank unread.0 bank
  | inr (_, inr (_, attest)) ↦ no_attest unread.0 attest
])

is_decided : (c : Case) (found : Finding) → IsOutcome c found → IsUnasked (check_of c) ⊎ (¬ (IsUnasked (check_of c)))
is_decided c found (inl (why, rule, _)) = by_rules (check_of c) why rule
is_decided c found (inr (none, _)) = inr (not_unread (check_of c) (λ why rule. none (Judged (Invalid why)) (why, rule, refl)))

-- what a reply to a ticket's poll is appraised as looks at the quote as the ticket says
unasked_by : TermsFields → List ℕ → Evidence → Type 0
unasked_by t n e = IsUnasked (check_under t n e false)

of_case : (past : Past) (t : TicketFields) (e : Evidence) (signed : Bool) (c : Case) → IsOpenTicket past t → IsCaseOf past t.poll e signed c
    → unasked_by c.terms c.nonce c.evidence ≡ unasked_by t.terms t.nonce e
of_case past t e signed c (_, given) x =
    let named : Beginning = record { agent = t.agent; generation = t.generation; nonce = t.nonce; at = given.at; from = from_of t.kept } in
    let start : x.started ≡ named = same_Some x.started named (sym x.began ∙ given.began) in
    let terms = same_Some c.terms t.terms (sym x.terms ∙ ap (λ (s : Beginning). terms_of past s.generation) start ∙ given.terms) in
    let nonce = x.nonce ∙ ap (λ (s : Beginning). s.nonce) start in
    ap (λ u. unasked_by u c.nonce c.evidence) terms ∙ ap (λ n. unasked_by t.terms n c.evidence) nonce ∙ ap (unasked_by t.terms t.nonce) x.evidence

finding_on : (o o' : Outside) (past : Past) (t : TicketFields) (e : Evidence) (signed : Bool) (found : Finding)
    → IsOpenTicket past t → IsFinding o o' past t e signed found → KeysOn o.keys o'.keys
unfolding unasked_by
finding_on o o' past t e signed found opened f =
    let same = of_case past t e signed f.case opened f.poll_case in
    elim (is_decided f.case found f.outcome) [
      | inl un ↦ spared o.keys o'.keys (f.spared (subst (λ (X : Type 0). X) same un))
      | inr due ↦ asked o.keys o'.keys t.terms.ak e.quote (Some signed) (f.asked (subst (λ (X : Type 0). ¬ X) same due))
    ]

went_on : (o o' : Outside) (past : Past) (t : TicketFields) (e : Evidence) (a : Appraisal) → IsOpenTicket past t → Went o o' past t e a
    → KeysOn o.keys o'.keys
went_on o o' past t e (Finds signed found) opened went = finding_on o o' past t e signed found opened went
went_on o o' past t e Unanswered opened (due, met, _) = asked o.keys o'.keys t.terms.ak e.quote None met
went_on o o' past t e Short opened (inl same, _, _, _) = spared o.keys o'.keys same
went_on o o' past t e Short opened (inr (due, met), _, _, _) = asked o.keys o'.keys t.terms.ak e.quote met.0 met.1

reply_on : (o o' : Outside) (r : ReplyFields) (s s' : VerifierFields) (line : List ℕ) → DoesReply o o' r s s' line → GoesOn o o'
reply_on o o' r s s' line (inr none) = same_on o o' none.0
reply_on o o' r s s' line (inl f) =
    let on = went_on o o' (past_at s) f.ticket f.evidence f.closes.appraisal f.opened f.closes.went in
    record {
      made = omega (arith, ap (λ (m : MakerTold). m.calls.faults) f.closes.unmade);
      related = on.related;
      keys = on.later;
      drawn = omega (arith, ap (λ (w : WordsTold). w.calls.faults) f.closes.undrawn);
      left = λ w is. (w, ap (λ (x : WordsTold). x.left) f.closes.undrawn ∙ is);
    }

-- ---- a command to the verifier

verifier_on : (o o' : Outside) (s : VerifierFields) (c : VerifierCommandFields) (s' : VerifierFields) (line : List ℕ) → VerifierDoes o o' s c s' line → GoesOn o o'
unfolding VerifierDoes
verifier_on o o' s (add a) s' line (inl (t, named, are, reads, h)) = reads_on o o' s.history a.kind t.policy reads
verifier_on o o' s (add a) s' line (inr (why, none, h)) = no_terms_on o o' s.history a why none
verifier_on o o' s (replace r) s' line (inl (p, is, reads, h)) = reads_on o o' s.history r.kind p reads
verifier_on o o' s (replace r) s' line (inr (why, none, h)) = refuses_on o o' r.kind r.policy why none
verifier_on o o' s (reactivate a) s' line h = same_on o o' h.0
verifier_on o o' s (stop a) s' line h = same_on o o' h.0
verifier_on o o' s (remove a) s' line h = same_on o o' h.0
verifier_on o o' s (now t) s' line h = same_on o o' h.0
verifier_on o o' s (begin b) s' line h = nonce_on o o' b.nonce h.0 h.1
verifier_on o o' s (reply r) s' line h = reply_on o o' r s s' line h
verifier_on o o' s (state a) s' line h = same_on o o' h.0
verifier_on o o' s (lose p) s' line h = same_on o o' h.0
verifier_on o o' s pick s' line h = same_on o o' h.0
verifier_on o o' s (release a) s' line h = same_on o o' h.0
verifier_on o o' s (settle c) s' line h = same_on o o' h.0
verifier_on o o' s notice s' line h = same_on o o' h.0
verifier_on o o' s (noticed n) s' line h = same_on o o' h.0

-- ---- a command to the registrar

register_on : (r : Register) (secret : List ℕ) (k k' : KeysTold) (answer : Result (List ℕ) RegFault) (calls : Log)
    → RegisterAnswers r secret k k' answer calls → KeysOn k k'
register_on r secret k k' (Ok blob) calls h = asked_blob k k' r.ek r.ak secret (Some blob) ⊥ h.1
register_on r secret k k' (Err Full) calls h = spared k k' h.1
register_on r secret k k' (Err KeysFault) calls h = asked_blob k k' r.ek r.ak secret None (Unit {0}) h.1
register_on r secret k k' (Err _) calls h = absurd h

registrar_on : (o o' : Outside) (calls : Log) (c : RegistrarCommand) (calls' : Log) (line : List ℕ) → RegistrarDoes o o' calls c calls' line → GoesOn o o'
unfolding RegistrarDoes
registrar_on o o' calls (registrar.Register r) calls' line h =
    and_on o h.then o' (draws_on 32 o h.then h.secret h.draws)
    (asks_on h.then o' h.asks (register_on r h.secret h.then.keys o'.keys h.called.answer calls h.called.answers))
registrar_on o o' calls (registrar.Activate a) calls' line h = same_on o o' h.0
registrar_on o o' calls (registrar.Record a) calls' line h = same_on o o' h.0
registrar_on o o' calls registrar.Records calls' line h = same_on o o' h.0
registrar_on o o' calls (registrar.Forget a) calls' line h = same_on o o' h.0

-- ---- a command, and several

pub does_on : (o o' : Outside) (s : SessionFields) (c : CommandFields) (s' : SessionFields) (line : List ℕ) → Does o o' s c s' line → GoesOn o o'
unfolding Does
does_on o o' s nothing s' line h = same_on o o' h.0
does_on o o' s (to_verifier c) s' line h = verifier_on o o' s.verifier c s'.verifier line h.0
does_on o o' s (to_registrar c) s' line h = registrar_on o o' s.calls c s'.calls line h.0

pub follows_on : (o o' : Outside) (s : SessionFields) (commands : List CommandFields) (lines : List (List ℕ)) (last : SessionFields)
    → Follows o o' s commands lines last → GoesOn o o'
follows_on o o' s [] [] last h = same_on o o' h.0
follows_on o o' s [] (l ∷ lines) last h = absurd h
follows_on o o' s (c ∷ commands) [] last h = absurd h
follows_on o o' s (c ∷ commands) (l ∷ lines) last (then, next, does, follows) =
    and_on o then o' (does_on o then s c next l does) (follows_on then o' next commands lines last follows)

verifier_dry : (o o' : Outside) (s : VerifierFields) (c : VerifierCommandFields) (s' : VerifierFields) → VerifierStopped NoNonce o o' s c s' → GoesOn o o'
verifier_dry o o' s (begin b) s' h = none_on 16 o o' h.1.1
verifier_dry o o' s _ s' h = absurd h.1

registrar_dry : (o o' : Outside) (calls : Log) (c : RegistrarCommand) (calls' : Log) → RegistrarStopped NoNonce o o' calls c calls' → GoesOn o o'
registrar_dry o o' calls (registrar.Register r) calls' h = none_on 32 o o' h.1
registrar_dry o o' calls _ calls' h = absurd h.1

pub dry_on : (o o' : Outside) (s : SessionFields) (c : CommandFields) (s' : SessionFields) → IsStopped NoNonce o o' s c s' → GoesOn o o'
dry_on o o' s nothing s' h = absurd h
dry_on o o' s (to_verifier c) s' h = verifier_dry o o' s.verifier c s'.verifier h.0
dry_on o o' s (to_registrar c) s' h = registrar_dry o o' s.calls c s'.calls h.0

-- ---- the history grows

-- the records of the second come behind those of the first
VerifierGrows : VerifierFields → VerifierFields → Type 0
VerifierGrows s s' = (made : List Record) × (s'.history ≡ s.history ++ made)

as_it_was : (s s' : VerifierFields) → s'.history ≡ s.history → VerifierGrows s s'
unfolding VerifierGrows
as_it_was s s' same = ([], same ∙ sym (append-nil s.history))

by_call : {A : Type 0} {Answers : A → Past → Type 0} {makes : A → Past → List Record} {says : A → Option (List ℕ)} (s s' : VerifierFields) (line : List ℕ)
    → Answered Answers makes says s s' line → VerifierGrows s s'
unfolding VerifierGrows
by_call {makes = makes} s s' line h = (makes h.answer (past_at s), ap (λ (z : VerifierFields). z.history) h.after)

verifier_grows : (o o' : Outside) (s : VerifierFields) (c : VerifierCommandFields) (s' : VerifierFields) (line : List ℕ) → VerifierDoes o o' s c s' line
    → VerifierGrows s s'
unfolding VerifierDoes VerifierGrows
verifier_grows o o' s (add a) s' line (inl (t, named, are, reads, h)) = by_call s s' line h
verifier_grows o o' s (add a) s' line (inr (why, none, h)) = as_it_was s s' (ap (λ (z : VerifierFields). z.history) h.0)
verifier_grows o o' s (replace r) s' line (inl (p, is, reads, h)) = by_call s s' line h
verifier_grows o o' s (replace r) s' line (inr (why, none, h)) = as_it_was s s' (ap (λ (z : VerifierFields). z.history) h.0)
verifier_grows o o' s (reactivate a) s' line h = by_call s s' line h.1
verifier_grows o o' s (stop a) s' line h = by_call s s' line h.1
verifier_grows o o' s (remove a) s' line h = by_call s s' line h.1
verifier_grows o o' s (now t) s' line h = as_it_was s s' (ap (λ (z : VerifierFields). z.history) h.1)
verifier_grows o o' s (begin b) s' line h = by_call s s' line h.2
verifier_grows o o' s (reply r) s' line (inl f) = (f.made ∷ [], ap (λ (z : VerifierFields). z.history) f.after)
verifier_grows o o' s (reply r) s' line (inr none) = as_it_was s s' (ap (λ (z : VerifierFields). z.history) none.1.1)
verifier_grows o o' s (state a) s' line h = as_it_was s s' (ap (λ (z : VerifierFields). z.history) h.1)
verifier_grows o o' s (lose p) s' line (same, inl f) = by_call s s' line f.2
verifier_grows o o' s (lose p) s' line (same, inr none) = as_it_was s s' (ap (λ (z : VerifierFields). z.history) none.1)
verifier_grows o o' s pick s' line h = as_it_was s s' (ap (λ (z : VerifierFields). z.history) h.1)
verifier_grows o o' s (release a) s' line h = by_call s s' line h.1
verifier_grows o o' s (settle c) s' line (same, inl f) = by_call s s' line f.2
verifier_grows o o' s (settle c) s' line (same, inr none) = as_it_was s s' (ap (λ (z : VerifierFields). z.history) none.1)
verifier_grows o o' s notice s' line h = as_it_was s s' (ap (λ (z : VerifierFields). z.history) h.1)
verifier_grows o o' s (noticed n) s' line h = as_it_was s s' (ap (λ (z : VerifierFields). z.history) h.1.after)

pub does_grow : (o o' : Outside) (s : SessionFields) (c : CommandFields) (s' : SessionFields) (line : List ℕ) → Does o o' s c s' line → Grows s s'
unfolding Does VerifierGrows
does_grow o o' s nothing s' line h = as_it_was s.verifier s'.verifier (ap (λ (z : SessionFields). z.verifier.history) h.1)
does_grow o o' s (to_verifier c) s' line h = verifier_grows o o' s.verifier c s'.verifier line h.0
does_grow o o' s (to_registrar c) s' line h = as_it_was s.verifier s'.verifier (ap (λ (z : VerifierFields). z.history) h.1)

pub follows_grow : (o o' : Outside) (s : SessionFields) (commands : List CommandFields) (lines : List (List ℕ)) (last : SessionFields)
    → Follows o o' s commands lines last → Grows s last
follows_grow o o' s [] [] last h = ([], ap (λ (z : SessionFields). z.verifier.history) h.1 ∙ sym (append-nil s.verifier.history))
follows_grow o o' s [] (l ∷ lines) last h = absurd h
follows_grow o o' s (c ∷ commands) [] last h = absurd h
follows_grow o o' s (c ∷ commands) (l ∷ lines) last (then, next, does, follows) =
    let first = does_grow o then s c next l does in
    let rest = follows_grow then o' next commands lines last follows in
    (first.0 ++ rest.0, rest.1 ∙ ap (λ H. H ++ rest.0) first.1 ∙ append_assoc s.verifier.history first.0 rest.0)

-- a beginning of a legal history is legal, and where nothing was wanting later nothing was before
legal_before : (newer past : Past) → IsLegalPast (newer ++ past) → IsLegalPast past
legal_before [] past legal = legal
legal_before (r ∷ newer) past legal = legal_before newer past legal.0

pub lacked_nothing : (H made : History) → LacksNothing (H ++ made) → LacksNothing H
lacked_nothing H made l = record {
  legal = legal_before (past_of made) (past_of H) (subst IsLegalPast (behind H made) l.legal);
  ample = subst (λ (G : History). All (λ r. is_short r ≡ false) G) (take-append_seam H made)
      (All-take (λ r. is_short r ≡ false) (length H) (H ++ made) l.ample);
}

pub lacked_before : (s s' : SessionFields) → Grows s s' → LacksNothing s'.verifier.history → LacksNothing s.verifier.history
lacked_before s s' (made, grown) l = lacked_nothing s.verifier.history made (subst LacksNothing grown l)
