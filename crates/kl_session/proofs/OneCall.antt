-- A call of a session's desk leads to one session and prints one line.
use Rattle.std.proofs.Common.{◌≡◌, ◌≢◌, ℕ, List, Option, Some, Result, Ok, Err, inl, inr, sym, ap, ◌∙◌, subst}
use Rattle.std.proofs.lemmas.Option.{same_Some, none-some}
use Rattle.kl_policy.specs.PolicyFields.{PolicyFields}
use Rattle.kl_appraise.specs.Terms.{TermsFields}
use Rattle.kl_incr.specs.Kept.{TicketFields}
use Rattle.kl_script.specs.declared.command.Add.{Add}
use Rattle.kl_script.specs.declared.command.Replace.{Replace}
use Rattle.kl_history.specs.declared.record.Record.{Record}
use Rattle.kl_history.specs.Records.{Past}
use Rattle.kl_history.specs.Legal.{Legal}
use Rattle.kl_core.specs.declared.refusal.Refusal.{Refusal}
use Rattle.kl_core.specs.declared.refusal.Refusal.TheVariants.{Memory}
use Rattle.kl_core.specs.Installs.{Adds, add_makes, Replaces, replace_makes, Reactivates, reactivate_makes}
use Rattle.kl_core.specs.Endings.{Stops, stop_makes, Removes, remove_makes}
use Rattle.kl_core.specs.Begins.{BeginAnswers, begin_makes}
use Rattle.kl_core.specs.Shares.{ShareFields, Releases, release_makes}
use Rattle.kl_core.specs.Books.{with_marks}
use Rattle.kl_core.specs.Notices.{marks_of}
use Rattle.kl_core.specs.Answers.{IsAmple, IsAmpleWith, IsOneAnswer}
use Rattle.kl_core.proofs.OneAnswer.{one_add, one_replace, one_reactivate, one_stop, one_remove, one_begin, one_release, one_state, one_pick, one_mark}
use Rattle.kl_session.specs.declared.naming.NoTerms.{NoTerms}
use Rattle.kl_session.specs.Calls.{VerifierFields, past, with_more, book_of, verifier_of, Answered}
use Rattle.kl_session.specs.Installs.{says_installed, says_installed_or, NamesNone, DoesAdd, DoesReplace, DoesReactivate}
use Rattle.kl_session.specs.Endings.{says_done, DoesStop, DoesRemove}
use Rattle.kl_session.specs.Polls.{says_polled, BeginsWith}
use Rattle.kl_session.specs.Releasing.{says_released, DoesRelease}
use Rattle.kl_session.specs.States.{says_state, SaysState}
use Rattle.kl_session.specs.Noticing.{SaysPicked, DoesMark, says_noticed}
use Rattle.kl_session.specs.Texts.{says_refused, stopped_line, removed_line, refused_line, no_terms_text, picked_line}
use Rattle.kl_policy.proofs.OneFault.{one_policy}
use Rattle.kl_session.specs.Outside.{Outside}
use Rattle.kl_session.specs.declared.naming.NoTerms.TheVariants.{Policy}
use Rattle.kl_session.proofs.OneNaming.{NoRise, one_terms, no_policy_fault, one_policy_fault, no_terms_fault, one_terms_fault}

-- the same session and line
abbrev pub AreSame : VerifierFields → VerifierFields → List ℕ → List ℕ → Type 0
AreSame x y l m = (x ≡ y) × (l ≡ m)

-- ---- one call

pub one_call : {A : Type 0} (IsOfKind : A → Type 0) (Answers : A → Past → Type 0) (makes : A → Past → List Record) (says : A → Option (List ℕ))
    → ((a : A) (line : List ℕ) → says a ≡ Some line → IsOfKind a) → (s x y : VerifierFields) (l m : List ℕ) → IsOneAnswer IsOfKind Answers (past s)
    → Answered Answers makes says s x l → Answered Answers makes says s y m → AreSame x y l m
one_call IsOfKind Answers makes says of_kind s x y l m one f g =
    let same = one f.answer g.answer f.answers g.answers (of_kind f.answer l f.said) (of_kind g.answer m g.said) in
    (f.after ∙ ap (λ a. with_more (makes a (past s)) s) same ∙ sym g.after, same_Some l m (sym f.said ∙ ap says same ∙ g.said))

-- nothing is said of want of memory
said_of : (why : Refusal) (line : List ℕ) → says_refused why ≡ Some line → why ≢ Memory
said_of why line said short = none-some line (ap says_refused (sym short) ∙ said)

-- so that of which something is said is not that
installs_said : (a : List ℕ) (x : Result ℕ Refusal) (line : List ℕ) → says_installed a x ≡ Some line → IsAmple x
installs_said a (Ok g) line said = tt
installs_said a (Err why) line said = said_of why line said

installs_or_said : {T : Type 0} (a : List ℕ) (x : Result ℕ (Refusal × T)) (line : List ℕ) → says_installed_or a x ≡ Some line → IsAmpleWith x
installs_or_said a (Ok g) line said = tt
installs_or_said a (Err e) line said = said_of e.0 line said

done_said : (text : List ℕ) (x : Result (Unit {0}) Refusal) (line : List ℕ) → says_done text x ≡ Some line → IsAmple x
done_said text (Ok u) line said = tt
done_said text (Err why) line said = said_of why line said

polled_said : (x : Result TicketFields Refusal) (line : List ℕ) → says_polled x ≡ Some line → IsAmple x
polled_said (Ok t) line said = tt
polled_said (Err why) line said = said_of why line said

released_said : (x : Result ShareFields Refusal) (line : List ℕ) → says_released x ≡ Some line → IsAmple x
released_said (Ok s) line said = tt
released_said (Err why) line said = said_of why line said

-- ---- the calls that install, stop and remove

names_none : (s x y : VerifierFields) (l m : List ℕ) (why other : NoTerms) → no_terms_text why ≡ no_terms_text other → NamesNone why s x l → NamesNone other s y m → AreSame x y l m
names_none s x y l m why other same f g = (f.0 ∙ sym g.0, f.1 ∙ ap refused_line same ∙ sym g.1)

pub one_add_done : (o o' p p' : Outside) → NoRise o o' → NoRise p p' → (a : Add) (s x y : VerifierFields) (l m : List ℕ) → DoesAdd o o' a s x l → DoesAdd p p' a s y m → AreSame x y l m
one_add_done o o' p p' calm still a s x y l m (inl (t, named, are, _, f)) (inl (u, also, _, _, g)) =
    let same = subst (λ (v : TermsFields). Answered (Adds a.agent v) (add_makes a.agent v) (says_installed_or a.agent) s y m) (one_terms a u t also named) g in
    let one = one_add (past s) a.agent t in
    one_call IsAmpleWith (Adds a.agent t) (add_makes a.agent t) (says_installed_or a.agent) (installs_or_said a.agent) s x y l m one f same
one_add_done o o' p p' calm still a s x y l m (inl (t, named, are, _, f)) (inr (why, none, g)) = absurd (no_terms_fault p p' still s.history a t why named are none)
one_add_done o o' p p' calm still a s x y l m (inr (why, none, f)) (inl (u, named, are, _, g)) = absurd (no_terms_fault o o' calm s.history a u why named are none)
one_add_done o o' p p' calm still a s x y l m (inr (why, none, f)) (inr (other, nor, g)) =
    names_none s x y l m why other (one_terms_fault o o' p p' calm still s.history a why other none nor) f g

pub one_replace_done : (o o' p p' : Outside) → NoRise o o' → NoRise p p' → (r : Replace) (s x y : VerifierFields) (l m : List ℕ) → DoesReplace o o' r s x l → DoesReplace p p' r s y m → AreSame x y l m
one_replace_done o o' p p' calm still r s x y l m (inl (c, is, _, f)) (inl (d, also, _, g)) =
    let policy = one_policy r.kind r.policy d c also is in
    let same = subst (λ (v : PolicyFields). Answered (Replaces r.agent v) (replace_makes r.agent v) (says_installed_or r.agent) s y m) policy g in
    let one = one_replace (past s) r.agent c in
    one_call IsAmpleWith (Replaces r.agent c) (replace_makes r.agent c) (says_installed_or r.agent) (installs_or_said r.agent) s x y l m one f same
one_replace_done o o' p p' calm still r s x y l m (inl (c, is, _, f)) (inr (why, none, g)) = absurd (no_policy_fault p p' still r.kind r.policy c why is none)
one_replace_done o o' p p' calm still r s x y l m (inr (why, none, f)) (inl (d, is, _, g)) = absurd (no_policy_fault o o' calm r.kind r.policy d why is none)
one_replace_done o o' p p' calm still r s x y l m (inr (why, none, f)) (inr (other, nor, g)) =
    names_none s x y l m (Policy why) (Policy other) (one_policy_fault o o' p p' calm still r.kind r.policy why other none nor) f g

pub one_reactivate_done : (a : List ℕ) (s x y : VerifierFields) (l m : List ℕ) → DoesReactivate a s x l → DoesReactivate a s y m → AreSame x y l m
one_reactivate_done a s x y l m =
    one_call IsAmple (Reactivates a) (reactivate_makes a) (says_installed a) (installs_said a) s x y l m (one_reactivate (past s) a)

pub one_stop_done : (a : List ℕ) (s x y : VerifierFields) (l m : List ℕ) → DoesStop a s x l → DoesStop a s y m → AreSame x y l m
one_stop_done a s x y l m =
    one_call IsAmple (Stops a) (stop_makes a) (says_done (stopped_line a)) (done_said (stopped_line a)) s x y l m (one_stop (past s) a)

pub one_remove_done : (a : List ℕ) (s x y : VerifierFields) (l m : List ℕ) → DoesRemove a s x l → DoesRemove a s y m → AreSame x y l m
one_remove_done a s x y l m =
    one_call IsAmple (Removes a) (remove_makes a) (says_done (removed_line a)) (done_said (removed_line a)) s x y l m (one_remove (past s) a)

-- ---- a poll begins with a nonce, V is handed out, and how an agent stands

pub one_begin_done : (a n : List ℕ) (s x y : VerifierFields) (l m : List ℕ) → Legal s.history → BeginsWith a n s x l → BeginsWith a n s y m → AreSame x y l m
one_begin_done a n s x y l m legal =
    one_call IsAmple (BeginAnswers a n s.moment) (begin_makes s.moment) says_polled polled_said s x y l m (one_begin s.history a n s.moment legal)

pub one_release_done : (a : List ℕ) (s x y : VerifierFields) (l m : List ℕ) → Legal s.history → DoesRelease a s x l → DoesRelease a s y m → AreSame x y l m
one_release_done a s x y l m legal =
    one_call IsAmple (Releases a) release_makes says_released released_said s x y l m (one_release s.history a legal)

pub one_standing : (a : List ℕ) (s : VerifierFields) (l m : List ℕ) → SaysState a s l → SaysState a s m → l ≡ m
one_standing a s l m (x, is, says) (y, also, speaks) = says ∙ ap (says_state a) (one_state (past s) a x y is also tt tt) ∙ sym speaks

-- ---- which agent is next, and a notice that is delivered

pub one_picked : (s : VerifierFields) (l m : List ℕ) → SaysPicked s l → SaysPicked s m → l ≡ m
one_picked s l m (x, is, says) (y, also, speaks) = says ∙ ap picked_line (one_pick (past s) s.moment x y is also tt tt) ∙ sym speaks

pub one_marked : (number : ℕ) (s x y : VerifierFields) (l m : List ℕ) → DoesMark number s x l → DoesMark number s y m → AreSame x y l m
one_marked number s x y l m f g =
    let same = one_mark (book_of s) number f.answer g.answer f.answers g.answers tt tt in (
      f.after ∙ ap (λ a. verifier_of (with_marks (marks_of a) (book_of s)) s.moment) same ∙ sym g.after,
      f.said ∙ ap (says_noticed number) same ∙ sym g.said,
    )
