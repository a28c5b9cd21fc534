-- What a record leaves as it was of how an agent stands.
use Rattle.std.proofs.Common.{◌≡◌, ◌↔◌, ℕ, true, false, List, ◌∷◌, Option, Some, None, is_some, inl, inr, refl, ap, sym, ◌∙◌, subst}
use Rattle.std.proofs.lemmas.Bool.{false≢true}
use Rattle.std.proofs.lemmas.Option.{same_Some}
use Rattle.kl_entry.specs.Entries.{EntryFields}
use Rattle.kl_states.specs.declared.op.Op.{Op}
use Rattle.kl_states.specs.declared.op.Op.TheVariants as op
use Rattle.kl_states.specs.declared.outcome.Outcome.TheVariants as outcome
use Rattle.kl_states.specs.declared.verdict.Verdict.TheVariants.{Pass, Failed, Invalid}
use Rattle.kl_appraise.specs.declared.judged.Boot.{Boot}
use Rattle.kl_appraise.specs.Terms.{TermsFields}
use Rattle.kl_history.specs.declared.record.InstallWhy.{InstallWhy}
use Rattle.kl_history.specs.declared.record.Record.{Record}
use Rattle.kl_history.specs.declared.record.Record.TheVariants.{Install, Begin, Verdict, Restart, Lost, Release, Settled, Stop, Remove}
use Rattle.kl_history.specs.Records.{Past, own}
use Rattle.kl_history.specs.LookBacks.{Passing, last_pass}
use Rattle.kl_history.specs.Accepted.{HasAccepted, IsAccepted, IsNothing, SignsBoot}
use Rattle.kl_history.specs.States.{HasReached, IsDue, IsLiveOp, HasOp}
use Rattle.kl_history.specs.Laws.{AreKept, IsAsBefore, counts_for_nothing, ReachesBy, HasOnlyReached, CountForNothing, IsAnew, BeginAnew}
use Rattle.kl_history.proofs.OwnRecords.{own-yes, own-no, own-step, bytes_eq-refl}

-- ---- what a record leaves

nothing_moves : (r : Record) (own : Past) → counts_for_nothing r ≡ true → AreKept own (r ∷ own) × ((boot : Boot) → HasReached (r ∷ own) boot ↔ HasReached own boot)
unfolding HasAccepted
nothing_moves (Install a g t w) own no' = absurd (false≢true no')
nothing_moves (Begin p a g n at from) own no' = absurd (false≢true no')
nothing_moves (Verdict p e s v true) own no' = absurd (false≢true no')
nothing_moves (Restart p e s true) own no' = absurd (false≢true no')
nothing_moves (Lost p w true) own no' = absurd (false≢true no')
nothing_moves (Release n a g p) own no' = absurd (false≢true no')
nothing_moves (Settled n outcome.Arrived c) own no' = absurd (false≢true no')
nothing_moves (Settled n outcome.Missed true) own no' = absurd (false≢true no')
nothing_moves (Stop a) own no' = absurd (false≢true no')
nothing_moves (Remove a) own no' = absurd (false≢true no')
nothing_moves (Verdict p e s (Pass cut) false) own is = (record { terms = refl; over = refl; began = refl; lost = refl; late = refl; pass = refl; accepts = λ _ _. (λ x. x, λ x. x) }, λ _. (λ x. x, λ x. x))
nothing_moves (Verdict p e s (Failed why) false) own is = (record { terms = refl; over = refl; began = refl; lost = refl; late = refl; pass = refl; accepts = λ _ _. (λ x. x, λ x. x) }, λ _. (λ x. x, λ x. x))
nothing_moves (Verdict p e s (Invalid why) false) own is = (record { terms = refl; over = refl; began = refl; lost = refl; late = refl; pass = refl; accepts = λ _ _. (λ x. x, λ x. x) }, λ _. (λ x. x, λ x. x))
nothing_moves _ own is = (record { terms = refl; over = refl; began = refl; lost = refl; late = refl; pass = refl; accepts = λ _ _. (λ x. x, λ x. x) }, λ _. (λ x. x, λ x. x))

arrival_moves : (n : ℕ) (own : Past) → AreKept own (Settled n outcome.Arrived false ∷ own)
unfolding HasAccepted
arrival_moves n own = record { terms = refl; over = refl; began = refl; lost = refl; late = refl; pass = refl; accepts = λ _ _. (λ x. x, λ x. x) }

kept-refl : (own : Past) → AreKept own own
kept-refl own = record { terms = refl; over = refl; began = refl; lost = refl; late = refl; pass = refl; accepts = λ _ _. (λ x. x, λ x. x) }

-- ---- what follows for the state

live_same : (old new : Past) → AreKept old new → (IsDue new → IsDue old) → (IsDue old → IsDue new) → (o : Op) → IsLiveOp new o → IsLiveOp old o
live_same old new kept down up op.ProvideV (due, none) = (down due, sym kept.late ∙ none)
live_same old new kept down up op.ProvideVRetry (due, some) = (down due, λ none. some (kept.late ∙ none))
live_same old new kept down up op.GetQuoteRetry (due, some) = (λ d. due (up d), λ none. some (kept.lost ∙ none))
live_same old new kept down up op.Start (due, none, began) = (λ d. due (up d), sym kept.lost ∙ none, sym kept.began ∙ began)
live_same old new kept down up op.GetQuote (due, none, began) = (λ d. due (up d), sym kept.lost ∙ none, sym kept.began ∙ began)
live_same old new kept down up _ none = none

op_same : (old new : Past) → AreKept old new → (IsDue new → IsDue old) → (IsDue old → IsDue new) → (o : Option Op) → HasOp new o → HasOp old o
op_same old new kept down up None has = sym kept.terms ∙ has
op_same old new kept down up (Some o) (is, inl over) = (ap is_some (sym kept.terms) ∙ is, inl (sym kept.over ∙ over))
op_same old new kept down up (Some o) (is, inr (live, so)) = (ap is_some (sym kept.terms) ∙ is, inr (sym kept.over ∙ live, live_same old new kept down up o so))

kept-sym : (old new : Past) → AreKept old new → AreKept new old
kept-sym old new kept = record {
  terms = sym kept.terms;
  over = sym kept.over;
  began = sym kept.began;
  lost = sym kept.lost;
  late = sym kept.late;
  pass = sym kept.pass;
  accepts = λ entries boot. let both = kept.accepts entries boot in (both.1, both.0);
}

state_same : (old new : Past) → AreKept old new → (IsDue new → IsDue old) → (IsDue old → IsDue new) → (o : Option Op) → HasOp new o ↔ HasOp old o
state_same old new kept down up o = (op_same old new kept down up o, op_same new old (kept-sym old new kept) up down o)

-- what is due stays due where V reached no boot more
due_same : (old new : Past) → AreKept old new → ((p : Passing) (boot : Boot) → last_pass old ≡ Some p → SignsBoot p.evidence boot → HasReached new boot → HasReached old boot) → IsDue old → IsDue new
due_same old new kept reaches due = record {
  installation = due.installation;
  installed = kept.terms ∙ due.installed;
  has_v = due.has_v;
  pass = due.pass;
  passed = kept.pass ∙ due.passed;
  unreached = λ boot signs reached. due.unreached boot signs (reaches due.pass boot due.passed signs reached);
}

as_before : (old new : Past) → AreKept old new → ((boot : Boot) → HasReached new boot ↔ HasReached old boot) → IsAsBefore old new
as_before old new kept reaches =
    let down = due_same new old (kept-sym old new kept) (λ p boot _ _. (reaches boot).1) in
    let up = due_same old new kept (λ p boot _ _. (reaches boot).0) in
    record { kept = kept; due = (down, up); state = state_same old new kept down up }

unchanged : (own : Past) → IsAsBefore own own
unchanged own = as_before own own (kept-refl own) (λ _. (λ x. x, λ x. x))

only_reached : (n : ℕ) (own : Past) → HasOnlyReached n own (Settled n outcome.Arrived false ∷ own)
only_reached n own =
    let new = Settled n outcome.Arrived false ∷ own in
    let kept = arrival_moves n own in
    let down = due_same new own (kept-sym own new kept) (λ p boot _ _ reached. inr reached) in
    let not_by : IsDue new → (p : Passing) (boot : Boot) → last_pass own ≡ Some p → SignsBoot p.evidence boot → ¬ (ReachesBy n own boot) =
    λ due p boot passed signs reaches. due.unreached boot (subst (λ (x : Passing). SignsBoot x.evidence boot) (same_Some p due.pass (sym passed ∙ due.passed)) signs) (inl reaches) in
    let up : IsDue own × ((p : Passing) (boot : Boot) → last_pass own ≡ Some p → SignsBoot p.evidence boot → ¬ (ReachesBy n own boot)) → IsDue new =
    λ both. due_same own new kept (λ p boot passed signs reached. elim reached [ inl by ↦ absurd (both.1 p boot passed signs by) | inr before ↦ before ]) both.0 in
    record {
      kept = kept;
      reached = λ boot. (λ x. x, λ x. x);
      due = (λ due. (down due, not_by due), up);
      state = λ stays. state_same own new kept down stays;
    }

pub count_for_nothing : (past : Past) (a : List ℕ) → CountForNothing past a
count_for_nothing past a = record {
  stale = λ r nothing. own-step (λ new old. IsAsBefore old new) r past a
      (λ _. let moves = nothing_moves r (own past a) nothing in as_before (own past a) (r ∷ own past a) moves.0 moves.1) (λ _. unchanged (own past a));
  arrived = λ n is. subst (HasOnlyReached n (own past a)) (sym (own-yes (Settled n outcome.Arrived false) past a is)) (only_reached n (own past a));
  of_others = λ r other. subst (IsAsBefore (own past a)) (sym (own-no r past a other)) (unchanged (own past a));
}

-- ---- what begins anew

anew : (g : ℕ) (t : TermsFields) (w : InstallWhy) (a : List ℕ) (own : Past) → IsAnew (Install a g t w ∷ own)
unfolding HasAccepted
anew g t w a own = record { accepts = λ entries boot is. is; lost = refl; late = refl; pass = refl; over = refl }

nothing_after : (a : List ℕ) (own : Past) (entries : List EntryFields) (boot : Boot) → IsAccepted (Remove a ∷ own) entries boot → IsNothing entries boot
unfolding HasAccepted
nothing_after a own entries boot is = is

pub begin_anew : (past : Past) (a : List ℕ) → BeginAnew past a
begin_anew past a = record {
  installs = λ g t w. subst IsAnew (sym (own-yes (Install a g t w) past a (bytes_eq-refl a))) (anew g t w a (own past a));
  removes = λ entries boot is. nothing_after a (own past a) entries boot (subst (λ o. IsAccepted o entries boot) (own-yes (Remove a) past a (bytes_eq-refl a)) is);
}
