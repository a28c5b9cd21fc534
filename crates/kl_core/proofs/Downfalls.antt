-- The notices that are posted are those of the records.
use Rattle.std.proofs.Common.{◌≡◌, ℕ, ◌+◌, ◌≤◌, Bool, true, false, cond, ◌&&◌, List, [], ◌∷◌, ◌++◌, Option, Some, None, refl, ap, sym, ◌∙◌, subst}
use Rattle.std.specs.Prelude.{is_some}
use Rattle.std.specs.Option.{option_map}
use Rattle.std.specs.BTreeMap.{BTreeMap, btree_map_len}
use Rattle.std.proofs.lemmas.Bool.{false≢true}
use Rattle.kl_entry.specs.Entries.{EntryFields}
use Rattle.kl_appraise.specs.Terms.{TermsFields}
use Rattle.kl_appraise.specs.declared.judged.Boot.{Boot}
use Rattle.kl_appraise.specs.declared.judged.Outcome.TheVariants as finding
use Rattle.kl_notice.specs.Outbox.{OutboxFields}
use Rattle.kl_notice.specs.declared.notice.FailWhy.{FailWhy}
use Rattle.kl_notice.specs.declared.notice.FailWhy.TheVariants as failed_by
use Rattle.kl_incr.specs.Kept.{TicketFields}
use Rattle.kl_history.specs.declared.record.Record.{Record}
use Rattle.kl_history.specs.Records.{History, Past, past_of, Beginning, own}
use Rattle.kl_history.specs.LookBacks.{Installed, installed}
use Rattle.kl_history.specs.Accepted.{WasAccepted}
use Rattle.kl_history.specs.States.{ended, is_live}
use Rattle.kl_history.specs.Laws.{is_current_end}
use Rattle.kl_history.specs.Notices.{Failure, has_failed, downfall, failure, with_failure, notices_of}
use Rattle.kl_history.proofs.Failing.{failure_current}
use Rattle.kl_core.specs.declared.closing.Close.{Close}
use Rattle.kl_core.specs.declared.closing.Close.TheVariants.{Found, Lost, Dropped}
use Rattle.kl_agents.specs.declared.entry.Entry.{Entry}
use Rattle.kl_agents.specs.declared.entry.Opening.{Opening}
use Rattle.kl_core.specs.Tickets.{IsGiven}
use Rattle.kl_core.specs.Inner.Keeping.{Says}
use Rattle.kl_core.specs.Inner.Closing.{close_why, close_record, after_close, IsCloseOf}
use Rattle.kl_agents.specs.Failing.{failure_of}
use Rattle.kl_core.specs.Inner.Failing.{IsTold}
use Rattle.kl_core.proofs.OneMore.{past_of-snoc}
use Rattle.kl_core.proofs.Standing.{live_of}
use Rattle.kl_core.proofs.Ending.{IsCurrentEntry, TellsNow, says_closed}

-- ---- a record more
-- what is posted once a record stands that brings this failure, or none
pub told_more : (H : History) (r : Record) (o o' : OutboxFields) (openings openings' : BTreeMap ℕ Opening) (waiting waiting' : ℕ) (f : Option Failure) → failure (past_of H) r ≡ f
    → IsTold (past_of H) o openings waiting → o'.posted ≡ with_failure o.posted f → btree_map_len openings' + waiting' ≤ o'.spare → IsTold (past_of (H ++ r ∷ [])) o' openings' waiting'
told_more H r o o' openings openings' waiting waiting' f fails told posted room =
    subst (λ (past : Past). IsTold past o' openings' waiting') (sym (past_of-snoc H r))
    (record { posted = posted ∙ ap (λ ns. with_failure ns f) told.posted ∙ ap (with_failure (notices_of (past_of H))) (sym fails); room = room })

-- a record that brings no failure
pub told_on : (H : History) (r : Record) (o : OutboxFields) (openings : BTreeMap ℕ Opening) (waiting : ℕ) → failure (past_of H) r ≡ None → IsTold (past_of H) o openings waiting
    → IsTold (past_of (H ++ r ∷ [])) o openings waiting
told_on H r o openings waiting none told = told_more H r o o openings openings waiting waiting None none told refl told.room

-- ---- a close
pub stale_fails : (past : Past) (p : ℕ) (by : Close) → is_current_end (close_record p by false) ≡ false → failure past (close_record p by false) ≡ None
stale_fails past p by stale = by_failure (failure past (close_record p by false)) refl where
  by_failure : (o : Option Failure) → failure past (close_record p by false) ≡ o → o ≡ None
  by_failure None is = refl
  by_failure (Some f) is = absurd (false≢true (sym stale ∙ failure_current past (close_record p by false) f is))

stale_end : (p : ℕ) (by : Close) → is_current_end (close_record p by false) ≡ false
stale_end p (Found e s (finding.Verdict v) n) = refl
stale_end p (Found e s finding.Restart n) = refl
stale_end p (Lost w) = refl
stale_end p (Dropped w) = refl

pub downfall_is : (a : List ℕ) (why : FailWhy) (old new : Past) (t : TermsFields) (after : Entry) → is_live old ≡ true → Says new t after
    → downfall a why old new ≡ failure_of a (Some after) (Some why)
downfall_is a why old new t after live says =
    let tells : Option Installed → Option Failure = option_map (λ (i : Installed). record { agent = a; generation = i.generation; why = why }) in
    ap (λ b. cond (b && has_failed (ended new)) (tells (installed new)) None) live
    ∙ ap (λ o. cond (has_failed o) (tells (installed new)) None) says.end_is
    ∙ ap (λ i. cond (has_failed after.end) (tells i) None) says.terms_are

pub by_blame : (past : Past) (r : Record) (a : List ℕ) (why : FailWhy) (b : Option (List ℕ × FailWhy)) → b ≡ Some (a, why)
    → elim b [ None ↦ None | Some b ↦ downfall b.0 b.1 (own past b.0) (own (r ∷ past) b.0) ] ≡ downfall a why (own past a) (own (r ∷ past) a)
by_blame past r a why b is = ap (λ (o : Option (List ℕ × FailWhy)). elim o [ None ↦ None | Some b ↦ downfall b.0 b.1 (own past b.0) (own (r ∷ past) b.0) ]) is

-- the failure that a current close brings
current_fails : (past : Past) (t : TicketFields) (by : Close) (terms : TermsFields) (after : Entry) → IsGiven past t → is_live (own past t.agent) ≡ true
    → Says (own (close_record t.poll by true ∷ past) t.agent) terms after → failure past (close_record t.poll by true) ≡ failure_of t.agent (Some after) (close_why by)
current_fails past t (Found e s (finding.Verdict v) n) terms after given live says =
    by_blame past (close_record t.poll (Found e s (finding.Verdict v) n) true) t.agent (failed_by.Verdict v) _ (ap (option_map (λ (b : Beginning). (b.agent, failed_by.Verdict v))) given.began)
    ∙ downfall_is t.agent (failed_by.Verdict v) (own past t.agent) _ terms after live says
current_fails past t (Found e s finding.Restart n) terms after given live says = refl
current_fails past t (Lost w) terms after given live says =
    by_blame past (close_record t.poll (Lost w) true) t.agent failed_by.Losses _ (ap (option_map (λ (b : Beginning). (b.agent, failed_by.Losses))) given.began)
    ∙ downfall_is t.agent failed_by.Losses (own past t.agent) _ terms after live says
current_fails past t (Dropped w) terms after given live says = refl

-- the failure that a close brings is that of what is kept of its agent from then on
pub close_fails : (H : History) (past : Past) (t : TicketFields) (by : Close) (place : ℕ) (reached : Bool) (entries : List EntryFields) (boot : Boot) (entry : Option Entry)
    → IsGiven past t → WasAccepted t.poll (own past t.agent) entries boot → IsCloseOf t by → TellsNow past t by reached entry
    → IsCurrentEntry H past t entry
    → failure past (close_record t.poll by (is_some entry)) ≡ failure_of t.agent (option_map (after_close t.poll place reached by) entry) (close_why by)
close_fails H past t by place reached entries boot None given was holds tells known = stale_fails past t.poll by (stale_end t.poll by)
close_fails H past t by place reached entries boot (Some e) given was holds tells known =
    current_fails past t by known.0.with (after_close t.poll place reached by e) given (live_of H past t.agent e known.0 known.1) (says_closed H past t by place reached entries boot e given was holds tells known)
