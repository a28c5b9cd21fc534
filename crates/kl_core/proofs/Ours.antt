-- What one record more does to what an agent's own records say.
use Rattle.std.proofs.Common.{◌≡◌, ℕ, suc, ◌+◌, ◌<◌, Bool, true, false, cond, ◌||◌, List, [], ◌∷◌, Option, Some, None, refl, ap, sym, ◌∙◌, subst, arith}
use Rattle.std.specs.Prelude.{is_some}
use Rattle.std.proofs.lemmas.Bool.{cond-false, eq-eqb, or_parts, both_ways}
use Rattle.std.proofs.lemmas.Option.{same_Some, none-some}
use lib.Dec.{eqb}
use Rattle.kl_entry.specs.Entries.{EntryFields}
use Rattle.kl_states.specs.declared.op.Op.{Op}
use Rattle.kl_states.specs.declared.op.Op.TheVariants.{TenantFailed, InvalidQuote, Failed as StateFailed}
use Rattle.kl_states.specs.declared.verdict.Verdict.TheVariants.{Pass, Failed, Invalid}
use Rattle.kl_states.specs.declared.outcome.Outcome.{Outcome}
use Rattle.kl_states.specs.declared.outcome.Outcome.TheVariants.{Arrived, Missed, Withdrawn}
use Rattle.kl_quote.specs.declared.evidence.Evidence.{Evidence}
use Rattle.kl_appraise.specs.declared.judged.Boot.{Boot}
use Rattle.kl_appraise.specs.declared.kept.Kept.{Kept}
use Rattle.kl_appraise.specs.Terms.{TermsFields}
use Rattle.kl_appraise.specs.declared.judged.Outcome.TheVariants as finding
use Rattle.kl_history.specs.declared.record.Record.{Record}
use Rattle.kl_history.specs.declared.record.Record.TheVariants.{Install, Begin, Verdict, Restart, Lost, Dropped, Release, Settled, Stop, Remove}
use Rattle.kl_history.specs.declared.record.InstallWhy.{InstallWhy}
use Rattle.kl_history.specs.Records.{Past, begins, own}
use Rattle.kl_history.specs.LookBacks.{came, losses, missed}
use Rattle.kl_history.specs.Accepted.{no_boot, SignsBoot, HasAccepted, IsAccepted, WasAccepted}
use Rattle.kl_history.specs.States.{ended, is_stop, is_invalid, is_failed, HasReached}
use Rattle.kl_history.proofs.OwnRecords.{own-step}
use Rattle.kl_agents.specs.declared.entry.Entry.{Entry}
use Rattle.kl_agents.specs.declared.entry.Passed.{Passed}
use Rattle.kl_core.specs.Inner.Keeping.{Says, Tells}
use Rattle.kl_core.specs.States.{Accepted}
use Rattle.kl_agents.specs.Steps.{fresh, stopped, polled, lost, found, handed, settled}

-- ---- what was accepted when a poll began stays
was_stays : (r : Record) (past : Past) (p : ℕ) (entries : List EntryFields) (boot : Boot) → begins p r ≡ false → WasAccepted p past entries boot → WasAccepted p (r ∷ past) entries boot
unfolding HasAccepted
was_stays (Install a g t w) past p entries boot apart was = was
was_stays (Begin q a g n at from) past p entries boot apart was = rw apart was
was_stays (Verdict q e s v c) past p entries boot apart was = was
was_stays (Restart q e s c) past p entries boot apart was = was
was_stays (Lost q w c) past p entries boot apart was = was
was_stays (Dropped q w) past p entries boot apart was = was
was_stays (Release n a g q) past p entries boot apart was = was
was_stays (Settled n o c) past p entries boot apart was = was
was_stays (Stop a) past p entries boot apart was = was
was_stays (Remove a) past p entries boot apart was = was

pub was_own : (past : Past) (r : Record) (a : List ℕ) (p : ℕ) (entries : List EntryFields) (boot : Boot) → begins p r ≡ false
    → WasAccepted p (own past a) entries boot → WasAccepted p (own (r ∷ past) a) entries boot
was_own past r a p entries boot apart was =
    own-step (λ (new old : Past). WasAccepted p old entries boot → WasAccepted p new entries boot) r past a (λ _ there. was_stays r (own past a) p entries boot apart there) (λ _ there. there) was

-- what is accepted when a poll begins
pub was_now : (past : Past) (p : ℕ) (a : List ℕ) (g : ℕ) (n : List ℕ) (at from : ℕ) (entries : List EntryFields) (boot : Boot)
    → IsAccepted past entries boot → WasAccepted p (Begin p a g n at from ∷ past) entries boot
unfolding HasAccepted
was_now past p a g n at from entries boot is = rw (eq-eqb p p refl) is

-- ---- what an agent's own records say after one record more
pub says_fresh : (past : Past) (a : List ℕ) (g : ℕ) (t : TermsFields) (w : InstallWhy) (place added : ℕ) (handed : Option ℕ)
    → Says (Install a g t w ∷ past) t (record (fresh g place (is_some t.v)) { added = added; handed = handed })
unfolding HasAccepted
says_fresh past a g t w place added handed = record {
  terms_are = refl;
  v_is = refl;
  end_is = refl;
  losses_are = refl;
  few_losses = omega arith;
  missed_are = refl;
  few_missed = omega arith;
  no_pass = λ none. refl;
  pass_is = λ k is. absurd (none-some k is);
  reached_is = λ k is. absurd (none-some k is);
  accepted = ([], no_boot, (refl, refl), refl);
  polled = refl;
  begun = refl;
}

pub says_stopped : (past : Past) (a : List ℕ) (t : TermsFields) (e : Entry) → Says past t e → Says (Stop a ∷ past) t (stopped e)
unfolding HasAccepted
says_stopped past a t e says = record {
  terms_are = says.terms_are;
  v_is = says.v_is;
  end_is = refl;
  losses_are = says.losses_are;
  few_losses = says.few_losses;
  missed_are = says.missed_are;
  few_missed = says.few_missed;
  no_pass = says.no_pass;
  pass_is = says.pass_is;
  reached_is = says.reached_is;
  accepted = says.accepted;
  polled = says.polled;
  begun = says.begun;
}

pub says_polled : (past : Past) (p : ℕ) (a : List ℕ) (g : ℕ) (n : List ℕ) (at from : ℕ) (t : TermsFields) (e : Entry) → Says past t e → Says (Begin p a g n at from ∷ past) t (polled p at e)
unfolding HasAccepted
says_polled past p a g n at from t e says = record {
  terms_are = says.terms_are;
  v_is = says.v_is;
  end_is = says.end_is;
  losses_are = says.losses_are;
  few_losses = says.few_losses;
  missed_are = says.missed_are;
  few_missed = says.few_missed;
  no_pass = says.no_pass;
  pass_is = says.pass_is;
  reached_is = says.reached_is;
  accepted = says.accepted;
  polled = refl;
  begun = refl;
}

pub says_dropped : (past : Past) (p : ℕ) (w : _) (t : TermsFields) (e : Entry) → Says past t e → Says (Dropped p w ∷ past) t e
unfolding HasAccepted
says_dropped past p w t e says = record {
  terms_are = says.terms_are;
  v_is = says.v_is;
  end_is = says.end_is;
  losses_are = says.losses_are;
  few_losses = says.few_losses;
  missed_are = says.missed_are;
  few_missed = says.few_missed;
  no_pass = says.no_pass;
  pass_is = says.pass_is;
  reached_is = says.reached_is;
  accepted = says.accepted;
  polled = says.polled;
  begun = says.begun;
}

-- ---- a finding
none_of : (a b f : Bool) → cond a (Some TenantFailed) (cond b (Some InvalidQuote) (cond f (Some StateFailed) None)) ≡ None → (a ≡ false) × (b ≡ false) × (f ≡ false)
none_of true b f is = cc
none_of false true f is = cc
none_of false false true is = cc
none_of false false false is = (refl, refl, refl)

still_none : (a b f : Bool) → a ≡ false → b ≡ false → f ≡ false → cond a (Some TenantFailed) (cond b (Some InvalidQuote) (cond f (Some StateFailed) None)) ≡ None
still_none a b f no_a no_b no_f = cond-false a _ _ no_a ∙ cond-false b _ _ no_b ∙ cond-false f _ _ no_f

now_failed : (a b : Bool) → a ≡ false → b ≡ false → cond a (Some TenantFailed) (cond b (Some InvalidQuote) (Some StateFailed)) ≡ Some StateFailed
now_failed a b no_a no_b = cond-false a _ _ no_a ∙ cond-false b _ _ no_b

-- what has not come of a live agent
record Going (past : Past) : Type 0 where
  pub stop : came is_stop past ≡ false
  pub invalid : came is_invalid past ≡ false
  pub failed : came is_failed past ≡ false
  pub losing : eqb (losses past) 5 ≡ false
  pub missing : eqb (missed past) 5 ≡ false

going : (past : Past) → ended past ≡ None → Going past
going past live =
    let parts = none_of (came is_stop past) (came is_invalid past) (came is_failed past || (eqb (losses past) 5 || eqb (missed past) 5)) live in
    let failing = or_parts (came is_failed past) (eqb (losses past) 5 || eqb (missed past) 5) parts.2 in
    let lacking = or_parts (eqb (losses past) 5) (eqb (missed past) 5) failing.1 in
    record { stop = parts.0; invalid = parts.1; failed = failing.0; losing = lacking.0; missing = lacking.1 }

or_none : (a b : Bool) → a ≡ false → b ≡ false → (a || b) ≡ false
or_none a b no_a no_b = ap (λ x. x || b) no_a ∙ no_b

pub says_passed : (past : Past) (p : ℕ) (e : Evidence) (s : Bool) (cut : ℕ) (t : TermsFields) (place : ℕ) (next : Kept) (reached : Bool) (entry : Entry) → Says past t entry → ended past ≡ None
    → Accepted (Verdict p e s (Pass cut) true ∷ past) next.count → SignsBoot e next.boot → Tells reached (HasReached past next.boot)
    → Says (Verdict p e s (Pass cut) true ∷ past) t (found p place (finding.Verdict (Pass cut)) (Some next) reached entry)
says_passed past p e s cut t place next reached entry says live accepted signs tells =
    let g = going past live in
    record {
      terms_are = says.terms_are;
      v_is = says.v_is;
      end_is = still_none _ _ (came is_failed past || eqb (missed past) 5) g.stop g.invalid (or_none _ _ g.failed g.missing) ∙ sym live ∙ says.end_is;
      losses_are = refl;
      few_losses = omega arith;
      missed_are = says.missed_are;
      few_missed = says.few_missed;
      no_pass = λ none. absurd (none-some _ (sym none));
      pass_is = λ k is. (
        record { poll = p; evidence = e },
        refl,
        ap (λ (k : Passed). k.poll) (same_Some _ k is),
        subst (λ (k : Passed). SignsBoot e k.boot) (same_Some _ k is) signs,
      );
      reached_is = λ k is. subst (λ (k : Passed). Tells reached (HasReached past k.boot)) (same_Some _ k is) tells;
      accepted = accepted;
      polled = says.polled;
      begun = says.begun;
    }

pub says_failed : (past : Past) (p : ℕ) (e : Evidence) (s : Bool) (why : _) (t : TermsFields) (place : ℕ) (next : Option Kept) (reached : Bool) (entry : Entry) → Says past t entry → ended past ≡ None
    → Says (Verdict p e s (Failed why) true ∷ past) t (found p place (finding.Verdict (Failed why)) next reached entry)
unfolding HasAccepted
says_failed past p e s why t place next reached entry says live =
    let g = going past live in
    record {
      terms_are = says.terms_are;
      v_is = says.v_is;
      end_is = now_failed _ _ g.stop g.invalid;
      losses_are = refl;
      few_losses = omega arith;
      missed_are = says.missed_are;
      few_missed = says.few_missed;
      no_pass = λ none. refl;
      pass_is = λ k is. absurd (none-some k is);
      reached_is = λ k is. absurd (none-some k is);
      accepted = says.accepted;
      polled = says.polled;
      begun = says.begun;
    }

pub says_invalid : (past : Past) (p : ℕ) (e : Evidence) (s : Bool) (why : _) (t : TermsFields) (place : ℕ) (next : Option Kept) (reached : Bool) (entry : Entry) → Says past t entry → ended past ≡ None
    → Says (Verdict p e s (Invalid why) true ∷ past) t (found p place (finding.Verdict (Invalid why)) next reached entry)
unfolding HasAccepted
says_invalid past p e s why t place next reached entry says live =
    let g = going past live in
    record {
      terms_are = says.terms_are;
      v_is = says.v_is;
      end_is = cond-false (came is_stop past) _ _ g.stop;
      losses_are = refl;
      few_losses = omega arith;
      missed_are = says.missed_are;
      few_missed = says.few_missed;
      no_pass = λ none. refl;
      pass_is = λ k is. absurd (none-some k is);
      reached_is = λ k is. absurd (none-some k is);
      accepted = says.accepted;
      polled = says.polled;
      begun = says.begun;
    }

pub says_restarted : (past : Past) (p : ℕ) (e : Evidence) (s : Bool) (t : TermsFields) (place : ℕ) (next : Option Kept) (reached : Bool) (entry : Entry) → Says past t entry → ended past ≡ None
    → Says (Restart p e s true ∷ past) t (found p place finding.Restart next reached entry)
unfolding HasAccepted
says_restarted past p e s t place next reached entry says live =
    let g = going past live in
    record {
      terms_are = says.terms_are;
      v_is = says.v_is;
      end_is = still_none _ _ (came is_failed past || eqb (missed past) 5) g.stop g.invalid (or_none _ _ g.failed g.missing) ∙ sym live ∙ says.end_is;
      losses_are = refl;
      few_losses = omega arith;
      missed_are = says.missed_are;
      few_missed = says.few_missed;
      no_pass = λ none. refl;
      pass_is = λ k is. absurd (none-some k is);
      reached_is = λ k is. absurd (none-some k is);
      accepted = ([], no_boot, (refl, refl), refl);
      polled = says.polled;
      begun = says.begun;
    }

-- a finding that is not current changes nothing
pub says_stale_verdict : (past : Past) (p : ℕ) (e : Evidence) (s : Bool) (v : _) (t : TermsFields) (entry : Entry) → Says past t entry → Says (Verdict p e s v false ∷ past) t entry
unfolding HasAccepted
says_stale_verdict past p e s (Pass cut) t entry says = record {
  terms_are = says.terms_are;
  v_is = says.v_is;
  end_is = says.end_is;
  losses_are = says.losses_are;
  few_losses = says.few_losses;
  missed_are = says.missed_are;
  few_missed = says.few_missed;
  no_pass = says.no_pass;
  pass_is = says.pass_is;
  reached_is = says.reached_is;
  accepted = says.accepted;
  polled = says.polled;
  begun = says.begun;
}
says_stale_verdict past p e s (Failed why) t entry says = record {
  terms_are = says.terms_are;
  v_is = says.v_is;
  end_is = says.end_is;
  losses_are = says.losses_are;
  few_losses = says.few_losses;
  missed_are = says.missed_are;
  few_missed = says.few_missed;
  no_pass = says.no_pass;
  pass_is = says.pass_is;
  reached_is = says.reached_is;
  accepted = says.accepted;
  polled = says.polled;
  begun = says.begun;
}
says_stale_verdict past p e s (Invalid why) t entry says = record {
  terms_are = says.terms_are;
  v_is = says.v_is;
  end_is = says.end_is;
  losses_are = says.losses_are;
  few_losses = says.few_losses;
  missed_are = says.missed_are;
  few_missed = says.few_missed;
  no_pass = says.no_pass;
  pass_is = says.pass_is;
  reached_is = says.reached_is;
  accepted = says.accepted;
  polled = says.polled;
  begun = says.begun;
}

pub says_stale_restart : (past : Past) (p : ℕ) (e : Evidence) (s : Bool) (t : TermsFields) (entry : Entry) → Says past t entry → Says (Restart p e s false ∷ past) t entry
unfolding HasAccepted
says_stale_restart past p e s t entry says = record {
  terms_are = says.terms_are;
  v_is = says.v_is;
  end_is = says.end_is;
  losses_are = says.losses_are;
  few_losses = says.few_losses;
  missed_are = says.missed_are;
  few_missed = says.few_missed;
  no_pass = says.no_pass;
  pass_is = says.pass_is;
  reached_is = says.reached_is;
  accepted = says.accepted;
  polled = says.polled;
  begun = says.begun;
}

-- ---- a loss
-- a live agent has lost fewer than five polls in a row
pub few_lost : (past : Past) (t : TermsFields) (e : Entry) → Says past t e → ended past ≡ None → e.losses < 5
few_lost past t e says live =
    let not_five : ¬ (e.losses ≡ 5) = λ five. both_ways (eqb (losses past) 5) (going past live).losing (eq-eqb (losses past) 5 (says.losses_are ∙ five)) in
    omega (arith, says.few_losses, not_five)

alone : (f b m : Bool) → f ≡ false → m ≡ false → (f || (b || m)) ≡ b
alone true b m no_f no_m = cc
alone false true m no_f no_m = refl
alone false false m no_f no_m = no_m

lost_end : (past : Past) (p : ℕ) (w : _) → Going past → ended (Lost p w true ∷ past) ≡ cond (eqb (suc (losses past)) 5) (Some StateFailed) None
lost_end past p w g =
    cond-false (came is_stop past) _ _ g.stop
    ∙ cond-false (came is_invalid past) _ _ g.invalid
    ∙ ap (λ b. cond b (Some StateFailed) None) (alone (came is_failed past) (eqb (suc (losses past)) 5) (eqb (missed past) 5) g.failed g.missing)

pub says_lost : (past : Past) (p : ℕ) (w : _) (t : TermsFields) (entry : Entry) → Says past t entry → ended past ≡ None → Says (Lost p w true ∷ past) t (lost entry)
unfolding HasAccepted
says_lost past p w t entry says live =
    let few = few_lost past t entry says live in
    let more : suc (losses past) ≡ entry.losses + 1 = omega (arith, says.losses_are) in
    record {
      terms_are = says.terms_are;
      v_is = says.v_is;
      end_is =
          lost_end past p w (going past live)
          ∙ ap (λ n. cond (eqb n 5) (Some StateFailed) None) more
          ∙ ap (λ (o : Option Op). cond (eqb (entry.losses + 1) 5) (Some StateFailed) o) (sym live ∙ says.end_is);
      losses_are = more;
      few_losses = omega (arith, few);
      missed_are = says.missed_are;
      few_missed = says.few_missed;
      no_pass = says.no_pass;
      pass_is = says.pass_is;
      reached_is = says.reached_is;
      accepted = says.accepted;
      polled = says.polled;
      begun = says.begun;
    }

-- a loss that is not current changes nothing
pub says_stale_loss : (past : Past) (p : ℕ) (w : _) (t : TermsFields) (entry : Entry) → Says past t entry → Says (Lost p w false ∷ past) t entry
unfolding HasAccepted
says_stale_loss past p w t entry says = record {
  terms_are = says.terms_are;
  v_is = says.v_is;
  end_is = says.end_is;
  losses_are = says.losses_are;
  few_losses = says.few_losses;
  missed_are = says.missed_are;
  few_missed = says.few_missed;
  no_pass = says.no_pass;
  pass_is = says.pass_is;
  reached_is = says.reached_is;
  accepted = says.accepted;
  polled = says.polled;
  begun = says.begun;
}

-- ---- a release, and its settlement
pub says_released : (past : Past) (n : ℕ) (a : List ℕ) (g p : ℕ) (t : TermsFields) (entry : Entry) → Says past t entry → Says (Release n a g p ∷ past) t (handed n entry)
unfolding HasAccepted
says_released past n a g p t entry says = record {
  terms_are = says.terms_are;
  v_is = says.v_is;
  end_is = says.end_is;
  losses_are = says.losses_are;
  few_losses = says.few_losses;
  missed_are = says.missed_are;
  few_missed = says.few_missed;
  no_pass = says.no_pass;
  pass_is = says.pass_is;
  reached_is = says.reached_is;
  accepted = says.accepted;
  polled = says.polled;
  begun = says.begun;
}

-- what is kept says whether V has reached the boot of the last pass, once a release arrived
abbrev pub NowReached : Past → ℕ → Bool → Entry → Type 0
NowReached past n hit entry = (c : Bool) (k : Passed) → entry.pass ≡ Some k → Tells (entry.reached || hit) (HasReached (Settled n Arrived c ∷ past) k.boot)

-- a delivery that is not current, or was withdrawn, counts for nothing but that it may have arrived
pub says_settled_late : (past : Past) (n : ℕ) (o : Outcome) (hit : Bool) (t : TermsFields) (entry : Entry) → NowReached past n hit entry → Says past t entry
    → Says (Settled n o false ∷ past) t (settled o false hit entry)
unfolding HasAccepted
says_settled_late past n Arrived hit t entry now says = record {
  terms_are = says.terms_are;
  v_is = says.v_is;
  end_is = says.end_is;
  losses_are = says.losses_are;
  few_losses = says.few_losses;
  missed_are = says.missed_are;
  few_missed = says.few_missed;
  no_pass = says.no_pass;
  pass_is = says.pass_is;
  reached_is = now false;
  accepted = says.accepted;
  polled = says.polled;
  begun = says.begun;
}
says_settled_late past n Missed hit t entry now says = record {
  terms_are = says.terms_are;
  v_is = says.v_is;
  end_is = says.end_is;
  losses_are = says.losses_are;
  few_losses = says.few_losses;
  missed_are = says.missed_are;
  few_missed = says.few_missed;
  no_pass = says.no_pass;
  pass_is = says.pass_is;
  reached_is = says.reached_is;
  accepted = says.accepted;
  polled = says.polled;
  begun = says.begun;
}
says_settled_late past n (Withdrawn w) hit t entry now says = record {
  terms_are = says.terms_are;
  v_is = says.v_is;
  end_is = says.end_is;
  losses_are = says.losses_are;
  few_losses = says.few_losses;
  missed_are = says.missed_are;
  few_missed = says.few_missed;
  no_pass = says.no_pass;
  pass_is = says.pass_is;
  reached_is = says.reached_is;
  accepted = says.accepted;
  polled = says.polled;
  begun = says.begun;
}

lacking : (f m : Bool) → f ≡ false → (f || (false || m)) ≡ m
lacking true m no_f = cc
lacking false m no_f = refl

arrived_end : (past : Past) (n : ℕ) → Going past → ended (Settled n Arrived true ∷ past) ≡ None
arrived_end past n g = still_none _ _ (came is_failed past || (eqb (losses past) 5 || false)) g.stop g.invalid (or_none _ _ g.failed (or_none _ _ g.losing refl))

missed_end : (past : Past) (n : ℕ) → Going past → ended (Settled n Missed true ∷ past) ≡ cond (eqb (suc (missed past)) 5) (Some StateFailed) None
missed_end past n g =
    cond-false (came is_stop past) _ _ g.stop
    ∙ cond-false (came is_invalid past) _ _ g.invalid
    ∙ ap (λ b. cond (came is_failed past || (b || eqb (suc (missed past)) 5)) (Some StateFailed) None) g.losing
    ∙ ap (λ b. cond b (Some StateFailed) None) (lacking (came is_failed past) (eqb (suc (missed past)) 5) g.failed)

few_missed_live : (past : Past) (t : TermsFields) (e : Entry) → Says past t e → ended past ≡ None → e.missed < 5
few_missed_live past t e says live =
    let not_five : ¬ (e.missed ≡ 5) = λ five. both_ways (eqb (missed past) 5) (going past live).missing (eq-eqb (missed past) 5 (says.missed_are ∙ five)) in
    omega (arith, says.few_missed, not_five)

pub says_settled : (past : Past) (n : ℕ) (o : Outcome) (hit : Bool) (t : TermsFields) (entry : Entry) → NowReached past n hit entry → Says past t entry → ended past ≡ None
    → Says (Settled n o true ∷ past) t (settled o true hit entry)
unfolding HasAccepted
says_settled past n Arrived hit t entry now says live = record {
  terms_are = says.terms_are;
  v_is = says.v_is;
  end_is = arrived_end past n (going past live) ∙ sym live ∙ says.end_is;
  losses_are = says.losses_are;
  few_losses = says.few_losses;
  missed_are = refl;
  few_missed = omega arith;
  no_pass = says.no_pass;
  pass_is = says.pass_is;
  reached_is = now true;
  accepted = says.accepted;
  polled = says.polled;
  begun = says.begun;
}
says_settled past n Missed hit t entry now says live =
    let few = few_missed_live past t entry says live in
    let more : suc (missed past) ≡ entry.missed + 1 = omega (arith, says.missed_are) in
    record {
      terms_are = says.terms_are;
      v_is = says.v_is;
      end_is =
          missed_end past n (going past live)
          ∙ ap (λ n. cond (eqb n 5) (Some StateFailed) None) more
          ∙ ap (λ (o : Option Op). cond (eqb (entry.missed + 1) 5) (Some StateFailed) o) (sym live ∙ says.end_is);
      losses_are = says.losses_are;
      few_losses = says.few_losses;
      missed_are = more;
      few_missed = omega (arith, few);
      no_pass = says.no_pass;
      pass_is = says.pass_is;
      reached_is = says.reached_is;
      accepted = says.accepted;
      polled = says.polled;
      begun = says.begun;
    }
says_settled past n (Withdrawn w) hit t entry now says live = record {
  terms_are = says.terms_are;
  v_is = says.v_is;
  end_is = says.end_is;
  losses_are = says.losses_are;
  few_losses = says.few_losses;
  missed_are = says.missed_are;
  few_missed = says.few_missed;
  no_pass = says.no_pass;
  pass_is = says.pass_is;
  reached_is = says.reached_is;
  accepted = says.accepted;
  polled = says.polled;
  begun = says.begun;
}
