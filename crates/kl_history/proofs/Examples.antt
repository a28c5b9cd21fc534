-- The worked histories.
use Rattle.std.proofs.Common.{◌≡◌, ◌≢◌, ℕ, zero, suc, ◌+◌, ◌≤◌, Bool, true, false, eqb, List, [], ◌∷◌, ◌++◌, take, Some, None, is_some, inl, inr, refl, ap, sym, ◌∙◌, subst, arith, lit≤, lit<, suc-ne-zero}
use Rattle.std.specs.Prelude.{is_none, IsSome}
use Rattle.std.specs.Option.{option_map_or}
use Rattle.std.proofs.lemmas.Bool.{false≢true, and_right}
use Rattle.std.proofs.lemmas.Option.{same_Some, none-some}
use Rattle.kl_entry.specs.Entries.{EntryFields}
use Rattle.kl_entry.specs.Lines.{AreEntries}
use Rattle.kl_states.specs.declared.op.Op.{Op}
use Rattle.kl_states.specs.declared.op.Op.TheVariants as op
use Rattle.kl_states.specs.declared.outcome.DropWhy.TheVariants as dropped
use Rattle.kl_states.specs.declared.outcome.Outcome.TheVariants.{Arrived, Missed, Withdrawn}
use Rattle.kl_states.specs.declared.verdict.Verdict.{Verdict as AnyVerdict}
use Rattle.kl_states.specs.declared.verdict.Verdict.TheVariants.{Pass, Failed, Invalid}
use Rattle.kl_states.specs.declared.verdict.FailedCause.{FailedCause}
use Rattle.kl_states.specs.declared.verdict.InvalidCause.{InvalidCause}
use Rattle.kl_states.specs.Ops.{is_owed}
use Rattle.kl_appraise.specs.declared.judged.Boot.{Boot}
use Rattle.kl_appraise.specs.Terms.{TermsFields}
use Rattle.kl_appraise.specs.QuoteRules.{IsUnasked}
use Rattle.kl_appraise.specs.ListRules.{check_of}
use Rattle.kl_appraise.specs.Outcome.{IsVerdict}
use Rattle.kl_history.specs.declared.record.Record.TheVariants.{Dropped, Release, Settled, Stop, Remove}
use Rattle.kl_history.specs.Records.{History, Past, past_of, Beginning, start_of, Handing, handing_of, releases_made, is_unsettled, is_open, terms_of, own}
use Rattle.kl_history.specs.LookBacks.{Installed, installed, losses, missed, Passing, last_pass}
use Rattle.kl_history.specs.Accepted.{no_boot, SignsBoot, HasAccepted, WasAccepted}
use Rattle.kl_history.specs.States.{ended, is_current, handed_for, HasReached, IsDue, IsLiveOp, IsOp}
use Rattle.kl_history.specs.Releases.{MayRelease}
use Rattle.kl_history.specs.Legal.{MayClose, Row, weight_of, Legal}
use Rattle.kl_history.specs.Worked.{a1, Given, Reply, IsFound, IsFoundNext, added, replaced, reactivated, begun, verdict, lost_poll, own_of, IsIn, Accepts, ClosesAs, IsNotBegun, IsNotReleased, polled, passed, FirstPass, late, LatePass, LateFailure, invalid, InvalidQuote, failed_twice, SecondFailure, added_again, gone, AddedAgain, four_losses, five_losses, FiveLosses, released, settled_late, passed_again, ReleasedAndReplaced, missed_delivery, four_missed, five_missed, Undelivered, polled_again, restarted, passed_anew, Rebooted, Continued, stopped, Stopped, PassWithoutShare, passed_afresh, arrived_before, sent_and_added, OfTwo}
use Rattle.kl_history.proofs.ShortHistories.{AreRows, IsLight, legal_rows, idle, all_settled}
use Rattle.kl_history.proofs.OneStanding.{boot_same, state_same}

-- ---- what serves all of them

not_due : (own : Past) → last_pass own ≡ None → ¬ (IsDue own)
not_due own none = λ due. none-some due.pass (sym none ∙ due.passed)

due_by : (own : Past) (i : Installed) (pass : Passing) → installed own ≡ Some i → IsSome i.terms.v → last_pass own ≡ Some pass
    → ((boot : Boot) → SignsBoot pass.evidence boot → ¬ (HasReached own boot)) → IsDue own
due_by own i pass inst has_v passes unreached = record { installation = i; installed = inst; has_v = has_v; pass = pass; passed = passes; unreached = unreached }

-- the release rule is met by the agent of these histories
may_release : (past : Past) (n : ℕ) (i : Installed) (p : Passing) (o : Op) → n ≡ releases_made past + 1 → IsDue (own past a1) → installed (own past a1) ≡ Some i → last_pass (own past a1) ≡ Some p
    → IsOp (own past a1) o → is_owed o ≡ true → ((m q : ℕ) → handed_for m (own past a1) ≡ Some q → is_unsettled past m ≡ false) → MayRelease past n a1 i.generation p.poll
may_release past n i p o next due inst passes state owed alone = record {
  next = next;
  due = due;
  op = o;
  state = state;
  owed = owed;
  named = ap (λ (x : Installed). x.generation) (same_Some i due.installation (sym inst ∙ due.installed));
  stands = ap (λ (x : Passing). x.poll) (same_Some p due.pass (sym passes ∙ due.passed));
  alone = alone;
}

-- V is due no more once it reached the boot of the last pass
reached_not_due : (own : Past) (pass : Passing) (boot : Boot) → last_pass own ≡ Some pass → SignsBoot pass.evidence boot → HasReached own boot → ¬ (IsDue own)
reached_not_due own pass boot passes signs reached = λ due.
    due.unreached boot (subst (λ (p : Passing). SignsBoot p.evidence boot) (same_Some pass due.pass (sym passes ∙ due.passed)) signs) reached

-- the one state in which nothing is owed
not_released : (H : History) (o : Op) → IsIn H o → is_owed o ≡ false → IsNotReleased H
not_released H o is not_owed n g p = λ may.
    let same : Some may.op ≡ Some o = state_same (own_of H) (Some may.op) (Some o) (ap (λ i. is_some i) may.due.installed, may.state) is in
    false≢true (sym not_owed ∙ sym (ap is_owed (same_Some may.op o same)) ∙ may.owed)

-- an agent whose being polled has ended is polled no more
not_begun : (H : History) (o : Op) → ended (own_of H) ≡ Some o → IsNotBegun H
not_begun H o over p g n at from = λ row.
    false≢true (sym (and_right (option_map_or (λ (i : Installed). eqb i.generation g) (installed (own_of H)) false) (is_none (ended (own_of H))) (ap is_none over)) ∙ row.1)

closes_row : (past : Past) (p : ℕ) (s : Beginning) (now : Bool) → start_of past p ≡ Some s → is_open past p ≡ true → now ≡ is_current (own past s.agent) s.generation → MayClose past p now
closes_row past p s now began unclosed current = record { started = s; began = began; unclosed = unclosed; current = current }

closes_as : (H : History) (p : ℕ) (s : Beginning) (now : Bool) → start_of (past_of H) p ≡ Some s → is_open (past_of H) p ≡ true → now ≡ is_current (own (past_of H) s.agent) s.generation → ClosesAs H p now
closes_as H p s now began unclosed current = record {
  may_lose = λ why. closes_row (past_of H) p s now began unclosed current;
  loses = λ why c may. marked c may;
  finds = λ e signed v c row. marked c row.0;
  restarts = λ e signed c row. marked c row.0;
}
  where
    marked : (c : Bool) → MayClose (past_of H) p c → c ≡ now
    marked c may = may.current ∙ ap (λ (z : Beginning). is_current (own (past_of H) z.agent) z.generation) (same_Some may.started s (sym may.began ∙ began)) ∙ sym current

-- the row of a verdict, behind what was accepted when its poll began
verdict_row : (past : Past) (p : ℕ) (s : Beginning) (t : TermsFields) (r : Reply) (v : AnyVerdict) (now : Bool) (entries : List EntryFields) (boot : Boot) → start_of past p ≡ Some s → is_open past p ≡ true
    → now ≡ is_current (own past s.agent) s.generation → terms_of past s.generation ≡ Some t → s.from ≡ 0 → WasAccepted p (own past s.agent) entries boot
    → IsVerdict (record { terms = t; nonce = s.nonce; from = 0; prefix = entries; boot = boot; evidence = r.evidence; signed = r.signed }) v
    → (IsUnasked (check_of (record { terms = t; nonce = s.nonce; from = 0; prefix = entries; boot = boot; evidence = r.evidence; signed = r.signed })) → r.signed ≡ false)
    → Row past (verdict p r v now)
verdict_row past p s t r v now entries boot began unclosed current terms from was found unasked = (
  closes_row past p s now began unclosed current,
  (
    _,
    record {
      started = s;
      began = began;
      unclosed = unclosed;
      terms = terms;
      nonce = refl;
      from = sym from;
      accepted = was;
      evidence = refl;
      signed = refl;
      unasked = unasked;
    },
    found,
  ),
)

-- and of one on a whole list, where nothing was
found_row : (past : Past) (p : ℕ) (s : Beginning) (t : TermsFields) (r : Reply) (v : AnyVerdict) (now : Bool) → start_of past p ≡ Some s → is_open past p ≡ true
    → now ≡ is_current (own past s.agent) s.generation → terms_of past s.generation ≡ Some t → s.from ≡ 0 → WasAccepted p (own past s.agent) [] no_boot → IsFound t s.nonce r v
    → Row past (verdict p r v now)
found_row past p s t r v now began unclosed current terms from was found =
    verdict_row past p s t r v now [] no_boot began unclosed current terms from was found.verdict found.unasked

light : (r : Reply) (p : ℕ) (v : AnyVerdict) (now : Bool) → weight_of (verdict p r v now) ≤ 16777216
light r p v now = r.evidence.bounded

take-nil : (n : ℕ) → take {A = EntryFields} n [] ≡ []
take-nil zero = refl
take-nil (suc n) = refl

-- ---- a first pass

polled_rows : (x : Given) → AreRows (past_of (polled x))
polled_rows x = ((tt, (refl, (refl, lit< tt))), (refl, refl, idle (added x 1 ∷ []) a1 1 refl, refl))

polled_light : (x : Given) → IsLight (past_of (polled x))
polled_light x = ((tt, x.small), omega arith)

passed_rows : (x : Given) (r : Reply) → IsFound x.terms (x.nonce 1) r (Pass 2) → AreRows (past_of (passed x r))
unfolding HasAccepted
passed_rows x r found = (polled_rows x, found_row (past_of (polled x)) 1 _ x.terms r (Pass 2) true refl refl refl refl refl (refl, refl) found)

passed_light : (x : Given) (r : Reply) → IsLight (past_of (passed x r))
passed_light x r = (polled_light x, light r 1 (Pass 2) true)

passed_due : (x : Given) (r : Reply) → IsDue (own_of (passed x r))
passed_due x r = due_by (own_of (passed x r)) _ _ refl x.has_v refl (λ boot _ none. none)

passed_accepts : (x : Given) (r : Reply) (es : List EntryFields) (boot : Boot) → AreEntries r.evidence.list es → SignsBoot r.evidence boot → Accepts (passed x r) (take 2 es) boot
unfolding HasAccepted
passed_accepts x r es boot are signs =
    ([], no_boot, (refl, refl), record { whole = es; continues = (es, are, ap (λ l. l ++ es) (sym (take-nil r.evidence.start))); front = refl; signs = signs })

pub pass_without_share : (t : TermsFields) (nonce : List ℕ) (at : ℕ) (r : Reply) → PassWithoutShare t nonce at r
pass_without_share t nonce at r none = (refl, inr (refl, (λ due. false≢true (ap (λ v. is_some v) (sym none) ∙ ap (λ (i : Installed). is_some i.terms.v) (same_Some _ due.installation due.installed) ∙ due.has_v), refl, refl)))

pub first_pass : (x : Given) (r : Reply) → IsFound x.terms (x.nonce 1) r (Pass 2) → FirstPass x r
first_pass x r found = record {
  start = (refl, inr (refl, (not_due (own_of (added x 1 ∷ [])) refl, refl, refl)));
  polling = (refl, inr (refl, (not_due (own_of (polled x)) refl, refl, refl)));
  closes = closes_as (polled x) 1 _ true refl refl refl;
  legal = legal_rows (past_of (passed x r)) (passed_rows x r found) (passed_light x r) (lit≤ tt);
  state = (refl, inr (refl, (passed_due x r, refl)));
  accepts = passed_accepts x r;
  whole = λ n at from row. row.3;
  releases = release_row (past_of (passed x r)) refl refl refl (passed_due x r) refl refl (λ n p handed. none-some p handed);
  lost_then = (refl, inr (refl, (lost_due, refl)));
  releases_then = release_row (past_of (passed x r ++ begun x 2 1 ∷ lost_poll 2 ∷ [])) refl refl refl lost_due refl refl (λ n p handed. none-some p handed);
  arrived = λ boot signs. (refl, inr (refl, (reached_not_due (own_of (passed x r ++ Release 1 a1 1 1 ∷ Settled 1 Arrived true ∷ [])) _ boot refl signs (inl (1, refl, inl (refl, signs))), refl, refl)));
  none_told = refl;
}
  where
    lost_due : IsDue (own_of (passed x r ++ begun x 2 1 ∷ lost_poll 2 ∷ []))
    lost_due = due_by (own_of (passed x r ++ begun x 2 1 ∷ lost_poll 2 ∷ [])) _ _ refl x.has_v refl (λ boot _ none. none)

    -- the first release
    release_row : (past : Past) → releases_made past ≡ 0 → installed (own past a1) ≡ Some (record { generation = 1; terms = x.terms }) → last_pass (own past a1) ≡ Some (record { poll = 1; evidence = r.evidence })
        → IsDue (own past a1) → ended (own past a1) ≡ None → missed (own past a1) ≡ 0 → ((n p : ℕ) → ¬ (handed_for n (own past a1) ≡ Some p)) → Row past (Release 1 a1 1 1)
    release_row past none inst passes due live late alone =
        may_release past 1 _ _ op.ProvideV (ap (λ n. n + 1) (sym none)) due inst passes (inr (live, (due, late))) refl (λ n p handed. absurd (alone _ p handed))

-- ---- a late pass and a late failure

replaced_rows : (x : Given) → AreRows (past_of (polled x ++ replaced x 2 ∷ []))
replaced_rows x = (polled_rows x, (refl, (_, refl, x.differ)))

late_rows : (x : Given) (r : Reply) (v : AnyVerdict) → IsFound x.terms (x.nonce 1) r v → AreRows (past_of (late x r v))
unfolding HasAccepted
late_rows x r v found = (replaced_rows x, found_row (past_of (polled x ++ replaced x 2 ∷ [])) 1 _ x.terms r v false refl refl refl refl refl (refl, refl) found)

late_legal : (x : Given) (r : Reply) (v : AnyVerdict) → IsFound x.terms (x.nonce 1) r v → Legal (late x r v)
late_legal x r v found = legal_rows (past_of (late x r v)) (late_rows x r v found) ((polled_light x, x.others_small), light r 1 v false) (lit≤ tt)

pub late_pass : (x : Given) (r : Reply) → IsFound x.terms (x.nonce 1) r (Pass 2) → LatePass x r
unfolding HasAccepted
late_pass x r found =
    let H = late x r (Pass 2) in
    let state : IsIn H op.Start = (refl, inr (refl, (not_due (own_of H) refl, refl, refl))) in
    record {
      policy_alone = λ t row. row.1.2 ∙ ap (λ (i : Installed). record i.terms { policy = t.policy }) (sym (same_Some _ row.1.0 row.1.1));
      closes = closes_as (polled x ++ replaced x 2 ∷ []) 1 _ false refl refl refl;
      legal = late_legal x r (Pass 2) found;
      state = state;
      accepts = (refl, refl);
      not_released = not_released H op.Start state refl;
      next = (refl, refl, idle (past_of H) a1 2 refl, refl);
    }

pub late_failure : (x : Given) (r : Reply) (why : FailedCause) → IsFound x.terms (x.nonce 1) r (Failed why) → LateFailure x r why
late_failure x r why found = record {
  legal = late_legal x r (Failed why) found;
  state = (refl, inr (refl, (not_due (own_of (late x r (Failed why))) refl, refl, refl)));
  none_told = refl;
  in_time = (refl, inl refl);
  told = refl;
}

pub invalid_quote : (x : Given) (r : Reply) (why : InvalidCause) → IsFound x.terms (x.nonce 1) r (Invalid why) → InvalidQuote x r why
unfolding HasAccepted
invalid_quote x r why found =
    let H = invalid x r why in
    record {
      legal = legal_rows (past_of H) (polled_rows x, found_row (past_of (polled x)) 1 _ x.terms r (Invalid why) true refl refl refl refl refl (refl, refl) found)
          (polled_light x, light r 1 (Invalid why) true) (lit≤ tt);
      state = (refl, inl refl);
      told = refl;
      not_begun = not_begun H op.InvalidQuote refl;
      not_released = not_released H op.InvalidQuote (refl, inl refl) refl;
    }

pub second_failure : (x : Given) (r q : Reply) (why why_too : FailedCause) → IsFound x.terms (x.nonce 1) r (Failed why) → IsFound x.others (x.nonce 2) q (Failed why_too)
    → SecondFailure x r q why why_too
unfolding HasAccepted
second_failure x r q why why_too found too =
    let begun_again = polled x ++ replaced x 2 ∷ begun x 2 2 ∷ [] in
    let failed = begun_again ++ verdict 2 q (Failed why_too) true ∷ [] in
    let begun_rows : AreRows (past_of begun_again) = (replaced_rows x, (refl, refl, idle (past_of (polled x ++ replaced x 2 ∷ [])) a1 2 refl, refl)) in
    let failed_rows : AreRows (past_of failed) = (begun_rows, found_row (past_of begun_again) 2 _ x.others q (Failed why_too) true refl refl refl refl refl (refl, refl) too) in
    record {
      legal = legal_rows (past_of (failed_twice x r q why why_too)) (failed_rows, found_row (past_of failed) 1 _ x.terms r (Failed why) false refl refl refl refl refl (refl, refl) found)
          (((((polled_light x, x.others_small), omega arith), light q 2 (Failed why_too) true), light r 1 (Failed why) false)) (lit≤ tt);
      state = (refl, inl refl);
      told = refl;
    }

-- ---- removed, and added again

pub added_once_more : (x : Given) (r : Reply) → IsFound x.terms (x.nonce 1) r (Pass 2) → AddedAgain x r
unfolding HasAccepted
added_once_more x r found =
    let removed = polled x ++ Remove a1 ∷ [] in
    let again = removed ++ added x 2 ∷ [] in
    let open_too = again ++ begun x 2 2 ∷ [] in
    let removed_rows : AreRows (past_of removed) = (polled_rows x, refl) in
    let again_rows : AreRows (past_of again) = (removed_rows, (refl, (refl, lit< tt))) in
    let open_rows : AreRows (past_of open_too) = (again_rows, (refl, refl, idle (past_of again) a1 2 refl, refl)) in
    let removed_light : IsLight (past_of removed) = (polled_light x, omega arith) in
    record {
      closes = closes_as open_too 1 _ false refl refl refl;
      legal = legal_rows (past_of (added_again x r)) (open_rows, found_row (past_of open_too) 1 _ x.terms r (Pass 2) false refl refl refl refl refl (refl, refl) found)
          (((removed_light, x.small), omega arith), light r 1 (Pass 2) false) (lit≤ tt);
      state = (refl, inr (refl, (not_due (own_of (added_again x r)) refl, refl, refl)));
      accepts = (refl, refl);
      still_closes = closes_as (added_again x r) 2 _ true refl refl refl;
      legal_gone = legal_rows (past_of (gone x r)) (removed_rows, found_row (past_of removed) 1 _ x.terms r (Pass 2) false refl refl refl refl refl (refl, refl) found)
          (removed_light, light r 1 (Pass 2) false) (lit≤ tt);
      none = refl;
    }

-- ---- five losses

-- a poll begins, and is lost
lost_rows : (x : Given) (past : Past) (p : ℕ) (s : Beginning) → AreRows past → Row past (begun x p 1) → start_of (begun x p 1 ∷ past) p ≡ Some s → is_open (begun x p 1 ∷ past) p ≡ true
    → true ≡ is_current (own (begun x p 1 ∷ past) s.agent) s.generation → AreRows (lost_poll p ∷ begun x p 1 ∷ past)
lost_rows x past p s rows begin began unclosed current = ((rows, begin), closes_row (begun x p 1 ∷ past) p s true began unclosed current)

losses_rows : (x : Given) → AreRows (past_of (five_losses x))
losses_rows x =
    let one = lost_rows x _ 1 _ (tt, (refl, (refl, lit< tt))) (refl, refl, idle _ a1 1 refl, refl) refl refl refl in
    let two = lost_rows x _ 2 _ one (refl, refl, idle _ a1 1 refl, refl) refl refl refl in
    let three = lost_rows x _ 3 _ two (refl, refl, idle _ a1 1 refl, refl) refl refl refl in
    let four = lost_rows x _ 4 _ three (refl, refl, idle _ a1 1 refl, refl) refl refl refl in
    lost_rows x (past_of (four_losses x)) 5 _ four (refl, refl, idle (past_of (four_losses x)) a1 1 refl, refl) refl refl refl

losses_light : (x : Given) → IsLight (past_of (five_losses x))
losses_light x =
    let z : 0 ≤ 16777216 = omega arith in
    (((((((((((tt, x.small), z), z), z), z), z), z), z), z), z), z)

quiet : (own : Past) → last_pass own ≡ None → losses own ≢ 0 → IsLiveOp own op.GetQuoteRetry
quiet own none some = (not_due own none, some)

pub five_are_lost : (x : Given) (r : Reply) → FiveLosses x r
five_are_lost x r =
    let H = five_losses x in
    let dropped_too = four_losses x ++ begun x 5 1 ∷ Dropped 5 dropped.Keys ∷ [] in
    record {
      four = (refl, inr (refl, quiet (own_of (four_losses x)) refl (λ none. grind arith)));
      four_lost = refl;
      none_told = refl;
      legal = legal_rows (past_of H) (losses_rows x) (losses_light x) (lit≤ tt);
      state = (refl, inl refl);
      told = refl;
      not_begun = not_begun H op.Failed refl;
      dropped_between = (refl, inr (refl, quiet (own_of dropped_too) refl (λ none. grind arith)));
      begins_then = (refl, refl, idle (past_of dropped_too) a1 1 refl, refl);
      then_lost = (refl, inl refl);
      found_between = refl;
      again = (refl, (_, refl, refl));
      unchanged = λ t row. row.1.2 ∙ ap (λ (i : Installed). i.terms) (sym (same_Some _ row.1.0 row.1.1));
      at_start = (refl, inr (refl, (not_due (own_of (H ++ reactivated x 2 ∷ [])) refl, refl, refl)));
    }

-- ---- released, and replaced

released_rows : (x : Given) (r : Reply) → IsFound x.terms (x.nonce 1) r (Pass 2) → AreRows (past_of (released x r))
released_rows x r found = (passed_rows x r found, (first_pass x r found).releases)

others_have_v : (x : Given) → IsSome x.others.v
others_have_v x = ap (λ (t : TermsFields). is_some t.v) x.differ ∙ x.has_v

pub released_and_replaced : (x : Given) (r q : Reply) → IsFound x.terms (x.nonce 1) r (Pass 2) → IsFound x.others (x.nonce 2) q (Pass 2) → ReleasedAndReplaced x r q
unfolding HasAccepted
released_and_replaced x r q found too =
    let sent = released x r in
    let changed = sent ++ replaced x 2 ∷ [] in
    let again = settled_late x r ++ begun x 2 2 ∷ [] in
    let H = passed_again x r q in
    let changed_rows : AreRows (past_of changed) = (released_rows x r found, (refl, (_, refl, x.differ))) in
    let settled_rows : AreRows (past_of (settled_late x r)) = (changed_rows, record { handing = _; released = refl; unsettled = refl; current = refl }) in
    let again_rows : AreRows (past_of again) = (settled_rows, (refl, refl, idle (past_of (settled_late x r)) a1 2 refl, refl)) in
    record {
      busy = λ n g p may. absurd (false≢true (sym (may.alone 1 1 refl)));
      settles = record {
        may_settle = λ o. record { handing = _; released = refl; unsettled = refl; current = refl };
        settles = λ o c may.
            may.current ∙ ap (λ (h : Handing). is_current (own (past_of changed) h.agent) h.generation) (same_Some may.handing _ (sym may.released));
      };
      legal = legal_rows (past_of H) (again_rows, found_row (past_of again) 2 _ x.others q (Pass 2) true refl refl refl refl refl (refl, refl) too)
          (((((passed_light x r, omega arith), x.others_small), omega arith), omega arith), light q 2 (Pass 2) true) (lit≤ tt);
      at_start = (refl, inr (refl, (not_due (own_of (settled_late x r)) refl, refl, refl)));
      in_time = λ boot signs also. (refl, inr (refl, (reached_not_due (own_of (arrived_before x r q)) _ boot refl also (inl (1, refl, inl (refl, signs))), refl, refl)));
      afresh = (refl, inr (refl, (due_by (own_of (passed_afresh x r q)) _ _ refl x.has_v refl (λ boot _ none. none), refl)));
      busy_still = λ n g p may. absurd (false≢true (sym (may.alone 1 1 refl)));
      releases_anew =
          let due = due_by (own_of (sent_and_added x r q)) _ _ refl x.has_v refl (λ boot _ none. none) in
          may_release (past_of (sent_and_added x r q)) _ _ _ op.ProvideV refl due refl refl (inr (refl, (due, refl))) refl (λ n p handed. absurd (none-some p handed));
      arrives_late = (refl, inr (refl, (due_by (own_of (sent_and_added x r q ++ Settled 1 Arrived false ∷ [])) _ _ refl x.has_v refl (λ boot _ reached. not_counted x r q boot reached), refl)));
      same_boot = λ boot signs also. (refl, inr (refl, (reached_not_due (own_of H) _ boot refl also (inl (1, refl, inl (refl, signs))), refl, refl)));
      other_boot = λ first second signs also apart. (
        refl,
        inr (
          refl,
          (
            due_by (own_of H) _ _ refl (others_have_v x) refl (λ boot signed reached.
                unreached x r boot first second signs reached (boot_same q.evidence boot second signed also) apart),
            refl,
          ),
        ),
      );
    }
  where
    -- the boot that the one release reached is that of the first pass
    unreached : (x : Given) (r : Reply) (boot first second : Boot) → SignsBoot r.evidence first → HasReached (Settled 1 Arrived false ∷ replaced x 2 ∷ past_of (released x r)) boot → boot ≡ second → second ≢ first → ⊥
    unreached x r boot first second signs (inl (p, handed, inl (same, by))) is apart = apart (sym is ∙ boot_same r.evidence boot first by signs)
    unreached x r boot first second signs (inl (p, handed, inr none)) is apart = none
    unreached x r boot first second signs (inr none) is apart = none

    -- a release from before the agent was added again reached no boot
    not_counted : (x : Given) (r q : Reply) (boot : Boot) → ¬ (HasReached (Settled 1 Arrived false ∷ past_of (sent_and_added x r q)) boot)
    not_counted x r q boot (inl (p, handed, by)) = none-some p handed
    not_counted x r q boot (inr none) = none

-- ---- undelivered

-- V is released again, and its delivery is missed again
missed_rows : (past : Past) (n : ℕ) (h : Handing) → AreRows past → Row past (Release n a1 1 1) → handing_of (Release n a1 1 1 ∷ past) n ≡ Some h → is_unsettled (Release n a1 1 1 ∷ past) n ≡ true
    → true ≡ is_current (own (Release n a1 1 1 ∷ past) h.agent) h.generation → AreRows (Settled n Missed true ∷ Release n a1 1 1 ∷ past)
missed_rows past n h rows release made unsettled current = ((rows, release), record { handing = h; released = made; unsettled = unsettled; current = current })

-- a release after deliveries that were missed: V is due, and none of the releases before it is open
again_row : (x : Given) (r : Reply) (past : Past) (n k : ℕ) → n ≡ releases_made past + 1 → installed (own past a1) ≡ Some (record { generation = 1; terms = x.terms }) → last_pass (own past a1) ≡ Some (record { poll = 1; evidence = r.evidence })
    → ended (own past a1) ≡ None → missed (own past a1) ≡ suc k → ((boot : Boot) → ¬ (HasReached (own past a1) boot)) → ((m : ℕ) → is_unsettled past m ≡ false)
    → Row past (Release n a1 1 1)
again_row x r past n k next inst passes live some unreached alone =
    let due = due_by (own past a1) (record { generation = 1; terms = x.terms }) (record { poll = 1; evidence = r.evidence }) inst x.has_v passes (λ boot _. unreached boot) in
    may_release past n _ _ op.ProvideVRetry next due inst passes (inr (live, (due, λ none. suc-ne-zero k (sym some ∙ none)))) refl (λ m p _. alone _)

missed_again : (x : Given) (r : Reply) → IsFound x.terms (x.nonce 1) r (Pass 2) → AreRows (past_of (five_missed x r))
missed_again x r found =
    let p1 = past_of (passed x r ++ missed_delivery 1) in
    let p2 = past_of (passed x r ++ missed_delivery 1 ++ missed_delivery 2) in
    let p3 = past_of (passed x r ++ missed_delivery 1 ++ missed_delivery 2 ++ missed_delivery 3) in
    let p4 = past_of (four_missed x r) in
    let one : AreRows p1 = missed_rows (past_of (passed x r)) 1 _ (passed_rows x r found) (first_pass x r found).releases refl refl refl in
    let two : AreRows p2 = missed_rows p1 2 _ one (again_row x r p1 2 0 refl refl refl refl refl (λ boot none. none) (all_settled p1 refl)) refl refl refl in
    let three : AreRows p3 = missed_rows p2 3 _ two (again_row x r p2 3 1 refl refl refl refl refl (λ boot none. none) (all_settled p2 refl)) refl refl refl in
    let four : AreRows p4 = missed_rows p3 4 _ three (again_row x r p3 4 2 refl refl refl refl refl (λ boot none. none) (all_settled p3 refl)) refl refl refl in
    missed_rows p4 5 _ four (again_row x r p4 5 3 refl refl refl refl refl (λ boot none. none) (all_settled p4 refl)) refl refl refl

-- after n deliveries that were missed V is due still
owed_again : (x : Given) (r : Reply) (own : Past) (k : ℕ) → installed own ≡ Some (record { generation = 1; terms = x.terms }) → last_pass own ≡ Some (record { poll = 1; evidence = r.evidence })
    → missed own ≡ suc k → ((boot : Boot) → ¬ (HasReached own boot)) → IsLiveOp own op.ProvideVRetry
owed_again x r own k inst passes some unreached =
    (due_by own _ _ inst x.has_v passes (λ boot _. unreached boot), λ none. suc-ne-zero k (sym some ∙ none))

pub undelivered : (x : Given) (r : Reply) → IsFound x.terms (x.nonce 1) r (Pass 2) → Undelivered x r
undelivered x r found =
    let z : 0 ≤ 16777216 = omega arith in
    let withdrawn_too = four_missed x r ++ Release 5 a1 1 1 ∷ Settled 5 (Withdrawn dropped.Keys) true ∷ [] in
    record {
      one = (refl, inr (refl, owed_again x r (own_of (passed x r ++ missed_delivery 1)) 0 refl refl refl (λ boot none. none)));
      four = (refl, inr (refl, owed_again x r (own_of (four_missed x r)) 3 refl refl refl (λ boot none. none)));
      four_late = refl;
      withdrawn = (refl, inr (refl, owed_again x r (own_of (four_missed x r ++ Release 5 a1 1 1 ∷ Settled 5 (Withdrawn dropped.Keys) true ∷ [])) 3 refl refl refl (λ boot none. none)));
      releases_then = again_row x r (past_of withdrawn_too) 6 3 refl refl refl refl refl (λ boot none. none) (all_settled (past_of withdrawn_too) refl);
      then_arrived = refl;
      legal = legal_rows (past_of (five_missed x r)) (missed_again x r found) ((((((((((passed_light x r, z), z), z), z), z), z), z), z), z), z) (lit≤ tt);
      state = (refl, inl refl);
      told = refl;
    }

-- ---- rebooted

-- the second pass is legal, where it is what the rules find
rebooted_legal : (x : Given) (r q : Reply) (es : List EntryFields) (first : Boot) → IsFound x.terms (x.nonce 1) r (Pass 2) → AreEntries r.evidence.list es → SignsBoot r.evidence first
    → IsFoundNext x q es first (Pass 2) → Legal (passed_anew x r q)
unfolding HasAccepted
rebooted_legal x r q es first found are signs next =
    let arrived = released x r ++ Settled 1 Arrived true ∷ [] in
    let again = polled_again x r in
    let z : 0 ≤ 16777216 = omega arith in
    let arrived_rows : AreRows (past_of arrived) = (released_rows x r found, record { handing = _; released = refl; unsettled = refl; current = refl }) in
    let again_rows : AreRows (past_of again) = (arrived_rows, (refl, refl, idle (past_of arrived) a1 1 refl, refl)) in
    legal_rows (past_of (passed_anew x r q))
    (again_rows, verdict_row (past_of again) 2 _ x.terms q (Pass 2) true (take 2 es) first refl refl refl refl refl (passed_accepts x r es first are signs) next.verdict next.unasked)
    ((((passed_light x r, z), z), z), light q 2 (Pass 2) true) (lit≤ tt)

pub rebooted : (x : Given) (r q : Reply) (es fs : List EntryFields) (first second : Boot) → IsFound x.terms (x.nonce 1) r (Pass 2)
    → AreEntries r.evidence.list es → SignsBoot r.evidence first → AreEntries q.evidence.list fs → q.evidence.start ≡ 0 → SignsBoot q.evidence second → Rebooted x r q es fs first second
unfolding HasAccepted
rebooted x r q es fs first second found are signs too whole also =
    let down = restarted x r q in
    let up = passed_anew x r q in
    let down_state : IsIn down op.GetQuote = (refl, inr (refl, (not_due (own_of down) refl, refl, refl))) in
    let before : Accepts (polled_again x r) (take 2 es) first = passed_accepts x r es first are signs in
    record {
      restart_state = down_state;
      restart_accepts = (refl, refl);
      restart_released = not_released down op.GetQuote down_state refl;
      restart_next = (refl, refl, idle (past_of down) a1 1 refl, refl);
      accepted = before;
      pass_legal = rebooted_legal x r q es first found are signs;
      pass_accepts = (take 2 es, first, before, record { whole = fs; continues = (fs, too, ap (λ n. take n (take 2 es) ++ fs) (sym whole)); front = refl; signs = also });
      pass_state = λ apart. (
        refl,
        inr (
          refl,
          (
            due_by (own_of up) _ _ refl x.has_v refl (λ boot signed reached.
                not_reached boot reached (boot_same q.evidence boot second signed also) apart),
            refl,
          ),
        ),
      );
      same_state = λ same. (refl, inr (refl, (reached_not_due (own_of up) _ second refl also (inl (1, refl, inl (refl, subst (SignsBoot r.evidence) (sym same) signs))), refl, refl)));
    }
  where
    not_reached : (boot : Boot) → HasReached (own_of (passed_anew x r q)) boot → boot ≡ second → second ≢ first → ⊥
    not_reached boot (inl (p, handed, inl (same, by))) is apart = apart (sym is ∙ boot_same r.evidence boot first by signs)
    not_reached boot (inl (p, handed, inr none)) is apart = none
    not_reached boot (inr none) is apart = none

-- ---- a list that is continued

pub list_continued : (x : Given) (r q : Reply) (d0 d1 d2 d3 : EntryFields) (first second : Boot) → AreEntries r.evidence.list (d0 ∷ d1 ∷ d2 ∷ []) → SignsBoot r.evidence first
    → AreEntries q.evidence.list (d3 ∷ []) → q.evidence.start ≡ 2 → SignsBoot q.evidence second → Continued x r q d0 d1 d3 first second
unfolding HasAccepted
list_continued x r q d0 d1 d2 d3 first second are signs too two also =
    let before : Accepts (passed x r) (d0 ∷ d1 ∷ []) first = passed_accepts x r (d0 ∷ d1 ∷ d2 ∷ []) first are signs in
    record {
      accepts = (d0 ∷ d1 ∷ [], first, before, record { whole = d0 ∷ d1 ∷ d3 ∷ []; continues = (d3 ∷ [], too, ap (λ n. take n (d0 ∷ d1 ∷ []) ++ d3 ∷ []) (sym two)); front = refl; signs = also });
      was = before;
      stale = (refl, refl);
    }

-- ---- stopped

pub tenant_stopped : (x : Given) (r : Reply) → IsFound x.terms (x.nonce 1) r (Pass 2) → Stopped x r
unfolding HasAccepted
tenant_stopped x r found =
    let over = polled x ++ Stop a1 ∷ [] in
    let H = stopped x r in
    let over_rows : AreRows (past_of over) = (polled_rows x, refl) in
    record {
      closes = closes_as over 1 _ false refl refl refl;
      legal = legal_rows (past_of H) (over_rows, found_row (past_of over) 1 _ x.terms r (Pass 2) false refl refl refl refl refl (refl, refl) found)
          ((polled_light x, omega arith), light r 1 (Pass 2) false) (lit≤ tt);
      state = (refl, inl refl);
      none_told = refl;
      once = λ live. false≢true live;
      not_begun = not_begun H op.TenantFailed refl;
      not_released = not_released H op.TenantFailed (refl, inl refl) refl;
      again = (refl, (_, refl, refl));
      at_start = (refl, inr (refl, (not_due (own_of (H ++ reactivated x 2 ∷ [])) refl, refl, refl)));
    }

-- ---- two agents

pub records_of_two : (x : Given) (r : Reply) → OfTwo x r
records_of_two x r = record { of_one = refl; of_other = refl }
