-- V is released, and a release is settled: the record meets its row, and a book stays one.
use Rattle.std.proofs.Common.{◌≡◌, ℕ, ◌+◌, ◌≤◌, Bool, true, false, cond, ◌&&◌, List, [], ◌∷◌, ◌++◌, length, Option, Some, None, inl, inr, refl, ap, sym, ◌∙◌, subst, arith, length-append}
use Rattle.std.specs.Prelude.{is_none}
use Rattle.std.specs.Option.{option_map, option_map_or}
use Rattle.std.specs.Ordering.{nat_cmp}
use Rattle.std.specs.Str.{bytes_eq}
use Rattle.std.specs.Cmp.Lexicographic.{slice_cmp}
use Rattle.std.specs.BTreeMap.{BTreeMap, get, btree_map_len, Updates, is_at}
use Rattle.std.specs.Map.{lookup}
use Rattle.std.proofs.lemmas.List.Sums.{sum_by-cons}
use Rattle.std.proofs.lemmas.Bool.{and_parts, false≢true}
use Rattle.std.proofs.lemmas.Option.{none-some}
use lib.Dec.{eqb}
use Rattle.kl_states.specs.declared.op.Op.{Op}
use Rattle.kl_states.specs.declared.outcome.Outcome.{Outcome}
use Rattle.kl_states.specs.declared.outcome.Outcome.TheVariants.{Arrived, Missed, Withdrawn}
use Rattle.kl_appraise.specs.Terms.{TermsFields}
use Rattle.kl_notice.specs.declared.notice.FailWhy.{FailWhy}
use Rattle.kl_notice.specs.declared.notice.FailWhy.TheVariants.{Undelivered}
use Rattle.kl_history.specs.declared.record.Record.{Record}
use Rattle.kl_history.specs.declared.record.Record.TheVariants.{Release, Settled}
use Rattle.kl_history.specs.Records.{History, Past, Handing, belongs, own, is_install, is_begin, is_close, is_release, is_settling}
use Rattle.kl_history.specs.LookBacks.{Installed, installed}
use Rattle.kl_history.specs.States.{ended, is_current}
use Rattle.kl_history.specs.Legal.{is_add, is_remove, MaySettle, weight_of, HasRoom, Fits}
use Rattle.kl_history.specs.Releases.{MayRelease}
use Rattle.kl_history.specs.Notices.{Failure, has_failed, failure}
use Rattle.kl_history.proofs.OwnRecords.{own-yes}
use Rattle.kl_agents.specs.declared.entry.Entry.{Entry}
use Rattle.kl_agents.specs.declared.entry.Handed.{Handed}
use Rattle.kl_agents.specs.declared.entry.Opening.{Opening}
use Rattle.kl_core.specs.Inner.Keeping.{Says, IsEntry, HasEntry, IsBook}
use Rattle.kl_agents.specs.Failing.{failure_of}
use Rattle.kl_core.specs.Inner.Handing.{IsHanded}
use Rattle.kl_agents.specs.Settling.{settled_by, only_if, settle_why}
use Rattle.kl_agents.specs.Steps.{NotedIf, handed, reaches_boot, settled}
use Rattle.kl_agents.proofs.Texts.{eq_yes, same_or_not}
use Rattle.kl_core.proofs.OneMore.{counted, quiet_release, quiet_settled, numbers_quiet}
use Rattle.kl_core.proofs.Ours.{says_released, NowReached, says_settled, says_settled_late}
use Rattle.kl_core.proofs.Standing.{live_of}
use Rattle.kl_core.proofs.Keeping.{agents_at, entry_step, has_theirs, has_opening}
use Rattle.kl_core.proofs.Growing.{fits_more}
use Rattle.kl_core.proofs.Ending.{StaysPolled}
use Rattle.kl_core.proofs.Downfalls.{downfall_is, by_blame}
use Rattle.kl_history.proofs.Failing.{failure_current}

-- ---- V is released
pub book_released : (H : History) (past : Past) (agents agents' : BTreeMap (List ℕ) Entry) (openings : BTreeMap ℕ Opening) (drawn begun weighs capacity capacity' waiting waiting' n : ℕ)
    (a : List ℕ) (g p : ℕ) (e : Entry)
    → IsBook H past agents openings drawn begun weighs capacity waiting → IsEntry H past a e → MayRelease past n a g p
    → Updates (slice_cmp nat_cmp) agents agents' a (Some (handed n e)) → btree_map_len agents' ≡ btree_map_len agents
    → waiting' ≡ waiting + 1 → HasRoom past 2 → length H + (btree_map_len openings + waiting + 2) ≤ capacity'
    → IsBook (H ++ Release n a g p ∷ []) (Release n a g p ∷ past) agents' openings drawn begun weighs capacity' waiting'
book_released H past agents agents' openings drawn begun weighs capacity capacity' waiting waiting' n a g p e book entry rule up same_agents more room enough =
    let r = Release n a g p in
    let quiet = quiet_release past n a g p in
    let polls_same = counted is_begin (Release n a g p) past in
    let drawn_same = counted is_install (Release n a g p) past in
    let closes_same = counted is_close (Release n a g p) past in
    let adds = counted is_add (Release n a g p) past in
    let removes = counted is_remove (Release n a g p) past in
    let releases = counted is_release (Release n a g p) past in
    let settlings = counted is_settling (Release n a g p) past in
    let heavier = sum_by-cons weight_of (Release n a g p) past in
    let len = length-append H (Release n a g p ∷ []) in
    let bytes = book.fits.bytes in
    let fits : Fits (Release n a g p ∷ past) =
    fits_more past (Release n a g p) 0 0 1 0 (omega (arith, book.releases_counted)) (omega arith) (omega arith) (omega arith) (omega arith) (omega (arith, book.polls_counted)) (omega arith) (omega arith) (omega arith) (omega arith) in
    record {
      legal = (book.legal, rule, fits);
      fits = fits;
      as_long = omega (arith, book.as_long);
      numbers = numbers_quiet past r quiet book.numbers;
      agents_are = agents_at agents agents' a (Some (handed n e)) up (λ b o. HasEntry (H ++ r ∷ []) (r ∷ past) b o)
          (entry_step H past r a e (handed n e) quiet.calm refl refl refl (λ q started is agent. refl) entry
          (subst (λ (own_past : Past). Says own_past entry.with (handed n e)) (sym (own-yes r past a (eq_yes a a refl))) (says_released (own past a) n a g p entry.with e entry.says)))
          (λ b apart. has_theirs H past r b _ quiet.calm (λ q started is agent. refl) apart (book.agents_are b));
      polls_are = λ q. has_opening H past r q _ quiet.calm refl refl (book.polls_are q);
      drawn_is = omega (arith, book.drawn_is);
      begun_is = omega (arith, book.begun_is);
      agents_counted = omega (arith, book.agents_counted);
      polls_counted = omega (arith, book.polls_counted);
      releases_counted = omega (arith, book.releases_counted);
      weighs_is = omega (arith, book.weighs_is);
      room = omega (arith, book.room);
    }

-- ---- a release is settled
stays_as : (o : Outcome) (c hit : Bool) (e : Entry) → StaysPolled e (settled o c hit e)
stays_as Arrived c hit e = record { generation = refl; place = refl; latest = refl }
stays_as Missed true hit e = record { generation = refl; place = refl; latest = refl }
stays_as Missed false hit e = record { generation = refl; place = refl; latest = refl }
stays_as (Withdrawn w) c hit e = record { generation = refl; place = refl; latest = refl }

-- only a delivery that was missed fails a live agent
stands_still : (o : Outcome) (c hit : Bool) (e : Entry) → e.end ≡ None → settle_why o ≡ None → has_failed (settled o c hit e).end ≡ false
stands_still Arrived c hit e live none = ap has_failed live
stands_still (Withdrawn w) c hit e live none = ap has_failed live
stands_still Missed c hit e live none = absurd (none-some _ (sym none))

module _ (H : History) (past : Past) (n : ℕ) (o : Outcome) (now : Bool) (h : Handed) (open_one : IsHanded H past n h) (current : now ≡ is_current (own past h.agent) h.generation) where
  abbrev s : Record
  s = Settled n o now

  pub may_settle : MaySettle past n now
  may_settle = record {
    handing = record { agent = h.agent; generation = h.generation; poll = h.pass.poll };
    released = open_one.released;
    unsettled = open_one.unsettled;
    current = current;
  }

  belongs_is : (a : List ℕ) → belongs past a s ≡ bytes_eq a h.agent
  belongs_is a = ap (λ o. option_map_or (λ (x : Handing). bytes_eq a x.agent) o false) open_one.released

  its_own : own (s ∷ past) h.agent ≡ s ∷ own past h.agent
  its_own = own-yes s past h.agent (belongs_is h.agent ∙ eq_yes h.agent h.agent refl)

  -- where it is current, the agent is live
  live_now : (b : Bool) → now ≡ b → b ≡ true → ended (own past h.agent) ≡ None
  live_now b is yes' =
      is_none_of (ended (own past h.agent))
      (and_parts (option_map_or (λ (i : Installed). eqb i.generation h.generation) (installed (own past h.agent)) false) (is_none (ended (own past h.agent))) (sym current ∙ is ∙ yes')).1 where
        is_none_of : (x : Option Op) → is_none x ≡ true → x ≡ None
        is_none_of None it = refl
        is_none_of (Some op) it = cc

  -- what the agent's own records say from then on
  pub says_settled_now : (e : Entry) (t : TermsFields) → Says (own past h.agent) t e
      → NowReached (own past h.agent) n (reaches_boot n h e) e
      → Says (own (s ∷ past) h.agent) t (settled_by n h o now e)
  says_settled_now e t says reached = subst (λ (own_past : Past). Says own_past t (settled_by n h o now e)) (sym its_own) (by_now now refl) where
    by_now : (b : Bool) → now ≡ b → Says (Settled n o b ∷ own past h.agent) t (settled_by n h o b e)
    by_now true is = says_settled (own past h.agent) n o (reaches_boot n h e) t e reached says (live_now true is refl)
    by_now false is = says_settled_late (own past h.agent) n o (reaches_boot n h e) t e reached says

  -- what is kept of agents from then on
  pub entries_settled : (agents agents' : BTreeMap (List ℕ) Entry) (entry : Option Entry) → ((a : List ℕ) → HasEntry H past a (get (slice_cmp nat_cmp) agents a))
      → get (slice_cmp nat_cmp) agents h.agent ≡ entry → ((e : Entry) → entry ≡ Some e → NowReached (own past h.agent) n (reaches_boot n h e) e)
      → NotedIf agents agents' h.agent (option_map (settled_by n h o now) entry) → (a : List ℕ) → HasEntry (H ++ s ∷ []) (s ∷ past) a (get (slice_cmp nat_cmp) agents' a)
  entries_settled agents agents' (Some e) are kept reached noted =
      let quiet = quiet_settled past n o now in
      let was : IsEntry H past h.agent e = subst (λ x. HasEntry H past h.agent x) kept (are h.agent) in
      let stays = stays_as o now (reaches_boot n h e) e in
      agents_at agents agents' h.agent (Some (settled_by n h o now e)) noted (λ b x. HasEntry (H ++ s ∷ []) (s ∷ past) b x)
      (entry_step H past s h.agent e (settled_by n h o now e) quiet.calm stays.generation stays.place stays.latest (λ q started is agent. refl) was
      (says_settled_now e was.with was.says (reached e refl)))
      (λ b apart. has_theirs H past s b _ quiet.calm (λ q started is agent. refl) (belongs_is b ∙ apart) (are b))
  entries_settled agents agents' None are kept reached noted = λ a.
      let quiet = quiet_settled past n o now in
      let same : get (slice_cmp nat_cmp) agents' a ≡ get (slice_cmp nat_cmp) agents a = ap (λ (es : List (List ℕ × Entry)). lookup (is_at (slice_cmp nat_cmp a)) es) noted in
      subst (λ x. HasEntry (H ++ s ∷ []) (s ∷ past) a x) (sym same) (elim (same_or_not a h.agent) [
        | inl it ↦
            let none : get (slice_cmp nat_cmp) agents a ≡ None = ap (get (slice_cmp nat_cmp) agents) it.1 ∙ kept in
            subst (λ x. HasEntry (H ++ s ∷ []) (s ∷ past) a x) (sym none)
            (ap installed (own-yes s past a (belongs_is a ∙ it.0)) ∙ subst (λ x. HasEntry H past a x) none (are a))
        | inr other ↦ has_theirs H past s a _ quiet.calm (λ q started is agent. refl) (belongs_is a ∙ other.0) (are a)
      ])

  -- the failure that it brings is that of what is kept of the agent from then on
  pub settle_fails : (entry : Option Entry) → HasEntry H past h.agent entry → ((e : Entry) → entry ≡ Some e → NowReached (own past h.agent) n (reaches_boot n h e) e)
      → failure past s ≡ failure_of h.agent (only_if now (option_map (settled_by n h o now) entry)) (settle_why o)
  settle_fails entry has reached = by_now now refl entry has reached where
    stale : now ≡ false → failure past s ≡ None
    stale is = by_failure (failure past s) refl where
      by_failure : (x : Option Failure) → failure past s ≡ x → x ≡ None
      by_failure None it = refl
      by_failure (Some f) it =
          absurd (false≢true (failure_current past (Settled n o false) f (ap (λ b. failure past (Settled n o b)) (sym is) ∙ it)))

    by_why : (e : Entry) → e.end ≡ None → (w : Option FailWhy) → settle_why o ≡ w → failure_of h.agent (Some (settled_by n h o now e)) (Some Undelivered) ≡ failure_of h.agent (Some (settled_by n h o now e)) w
    by_why e live None none = ap (λ b. cond b (Some (record { agent = h.agent; generation = (settled_by n h o now e).generation; why = Undelivered })) None) (stands_still o now (reaches_boot n h e) e live none)
    by_why e live (Some w) some = ap (λ x. failure_of h.agent (Some (settled_by n h o now e)) x) (undelivered o w some) where
      undelivered : (o : Outcome) (w : FailWhy) → settle_why o ≡ Some w → Some Undelivered ≡ Some w
      undelivered Missed w is = is
      undelivered Arrived w is = absurd (none-some w is)
      undelivered (Withdrawn x) w is = absurd (none-some w is)

    by_now : (b : Bool) → now ≡ b → (entry : Option Entry) → HasEntry H past h.agent entry → ((e : Entry) → entry ≡ Some e → NowReached (own past h.agent) n (reaches_boot n h e) e)
        → failure past s ≡ failure_of h.agent (only_if now (option_map (settled_by n h o now) entry)) (settle_why o)
    by_now false is entry has reached = stale is ∙ ap (λ b. failure_of h.agent (only_if b (option_map (settled_by n h o now) entry)) (settle_why o)) (sym is)
    by_now true is None has reached =
        absurd (false≢true (ap (λ x. option_map_or (λ (i : Installed). eqb i.generation h.generation) x false && is_none (ended (own past h.agent))) (sym has) ∙ sym current ∙ is))
    by_now true is (Some e) has reached =
        let live = sym has.says.end_is ∙ live_now true is refl in
        by_blame past s h.agent Undelivered _ (ap (option_map (λ (x : Handing). (x.agent, Undelivered))) open_one.released)
        ∙ downfall_is h.agent Undelivered (own past h.agent) _ has.with (settled_by n h o now e) (live_of H past h.agent e has live) (says_settled_now e has.with has.says (reached e refl))
        ∙ by_why e live (settle_why o) refl
        ∙ ap (λ b. failure_of h.agent (only_if b (Some (settled_by n h o now e))) (settle_why o)) (sym is)

  pub book_settled : (agents agents' : BTreeMap (List ℕ) Entry) (openings : BTreeMap ℕ Opening) (drawn begun weighs capacity waiting waiting' : ℕ) (entry : Option Entry)
      → IsBook H past agents openings drawn begun weighs capacity waiting → get (slice_cmp nat_cmp) agents h.agent ≡ entry
      → ((e : Entry) → entry ≡ Some e → NowReached (own past h.agent) n (reaches_boot n h e) e)
      → NotedIf agents agents' h.agent (option_map (settled_by n h o now) entry) → btree_map_len agents' ≡ btree_map_len agents → waiting' + 1 ≡ waiting
      → IsBook (H ++ s ∷ []) (s ∷ past) agents' openings drawn begun weighs capacity waiting'
  book_settled agents agents' openings drawn begun weighs capacity waiting waiting' entry book kept reached noted counts less =
      let quiet = quiet_settled past n o now in
      let polls_same = counted is_begin (Settled n o now) past in
      let drawn_same = counted is_install (Settled n o now) past in
      let closes_same = counted is_close (Settled n o now) past in
      let adds = counted is_add (Settled n o now) past in
      let removes = counted is_remove (Settled n o now) past in
      let releases = counted is_release (Settled n o now) past in
      let settlings = counted is_settling (Settled n o now) past in
      let heavier = sum_by-cons weight_of (Settled n o now) past in
      let len = length-append H (Settled n o now ∷ []) in
      let bytes = book.fits.bytes in
      let old_room = book.fits.room in
      let fits : Fits (Settled n o now ∷ past) =
      fits_more past (Settled n o now) 0 0 0 1 (omega (arith, book.releases_counted)) (omega arith) (omega arith) (omega arith) (omega arith) (omega (arith, book.polls_counted)) (omega arith) (omega arith) (omega arith) (omega (arith, book.releases_counted, less)) in
      record {
        legal = (book.legal, may_settle, fits);
        fits = fits;
        as_long = omega (arith, book.as_long);
        numbers = numbers_quiet past s quiet book.numbers;
        agents_are = entries_settled agents agents' entry book.agents_are kept reached noted;
        polls_are = λ p. has_opening H past s p _ quiet.calm refl refl (book.polls_are p);
        drawn_is = omega (arith, book.drawn_is);
        begun_is = omega (arith, book.begun_is);
        agents_counted = omega (arith, book.agents_counted, counts);
        polls_counted = omega (arith, book.polls_counted);
        releases_counted = omega (arith, book.releases_counted, less);
        weighs_is = omega (arith, book.weighs_is);
        room = omega (arith, book.room, less);
      }
