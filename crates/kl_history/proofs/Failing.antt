-- Which records are failures, and that the notices tell each of them once, in order.
use Rattle.std.proofs.Common.{◌≡◌, ℕ, zero, suc, ◌+◌, ◌≤◌, Bool, true, false, cond, ◌&&◌, ◌||◌, eqb, List, [], ◌∷◌, ◌++◌, length, map, filter_map, Option, Some, None, is_some, option_map, option_and_then, inl, inr, refl, ap, sym, ◌∙◌, subst, arith, take_all, add-one, append-nil}
use Rattle.std.specs.Prelude.{is_none, option_to_list}
use Rattle.std.specs.List.{range_with_len, cons_option}
use Rattle.std.proofs.lemmas.Bool.{false≢true, and_parts, and_from, cases_Bool, cond-true}
use Rattle.std.proofs.lemmas.List.{map-append, length-append, length-map}
use Rattle.std.proofs.lemmas.List.Elements.{filter_map-append}
use Rattle.std.proofs.lemmas.Option.{same_Some, none-some}
use Rattle.kl_states.specs.declared.op.Op.{Op}
use Rattle.kl_states.specs.declared.op.Op.TheVariants as op
use Rattle.kl_states.specs.declared.outcome.Outcome.TheVariants as outcome
use Rattle.kl_notice.specs.declared.notice.Notice.{Notice}
use Rattle.kl_notice.specs.declared.notice.FailWhy.{FailWhy}
use Rattle.kl_notice.specs.declared.notice.FailWhy.TheVariants as failed_by
use Rattle.kl_history.specs.declared.record.Record.{Record}
use Rattle.kl_history.specs.declared.record.Record.TheVariants.{Install, Verdict, Restart, Lost, Settled, Stop}
use Rattle.kl_history.specs.Records.{History, Past, past_of, Beginning, Handing, is_release_of, belongs, own}
use Rattle.kl_history.specs.LookBacks.{Installed, installed, came, losses, missed}
use Rattle.kl_history.specs.States.{ended, is_stop, is_invalid, is_failed, is_live}
use Rattle.kl_history.specs.Notices.{Failure, agent_and_reason, has_failed, downfall, failure, told_by, with_failure, notices_of, notices}
use Rattle.kl_history.specs.Laws.{before, counts_for_nothing, failure_at, BringsDown, is_current_end, TellFailures}
use Rattle.kl_history.proofs.Places.{some_within, before_next}
use Rattle.kl_history.proofs.OwnRecords.{poll_begun, release_made, own-yes, own-no}
use Rattle.kl_history.proofs.Standing.{count_for_nothing}

-- ---- live agents

live_none : (own : Past) → is_live own ≡ true → ended own ≡ None
live_none own is = by_case (ended own) refl (and_parts (is_some (installed own)) (is_none (ended own)) is).1 where
  by_case : (o : Option Op) → ended own ≡ o → is_none o ≡ true → ended own ≡ None
  by_case None same none = same
  by_case (Some x) same none = absurd (false≢true none)

live_installed : (own : Past) → is_live own ≡ true → (i : Installed) × (installed own ≡ Some i)
live_installed own is = by_case (installed own) refl (and_parts (is_some (installed own)) (is_none (ended own)) is).0 where
  by_case : (o : Option Installed) → installed own ≡ o → is_some o ≡ true → (i : Installed) × (installed own ≡ Some i)
  by_case None same some = absurd (false≢true some)
  by_case (Some i) same some = (i, same)

-- what ends nothing brings no agent down
not_down : (past : Past) (r : Record) (a : List ℕ) → ended (own (r ∷ past) a) ≡ ended (own past a) → ¬ (BringsDown past r a)
not_down past r a same = λ down. false≢true (ap has_failed (sym (same ∙ live_none (own past a) down.was_live)) ∙ down.has_failed_now)

-- ---- a failure brings its agent down

failed_parts : (a : List ℕ) (why : FailWhy) (old new : Past) (f : Failure) → downfall a why old new ≡ Some f → (is_live old ≡ true) × (has_failed (ended new) ≡ true) × (f.agent ≡ a)
failed_parts a why old new f is = by_case (is_live old && has_failed (ended new)) refl is where
  by_installed : (o : Option Installed) → option_map (λ (i : Installed). record { agent = a; generation = i.generation; why = why }) o ≡ Some f → f.agent ≡ a
  by_installed None same = absurd (none-some f same)
  by_installed (Some i) same = ap (λ (x : Failure). x.agent) (sym (same_Some _ f same))

  by_case : (t : Bool) → (is_live old && has_failed (ended new)) ≡ t → cond t (option_map (λ (i : Installed). record { agent = a; generation = i.generation; why = why }) (installed new)) None ≡ Some f
      → (is_live old ≡ true) × (has_failed (ended new) ≡ true) × (f.agent ≡ a)
  by_case true both same = let parts = and_parts (is_live old) (has_failed (ended new)) both in (parts.0, parts.1, by_installed (installed new) same)
  by_case false both same = absurd (none-some f same)

failure_down : (past : Past) (r : Record) (f : Failure) → failure past r ≡ Some f → BringsDown past r f.agent
failure_down past r f is = by_case (agent_and_reason past r) is where
  by_case : (o : Option (List ℕ × FailWhy)) → elim o [ None ↦ None | Some b ↦ downfall b.0 b.1 (own past b.0) (own (r ∷ past) b.0) ] ≡ Some f → BringsDown past r f.agent
  by_case None same = absurd (none-some f same)
  by_case (Some b) same =
      let parts = failed_parts b.0 b.1 (own past b.0) (own (r ∷ past) b.0) f same in
      subst (BringsDown past r) (sym parts.2) (record { was_live = parts.0; has_failed_now = parts.1 })

-- and its record is current
stale_down : (past : Past) (r : Record) (a : List ℕ) → counts_for_nothing r ≡ true → ¬ (BringsDown past r a)
stale_down past r a is = not_down past r a ((count_for_nothing past a).stale r is).kept.over

arrival_down : (past : Past) (n : ℕ) (a : List ℕ) → ¬ (BringsDown past (Settled n outcome.Arrived false) a)
arrival_down past n a = elim (cases_Bool (is_release_of past a n)) [
  | inl is ↦ not_down past (Settled n outcome.Arrived false) a ((count_for_nothing past a).arrived n is).kept.over
  | inr other ↦ not_down past (Settled n outcome.Arrived false) a ((count_for_nothing past a).of_others (Settled n outcome.Arrived false) other).kept.over
]

pub failure_current : (past : Past) (r : Record) (f : Failure) → failure past r ≡ Some f → is_current_end r ≡ true
failure_current past (Verdict p e s v true) f is = refl
failure_current past (Lost p w true) f is = refl
failure_current past (Settled n o true) f is = refl
failure_current past (Verdict p e s v false) f is = absurd (stale_down past (Verdict p e s v false) f.agent refl (failure_down past (Verdict p e s v false) f is))
failure_current past (Lost p w false) f is = absurd (stale_down past (Lost p w false) f.agent refl (failure_down past (Lost p w false) f is))
failure_current past (Settled n outcome.Arrived false) f is = absurd (arrival_down past n f.agent (failure_down past (Settled n outcome.Arrived false) f is))
failure_current past (Settled n outcome.Missed false) f is = absurd (stale_down past (Settled n outcome.Missed false) f.agent refl (failure_down past (Settled n outcome.Missed false) f is))
failure_current past (Settled n (outcome.Withdrawn w) false) f is = absurd (stale_down past (Settled n (outcome.Withdrawn w) false) f.agent refl (failure_down past (Settled n (outcome.Withdrawn w) false) f is))
failure_current past _ f is = absurd (none-some f is)

-- ---- what brings an agent down is a failure

-- nothing ended, so nothing that ends an agent came
none_ended : (x y u v w : Bool) → cond x (Some op.TenantFailed) (cond y (Some op.InvalidQuote) (cond (u || (v || w)) (Some op.Failed) None)) ≡ None
    → has_failed (cond x (Some op.TenantFailed) (cond y (Some op.InvalidQuote) (cond (u || (false || w)) (Some op.Failed) None))) ≡ false
none_ended true y u v w is = refl
none_ended false true u v w is = absurd (none-some op.InvalidQuote (sym is))
none_ended false false true v w is = absurd (none-some op.Failed (sym is))
none_ended false false false true w is = absurd (none-some op.Failed (sym is))
none_ended false false false false true is = absurd (none-some op.Failed (sym is))
none_ended false false false false false is = refl

-- the reason that a record which brings an agent down gives
down_why : (r : Record) (past : Past) (a : List ℕ) → belongs past a r ≡ true → ended (own past a) ≡ None → has_failed (ended (r ∷ own past a)) ≡ true
    → (w : FailWhy) × (agent_and_reason past r ≡ Some (a, w)) × (installed (r ∷ own past a) ≡ installed (own past a))
down_why (Install b g t w) past a is none failed = absurd (false≢true failed)
down_why (Verdict p e s v c) past a is none failed =
    let begun = poll_begun past a p is in
    (failed_by.Verdict v, ap (option_map (λ (b : Beginning). (b.agent, failed_by.Verdict v))) begun.1 ∙ ap (λ x. Some (x, failed_by.Verdict v)) begun.2, refl)
down_why (Lost p w c) past a is none failed =
    let begun = poll_begun past a p is in
    (failed_by.Losses, ap (option_map (λ (b : Beginning). (b.agent, failed_by.Losses))) begun.1 ∙ ap (λ x. Some (x, failed_by.Losses)) begun.2, refl)
down_why (Settled n o c) past a is none failed =
    let made = release_made past a n is in
    (failed_by.Undelivered, ap (option_map (λ (h : Handing). (h.agent, failed_by.Undelivered))) made.1 ∙ ap (λ x. Some (x, failed_by.Undelivered)) made.2, refl)
down_why (Restart p e s true) past a is none failed =
    let o = own past a in
    absurd (false≢true (sym (none_ended (came is_stop o) (came is_invalid o) (came is_failed o) (eqb (losses o) 5) (eqb (missed o) 5) none) ∙ failed))
down_why (Stop b) past a is none failed = absurd (false≢true failed)
down_why _ past a is none failed = absurd (false≢true (ap has_failed (sym none) ∙ failed))

failed_from : (a : List ℕ) (why : FailWhy) (old new : Past) (i : Installed) → is_live old ≡ true → has_failed (ended new) ≡ true → installed new ≡ Some i → downfall a why old new ≡ Some (record { agent = a; generation = i.generation; why = why })
failed_from a why old new i live failed inst =
    cond-true (is_live old && has_failed (ended new)) _ None (and_from (is_live old) (has_failed (ended new)) live failed)
    ∙ ap (option_map (λ (x : Installed). record { agent = a; generation = x.generation; why = why })) inst

down_failure : (past : Past) (r : Record) (a : List ℕ) → BringsDown past r a → (f : Failure) × (failure past r ≡ Some f) × (f.agent ≡ a)
down_failure past r a down = elim (cases_Bool (belongs past a r)) [
  | inl is ↦
      let whole = own-yes r past a is in
      let why = down_why r past a is (live_none (own past a) down.was_live) (sym (ap (λ o. has_failed (ended o)) whole) ∙ down.has_failed_now) in
      let inst = live_installed (own past a) down.was_live in
      let now : installed (own (r ∷ past) a) ≡ Some inst.0 = ap installed whole ∙ why.2 ∙ inst.1 in (
        record { agent = a; generation = inst.0.generation; why = why.0 },
        by_why why.0 why.1 ∙ failed_from a why.0 (own past a) (own (r ∷ past) a) inst.0 down.was_live down.has_failed_now now,
        refl,
      )
  | inr other ↦ absurd (not_down past r a (ap ended (own-no r past a other)) down)
]
  where
    by_why : (w : FailWhy) → agent_and_reason past r ≡ Some (a, w) → failure past r ≡ downfall a w (own past a) (own (r ∷ past) a)
    by_why w same = ap (λ (o : Option (List ℕ × FailWhy)). elim o [ None ↦ None | Some b ↦ downfall b.0 b.1 (own past b.0) (own (r ∷ past) b.0) ]) same

-- ---- the notices

-- the failures of a past, the oldest first
failures_of : Past → List Failure
failures_of [] = []
failures_of (r ∷ past) = failures_of past ++ option_to_list (failure past r)

told : (past : Past) → map told_by (notices_of past) ≡ failures_of past
unfolding failures_of
told [] = refl
told (r ∷ past) = by_case (failure past r) (told past) where
  by_case : (o : Option Failure) → map told_by (notices_of past) ≡ failures_of past
      → map told_by (with_failure (notices_of past) o) ≡ failures_of past ++ option_to_list o
  by_case None before = before ∙ sym (append-nil (failures_of past))
  by_case (Some f) before = map-append told_by (notices_of past) _ ∙ ap (λ l. l ++ f ∷ []) before

range_more : (a n : ℕ) → range_with_len a (suc n) ≡ range_with_len a n ++ (a + n) ∷ []
range_more a zero = ap (λ k. k ∷ []) (omega arith)
range_more a (suc n) =
    ap (λ l. a ∷ l) (range_more (a + 1) n ∙ ap (λ k. range_with_len (a + 1) n ++ k ∷ []) (let e : (a + 1) + n ≡ a + suc n = omega arith in e))

counted : (past : Past) → map (λ (n : Notice). n.number) (notices_of past) ≡ range_with_len 1 (length (notices_of past))
counted [] = refl
counted (r ∷ past) = by_case (failure past r) (counted past) where
  by_case : (o : Option Failure) → map (λ (n : Notice). n.number) (notices_of past) ≡ range_with_len 1 (length (notices_of past))
      → map (λ (n : Notice). n.number) (with_failure (notices_of past) o) ≡ range_with_len 1 (length (with_failure (notices_of past) o))
  by_case None before = before
  by_case (Some f) before =
      let len = length (notices_of past) in
      let more : length (with_failure (notices_of past) (Some f)) ≡ suc len = length-append (notices_of past) _ ∙ add-one len in
      map-append (λ (n : Notice). n.number) (notices_of past) _ ∙ ap (λ l. l ++ (len + 1) ∷ []) before
      ∙ ap (λ k. range_with_len 1 len ++ k ∷ []) (let e : len + 1 ≡ 1 + len = omega arith in e) ∙ sym (range_more 1 len) ∙ ap (range_with_len 1) (sym more)

by_places : (H : History) (n : ℕ) → n ≤ length H → failures_of (before H n) ≡ filter_map (failure_at H) (range_with_len 0 n)
unfolding failures_of
by_places H zero within = refl
by_places H (suc n) within =
    let at = some_within H n within in
    let here : failure_at H n ≡ failure (before H n) at.0 = ap (option_and_then (failure (before H n))) at.1 in
    ap failures_of (before_next H n at.0 at.1) ∙ ap (λ l. l ++ option_to_list (failure (before H n) at.0)) (by_places H n (omega (arith, within)))
    ∙ ap (λ o. filter_map (failure_at H) (range_with_len 0 n) ++ option_to_list o) (sym here)
    ∙ ap (λ l. filter_map (failure_at H) (range_with_len 0 n) ++ l) (lone (failure_at H n))
    ∙ sym (filter_map-append (failure_at H) (range_with_len 0 n) (n ∷ []))
    ∙ ap (filter_map (failure_at H)) (ap (λ k. range_with_len 0 n ++ k ∷ []) (let e : n ≡ 0 + n = omega arith in e) ∙ sym (range_more 0 n))
  where
    lone : (o : Option Failure) → option_to_list o ≡ cons_option o []
    lone None = refl
    lone (Some f) = refl

pub tell_failures : (H : History) → TellFailures H
tell_failures H =
    let each = told (past_of H) ∙ ap (λ l. failures_of (past_of l)) (sym (take_all (length H) H (omega arith))) ∙ by_places H (length H) (omega arith) in
    record {
      each = each;
      numbered = counted (past_of H) ∙ ap (range_with_len 1) (sym (length-map (notices H) told_by) ∙ ap length each);
      brings = λ i r f _ is. (failure_down (before H i) r f is, failure_current (before H i) r f is);
      brought = λ i r a _ down. down_failure (before H i) r a down;
    }
