-- The agent that is due first of those that are kept is the one that the records say.
use Rattle.std.proofs.Common.{◌≡◌, ℕ, ◌+◌, ◌*◌, ◌^◌, ◌<◌, ◌≤◌, min, true, false, ◌&&◌, List, Option, Some, None, inl, inr, refl, ap, sym, ◌∙◌, subst, arith}
use Rattle.std.specs.Prelude.{leb, is_none}
use Rattle.std.specs.List.Sorted.{IsStrictlySortedBy}
use Rattle.std.specs.Map.{keys_of}
use Rattle.std.specs.Ordering.{nat_cmp}
use Rattle.std.specs.Cmp.Lexicographic.{slice_cmp}
use Rattle.std.specs.Option.{option_map, option_map_or}
use Rattle.std.specs.BTreeMap.{BTreeMap, get}
use Rattle.std.proofs.lemmas.Bool.{leb-true, le-leb, and_parts, both_ways, false≢true}
use Rattle.std.proofs.lemmas.Option.{same_Some, none-some}
use Rattle.kl_states.specs.declared.op.Op.{Op}
use Rattle.kl_history.specs.Records.{History, Past, own, is_open}
use Rattle.kl_history.specs.LookBacks.{Installed, losses}
use Rattle.kl_history.specs.Legal.{IsBusy}
use Rattle.kl_appraise.specs.Terms.{TermsFields}
use Rattle.kl_agents.specs.declared.entry.Entry.{Entry}
use Rattle.kl_agents.specs.declared.entry.Begun.{Begun}
use Rattle.kl_agents.specs.declared.entry.Opening.{Opening}
use Rattle.kl_agents.specs.declared.picking.Due.{Due}
use Rattle.kl_core.specs.Begins.{MayPoll}
use Rattle.kl_core.specs.Picks.{due_at, IsWaiting, IsPicked, PickAnswers}
use Rattle.kl_core.specs.Inner.Keeping.{Says, IsEntry, HasEntry, HasOpening}
use Rattle.kl_agents.specs.Steps.{latest_poll}
use Rattle.kl_agents.specs.Picking.{due_of, is_free, waits, first_due}
use Rattle.kl_agents.proofs.FirstDue.{by_test, IsFirst, first_is, none_waits}
use Rattle.kl_core.proofs.Standing.{polled_now, idle_now, may_poll, entry_at}

due_same : (past : Past) (t : TermsFields) (e : Entry) → Says past t e → due_of e ≡ due_at past
due_same past t e says =
    let few : min e.losses 5 ≡ losses past = omega (arith, says.few_losses, says.losses_are) in
    by_latest e.latest few ∙ ap (λ (o : Option ℕ). option_map_or (λ at. min (at + 2000 * 2 ^ losses past) 18446744073709551615) o 0) (sym says.begun) where
      by_latest : (o : Option Begun) → min e.losses 5 ≡ losses past → option_map_or (λ (b : Begun). min (b.at + 2000 * 2 ^ min e.losses 5) 18446744073709551615) o 0
          ≡ option_map_or (λ at. min (at + 2000 * 2 ^ losses past) 18446744073709551615) (option_map (λ (b : Begun). b.at) o) 0
      by_latest None few = refl
      by_latest (Some b) few = ap (λ n. min (b.at + 2000 * 2 ^ n) 18446744073709551615) few

module _ (H : History) (past : Past) (openings : BTreeMap ℕ Opening) (now : ℕ) (polls_are : (p : ℕ) → HasOpening H past p (get nat_cmp openings p)) where
  not_open : (p : ℕ) (o : Option Opening) → HasOpening H past p o → is_none o ≡ true → is_open past p ≡ false
  not_open p None has none = has
  not_open p (Some k) has none = absurd (false≢true none)

  still_open : (p : ℕ) (o : Option Opening) → HasOpening H past p o → is_none o ≡ false → is_open past p ≡ true
  still_open p None has some = absurd (false≢true (sym some))
  still_open p (Some k) has some = has.unclosed

  free_closed : (e : Entry) → is_free openings e ≡ true → (p : ℕ) → latest_poll e ≡ Some p → is_open past p ≡ false
  free_closed e free p latest = by_latest e.latest free latest where
    by_latest : (o : Option Begun) → option_map_or (λ (b : Begun). is_none (get nat_cmp openings b.poll)) o true ≡ true → option_map (λ (b : Begun). b.poll) o ≡ Some p → is_open past p ≡ false
    by_latest None free latest = absurd (none-some p latest)
    by_latest (Some b) free latest = subst (λ (q : ℕ). is_open past q ≡ false) (same_Some b.poll p latest) (not_open b.poll (get nat_cmp openings b.poll) (polls_are b.poll) free)

  idle_free : (a : List ℕ) (e : Entry) → IsEntry H past a e → e.end ≡ None → MayPoll past a → is_free openings e ≡ true
  idle_free a e entry live may = by_latest e.latest refl where
    by_latest : (o : Option Begun) → e.latest ≡ o → option_map_or (λ (b : Begun). is_none (get nat_cmp openings b.poll)) o true ≡ true
    by_latest None is = refl
    by_latest (Some b) is =
        by_test (is_none (get nat_cmp openings b.poll)) (is_none (get nat_cmp openings b.poll) ≡ true) (λ none. none)
        (λ some.
        let polled = polled_now H past a e b.poll entry live (ap (option_map (λ (c : Begun). c.poll)) is) (still_open b.poll (get nat_cmp openings b.poll) (polls_are b.poll) some) in
        let generation = ap (λ (i : Installed). i.generation) (same_Some polled.0 _ (sym polled.1 ∙ may.2.with)) in
        absurd (may.2.idle b.poll (subst (λ (g : ℕ). IsBusy past a g b.poll) generation polled.3)))

  none_end : (o : Option Op) → is_none o ≡ true → o ≡ None
  none_end None is = refl
  none_end (Some op) is = absurd (false≢true is)

  pub waiting_now : (a : List ℕ) (e : Entry) → IsEntry H past a e → waits openings now e ≡ true → IsWaiting past now a
  waiting_now a e entry waiting =
      let parts = and_parts (is_none e.end) (leb (due_of e) now && is_free openings e) waiting in
      let rest = and_parts (leb (due_of e) now) (is_free openings e) parts.1 in
      let live = none_end e.end parts.0 in (
        may_poll H past a e entry live (idle_now H past a e entry (free_closed e rest.1)),
        subst (λ n. n ≤ now) (due_same (own past a) entry.with e entry.says) (leb-true (due_of e) now rest.0),
      )

  pub waits_now : (a : List ℕ) (e : Entry) → IsEntry H past a e → IsWaiting past now a → waits openings now e ≡ true
  waits_now a e entry (may, due) =
      let live : e.end ≡ None = sym entry.says.end_is ∙ may.2.live in
      let on_time : leb (due_of e) now ≡ true = le-leb (due_of e) now (subst (λ n. n ≤ now) (sym (due_same (own past a) entry.with e entry.says)) due) in
      ap (λ o. is_none o && (leb (due_of e) now && is_free openings e)) live ∙ ap (λ b. b && is_free openings e) on_time ∙ idle_free a e entry live may

  module _ (agents : BTreeMap (List ℕ) Entry) (agents_are : (a : List ℕ) → HasEntry H past a (get (slice_cmp nat_cmp) agents a)) where
    -- what is kept of an agent that waits
    kept_of : (a : List ℕ) → IsWaiting past now a → (e : Entry) × (get (slice_cmp nat_cmp) agents a ≡ Some e) × IsEntry H past a e
    kept_of a (may, due) = by_kept (get (slice_cmp nat_cmp) agents a) refl (agents_are a) where
      by_kept : (o : Option Entry) → get (slice_cmp nat_cmp) agents a ≡ o → HasEntry H past a o → (e : Entry) × (get (slice_cmp nat_cmp) agents a ≡ Some e) × IsEntry H past a e
      by_kept None is none = absurd (none-some _ (sym none ∙ may.2.with))
      by_kept (Some e) is has = (e, is, has)

    picked : (d : Due) → IsFirst openings now agents.entries d → IsPicked past now d.agent
    picked d first =
        let entry = entry_at H past d.agent (get (slice_cmp nat_cmp) agents d.agent) first.entry (agents_are d.agent) first.at in
        let due = due_same (own past d.agent) entry.with first.entry entry.says in
        record {
          waiting = waiting_now d.agent first.entry entry first.waiting;
          ahead = λ b waiting.
              let other = kept_of b waiting in
              let due_other = due_same (own past b) other.2.with other.0 other.2.says in
              elim (first.ahead b other.0 other.1 (waits_now b other.0 other.2 waiting)) [
                | inl less ↦ inl (subst (λ n. n < due_at (own past b)) (first.since ∙ due) (subst (λ n. d.since < n) due_other less))
                | inr (eq, le) ↦ inr (sym due ∙ sym first.since ∙ eq ∙ due_other, le)
              ];
        }

    pub pick_answers : IsStrictlySortedBy (slice_cmp nat_cmp) (keys_of agents.entries)
        → PickAnswers now (option_map (λ (d : Due). d.agent) (first_due openings now agents.entries)) past
    pick_answers sorted = by_first (first_due openings now agents.entries) refl where
      by_first : (o : Option Due) → first_due openings now agents.entries ≡ o → PickAnswers now (option_map (λ (d : Due). d.agent) o) past
      by_first None is = λ a waiting.
          let kept = kept_of a waiting in
          both_ways (waits openings now kept.0) (none_waits openings now agents.entries is a kept.0 kept.1) (waits_now a kept.0 kept.2 waiting)
      by_first (Some d) is = picked d (first_is openings now agents.entries sorted d is)
