-- What V is released with, and the share that is given: it is the one that its own Release gave.
use Rattle.std.proofs.Common.{◌≡◌, ℕ, ◌+◌, Bool, true, false, cond, ◌||◌, List, Option, Some, None, inl, inr, refl, ap, sym, ◌∙◌, subst}
use Rattle.std.specs.Prelude.{is_some, IsSome, option_and_then}
use Rattle.std.specs.Option.{option_map}
use Rattle.std.specs.BTreeMap.{BTreeMap}
use Rattle.std.proofs.lemmas.Bool.{cond-true, eq-eqb, both_ways, false≢true}
use Rattle.std.proofs.lemmas.Option.{same_Some, none-some}
use lib.Dec.{eqb}
use Rattle.kl_states.specs.declared.op.Op.{Op}
use Rattle.kl_states.specs.declared.op.Op.TheVariants.{ProvideV, ProvideVRetry, Failed, InvalidQuote, TenantFailed}
use Rattle.kl_states.specs.Ops.{is_owed}
use Rattle.kl_appraise.specs.Terms.{TermsFields}
use Rattle.kl_history.specs.Records.{History, Past, releases_made, is_unsettled, own}
use Rattle.kl_history.specs.LookBacks.{Installed, Passing, came, losses, missed}
use Rattle.kl_history.specs.States.{is_stop, is_invalid, is_failed, handed_for, PassedUnder, IsDue, IsLiveOp, IsOp, HasOp}
use Rattle.kl_history.specs.Legal.{HasRoom}
use Rattle.kl_history.specs.Releases.{MayRelease}
use Rattle.kl_agents.specs.declared.entry.Entry.{Entry}
use Rattle.kl_agents.specs.declared.entry.Handed.{Handed}
use Rattle.kl_agents.specs.declared.entry.Passed.{Passed}
use Rattle.kl_agents.specs.declared.reached.Target.{Target}
use Rattle.kl_core.specs.Shares.{IsAwaited, IsOwed, MayHand, Gives}
use Rattle.kl_core.specs.Inner.Keeping.{terms_at, IsEntry}
use Rattle.kl_core.specs.Inner.Handing.{evidence_at, v_of, contact_of, public_of, IsPlaced, IsHanded, HasHanded, IsReady, Reaches}
use Rattle.kl_agents.specs.Steps.{op_of}
use Rattle.kl_core.proofs.Standing.{op_stands}
use Rattle.kl_core.proofs.Delivered.{passed_last}

-- what is kept of a release
pub handed_at : (H : History) (past : Past) (n : ℕ) (o : Option Handed) (h : Handed) → HasHanded H past n o → o ≡ Some h → IsHanded H past n h
handed_at H past n o h has is = subst (λ (o : Option Handed). HasHanded H past n o) is has

-- ---- whether V may be released
-- an agent that is kept is installed, in the state that is kept of it
pub is_in : (H : History) (past : Past) (a : List ℕ) (e : Entry) → IsEntry H past a e → HasOp (own past a) (Some (op_of e))
is_in H past a e entry = (ap is_some entry.says.terms_are, op_stands (own past a) entry.with e entry.says)

pub is_owed_to : (H : History) (past : Past) (a : List ℕ) (e : Entry) → IsEntry H past a e → is_owed (op_of e) ≡ true → IsOwed past a
is_owed_to H past a e entry owed = (op_of e, is_in H past a e entry, owed)

pub is_awaited : (H : History) (past : Past) (marks : BTreeMap Target Bool) (drawn : ℕ) (a : List ℕ) (e : Entry) (n : ℕ) → Reaches H past marks drawn a e → e.handed ≡ Some n
    → is_unsettled past n ≡ true → IsAwaited past a n
is_awaited H past marks drawn a e n reaches is unsettled = let last = reaches.handed n is in (last.0, last.1, unsettled)

pub may_hand : (H : History) (past : Past) (marks : BTreeMap Target Bool) (drawn : ℕ) (a : List ℕ) (e : Entry) → Reaches H past marks drawn a e → IsOwed past a
    → ((n : ℕ) → e.handed ≡ Some n → is_unsettled past n ≡ false) → MayHand past a
may_hand H past marks drawn a e reaches owed settled = (owed, λ n awaited. both_ways (is_unsettled past n) (settled n (reaches.awaited n awaited)) awaited.2)

-- V is owed where it is due alone
not_owed : (stop invalid failed : Bool) (op : Op) → cond stop (Some TenantFailed) (cond invalid (Some InvalidQuote) (cond failed (Some Failed) None)) ≡ Some op → is_owed op ≡ false
not_owed true invalid failed op is = ap is_owed (sym (same_Some _ op is))
not_owed false true failed op is = ap is_owed (sym (same_Some _ op is))
not_owed false false true op is = ap is_owed (sym (same_Some _ op is))
not_owed false false false op is = absurd (none-some op is)

due_live : (own_past : Past) (op : Op) → IsLiveOp own_past op → is_owed op ≡ true → IsDue own_past
due_live own_past ProvideV live owed = live.0
due_live own_past ProvideVRetry live owed = live.0
due_live own_past _ live owed = absurd (false≢true owed)

owed_due : (own_past : Past) (op : Op) → IsOp own_past op → is_owed op ≡ true → IsDue own_past
owed_due own_past op (inl over) owed =
    absurd (both_ways (is_owed op) (not_owed (came is_stop own_past) (came is_invalid own_past) (came is_failed own_past || (eqb (losses own_past) 5 || eqb (missed own_past) 5)) op over) owed)
owed_due own_past op (inr live) owed = due_live own_past op live.1 owed

-- ---- what it is released with
module _ (H : History) (past : Past) (a : List ℕ) (e : Entry) (entry : IsEntry H past a e) (may : MayHand past a) where
  now_due : IsDue (own past a)
  now_due = owed_due (own past a) may.0.0 may.0.1.1 may.0.2

  -- the release rule is met
  may_release : (k : Passed) → e.pass ≡ Some k → MayRelease past (releases_made past + 1) a e.generation k.poll
  may_release k passed =
      let last = entry.says.pass_is k passed in
      record {
        next = refl;
        due = now_due;
        op = may.0.0;
        state = may.0.1.1;
        owed = may.0.2;
        named = ap (λ (i : Installed). i.generation) (same_Some _ _ (sym entry.says.terms_are ∙ now_due.installed));
        stands = sym last.2 ∙ ap (λ (x : Passing). x.poll) (same_Some _ _ (sym last.1 ∙ now_due.passed));
        alone = λ n p was_handed. settled n p was_handed (is_unsettled past n) refl;
      } where
        settled : (n p : ℕ) → handed_for n (own past a) ≡ Some p → (b : Bool) → is_unsettled past n ≡ b → is_unsettled past n ≡ false
        settled n p was_handed true is = absurd (may.1 n (p, was_handed, is))
        settled n p was_handed false is = is

  pub ready : (k : Passed) → e.pass ≡ Some k → IsPlaced H past k → IsReady H past (record { agent = a; generation = e.generation; place = e.place; pass = k })
  ready k passed placed =
      let last = entry.says.pass_is k passed in
      record {
        sources = record {
          with = entry.with;
          place_is = entry.place_is;
          named = entry.named;
          has_v = subst (λ (i : Installed). IsSome i.terms.v) (same_Some _ _ (sym now_due.installed ∙ entry.says.terms_are)) now_due.has_v;
          passed = placed;
          under = subst (λ (p : ℕ). PassedUnder p (own past a) k.boot) last.2 (passed_last (own past a) last.0 k.boot last.1 last.3);
        };
        rule = may_release k passed;
      }

-- ---- the share
module _ (H : History) (past : Past) (h : Handed) (ready : IsReady H past h) where
  -- the rule under the number that the release gets
  pub rule_at : (n : ℕ) → n ≡ releases_made past + 1 → MayRelease past n h.agent h.generation h.pass.poll
  rule_at n next = subst (λ (m : ℕ). MayRelease past m h.agent h.generation h.pass.poll) (sym next) ready.rule

  pub gives : (a : List ℕ) (n : ℕ) (v public contact : List ℕ) → h.agent ≡ a → n ≡ releases_made past + 1 → HasRoom past 2 → option_and_then v_of (terms_at H h.place) ≡ Some v
      → option_map public_of (evidence_at H h.pass.place) ≡ Some public → option_map contact_of (terms_at H h.place) ≡ Some contact
      → Gives a (record { number = n; agent = h.agent; generation = h.generation; poll = h.pass.poll; v = v; public = public; contact = contact }) past
  gives a n v public contact ours next room has_v has_public has_contact = record {
    agent = ours;
    rule = rule_at n next;
    room = room;
    given = record {
      released = cond-true (eqb n n) _ _ (eq-eqb n n refl);
      terms = ready.sources.with;
      under = ready.sources.named;
      v = ap (option_and_then v_of) (sym ready.sources.place_is) ∙ has_v;
      contact = same_Some _ _ (ap (option_map contact_of) (sym ready.sources.place_is) ∙ has_contact);
      evidence = ready.sources.passed.0;
      passed = ready.sources.passed.2;
      public = same_Some _ _ (ap (option_map public_of) (sym ready.sources.passed.1) ∙ has_public);
    };
    unsettled = ap (λ b. b || is_unsettled past n) (eq-eqb n n refl);
  }
