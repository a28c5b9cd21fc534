-- What is kept of releases stays what the records say.
use Rattle.std.proofs.Common.{◌≡◌, ◌≢◌, ℕ, ◌+◌, ◌≤◌, Bool, true, false, not, cond, ◌&&◌, ◌||◌, List, [], ◌∷◌, ◌++◌, length, Option, Some, None, ◌⊎◌, inl, inr, refl, ap, ap₂, sym, ◌∙◌, subst, arith}
use Rattle.std.specs.Prelude.{is_some, slice_get, option_and_then}
use Rattle.std.specs.Option.{option_map, option_map_or, unwrap_or}
use Rattle.std.specs.Map.{lookup}
use Rattle.std.specs.Ordering.{nat_cmp}
use Rattle.std.specs.Str.{bytes_eq}
use Rattle.std.specs.Cmp.Lexicographic.{slice_cmp}
use Rattle.std.specs.BTreeMap.{BTreeMap, get, Updates, IsUnchanged, is_at}
use Rattle.std.proofs.lemmas.Bool.{cond-true, cond-false, cases_eq, ne_eqb, eqb-true, eq-eqb, both_ways, and_parts}
use Rattle.std.proofs.lemmas.Grind.{common_steps}
use Rattle.std.proofs.lemmas.Option.{same_Some, none-some}
use lib.Dec.{eqb}
use Rattle.kl_quote.specs.declared.evidence.Evidence.{Evidence}
use Rattle.kl_states.specs.declared.outcome.Outcome.{Outcome}
use Rattle.kl_states.specs.declared.outcome.Outcome.TheVariants.{Arrived, Missed, Withdrawn}
use Rattle.kl_appraise.specs.declared.judged.Boot.{Boot}
use Rattle.kl_appraise.specs.Terms.{TermsFields}
use Rattle.kl_history.specs.declared.record.Record.{Record}
use Rattle.kl_history.specs.declared.record.Record.TheVariants.{Install, Begin, Verdict, Restart, Lost, Dropped, Release, Settled, Stop, Remove}
use Rattle.kl_history.specs.declared.record.InstallWhy.TheVariants.{Add, Replace, Reactivate}
use Rattle.kl_history.specs.Records.{History, Past, Handing, releases, settles, is_unsettled, is_release, is_settling, belongs, own}
use Rattle.kl_history.specs.States.{handed_for, PassedUnder, HasReached}
use Rattle.kl_history.specs.Legal.{is_add, IsLegalPast}
use Rattle.kl_history.proofs.OwnRecords.{own-yes, own-no}
use Rattle.kl_agents.specs.declared.entry.Entry.{Entry}
use Rattle.kl_agents.specs.declared.entry.Handed.{Handed}
use Rattle.kl_agents.specs.declared.entry.Passed.{Passed}
use Rattle.kl_agents.specs.declared.reached.Target.{Target}
use Rattle.kl_core.specs.Shares.{IsAwaited}
use Rattle.kl_core.specs.Inner.Keeping.{Tells}
use Rattle.kl_agents.specs.Reached.{target_cmp, target_of, has_place, is_marked, Reserves}
use Rattle.kl_core.specs.Inner.Handing.{evidence_by, evidence_at, IsPlaced, HasSources, IsHanded, IsReady, release_with, HasHanded, Reaches, IsHanding}
use Rattle.kl_agents.specs.Settling.{settled_by, arrival, MarkedIf}
use Rattle.kl_agents.specs.Steps.{NotedIf, handed, is_boot, is_handed, reaches_boot, settled}
use Rattle.kl_agents.proofs.Texts.{eq_yes, eq_no}
use Rattle.kl_core.proofs.OneMore.{counted_as, slice_get-front, slice_get-seam, terms_at-front, Calm, quiet_release}
use Rattle.kl_core.proofs.Keeping.{agents_at}
use Rattle.kl_agents.proofs.Marks.{marked, same_or_other}
use Rattle.kl_core.proofs.Delivered.{evidence_stays, passed_stays, passed_once}
use Rattle.kl_core.proofs.Awaited.{made_anew, handing_within, handing_stays, handed_made, awaited_before}

-- ---- what a record does that neither makes nor settles a release
no_release : (r : Record) (n : ℕ) → is_release r ≡ false → releases n r ≡ false
no_release (Release m a g p) n is = cc
no_release (Install a g t w) n is = refl
no_release (Begin p a g m at from) n is = refl
no_release (Verdict p e s v c) n is = refl
no_release (Restart p e s c) n is = refl
no_release (Lost p w c) n is = refl
no_release (Dropped p w) n is = refl
no_release (Settled m o c) n is = refl
no_release (Stop a) n is = refl
no_release (Remove a) n is = refl

no_settling : (r : Record) (n : ℕ) → is_settling r ≡ false → settles n r ≡ false
no_settling (Settled m o c) n is = cc
no_settling (Install a g t w) n is = refl
no_settling (Begin p a g m at from) n is = refl
no_settling (Verdict p e s v c) n is = refl
no_settling (Restart p e s c) n is = refl
no_settling (Lost p w c) n is = refl
no_settling (Dropped p w) n is = refl
no_settling (Release m a g p) n is = refl
no_settling (Stop a) n is = refl
no_settling (Remove a) n is = refl

-- V reaches no boot by it, and none is forgotten
reached_same : (r : Record) (past : Past) (b : Boot) → is_settling r ≡ false → is_add r ≡ false → (HasReached (r ∷ past) b → HasReached past b) × (HasReached past b → HasReached (r ∷ past) b)
reached_same (Settled m o c) past b no_settle no_add = absurd (both_ways true no_settle refl)
reached_same (Install a g t Add) past b no_settle no_add = absurd (both_ways true no_add refl)
reached_same (Install a g t Replace) past b no_settle no_add = (λ is. is, λ is. is)
reached_same (Install a g t Reactivate) past b no_settle no_add = (λ is. is, λ is. is)
reached_same (Begin p a g m at from) past b no_settle no_add = (λ is. is, λ is. is)
reached_same (Verdict p e s v c) past b no_settle no_add = (λ is. is, λ is. is)
reached_same (Restart p e s c) past b no_settle no_add = (λ is. is, λ is. is)
reached_same (Lost p w c) past b no_settle no_add = (λ is. is, λ is. is)
reached_same (Dropped p w) past b no_settle no_add = (λ is. is, λ is. is)
reached_same (Release m a g p) past b no_settle no_add = (λ is. is, λ is. is)
reached_same (Stop a) past b no_settle no_add = (λ is. is, λ is. is)
reached_same (Remove a) past b no_settle no_add = (λ is. is, λ is. is)

-- nor is a release forgotten
handed_same : (r : Record) (past : Past) (n : ℕ) → releases n r ≡ false → is_add r ≡ false → handed_for n (r ∷ past) ≡ handed_for n past
handed_same (Release m a g p) past n other no_add = cond-false (eqb n m) _ _ other
handed_same (Install a g t Add) past n other no_add = absurd (both_ways true no_add refl)
handed_same (Install a g t Replace) past n other no_add = refl
handed_same (Install a g t Reactivate) past n other no_add = refl
handed_same (Begin p a g m at from) past n other no_add = refl
handed_same (Verdict p e s v c) past n other no_add = refl
handed_same (Restart p e s c) past n other no_add = refl
handed_same (Lost p w c) past n other no_add = refl
handed_same (Dropped p w) past n other no_add = refl
handed_same (Settled m o c) past n other no_add = refl
handed_same (Stop a) past n other no_add = refl
handed_same (Remove a) past n other no_add = refl

-- the same of what an agent's own records say
tells_on : (r : Record) (past : Past) (a : List ℕ) (b : Boot) (m : Bool) → is_settling r ≡ false → (belongs past a r ≡ true → is_add r ≡ false)
    → Tells m (HasReached (own past a) b) → Tells m (HasReached (own (r ∷ past) a) b)
tells_on r past a b m no_settle no_add tells = by_belonging (belongs past a r) refl where
  by_belonging : (t : Bool) → belongs past a r ≡ t → Tells m (HasReached (own (r ∷ past) a) b)
  by_belonging true is =
      let same = reached_same r (own past a) b no_settle (no_add is) in
      subst (λ (o : Past). Tells m (HasReached o b)) (sym (own-yes r past a is)) (λ yes'. same.1 (tells.0 yes'), λ no' has. tells.1 no' (same.0 has))
  by_belonging false is = subst (λ (o : Past). Tells m (HasReached o b)) (sym (own-no r past a is)) tells

handed_on : (r : Record) (past : Past) (a : List ℕ) (n p : ℕ) → releases n r ≡ false → (belongs past a r ≡ true → is_add r ≡ false)
    → handed_for n (own past a) ≡ Some p → handed_for n (own (r ∷ past) a) ≡ Some p
handed_on r past a n p other no_add handed = by_belonging (belongs past a r) refl where
  by_belonging : (t : Bool) → belongs past a r ≡ t → handed_for n (own (r ∷ past) a) ≡ Some p
  by_belonging true is = ap (handed_for n) (own-yes r past a is) ∙ handed_same r (own past a) n other (no_add is) ∙ handed
  by_belonging false is = ap (handed_for n) (own-no r past a is) ∙ handed

-- ---- where evidence stands
evidence_at-front : (H more : History) (place : ℕ) (e : Evidence) → evidence_at H place ≡ Some e → evidence_at (H ++ more) place ≡ Some e
evidence_at-front H more place e is = found (slice_get H place) refl is where
  found : (o : Option Record) → slice_get H place ≡ o → option_and_then evidence_by o ≡ Some e → evidence_at (H ++ more) place ≡ Some e
  found None at is = cc
  found (Some r) at is = ap (λ o. option_and_then evidence_by o) (slice_get-front H more place r at) ∙ is

pub placed_stays : (H : History) (past : Past) (r : Record) (k : Passed) → IsLegalPast (r ∷ past) → IsPlaced H past k → IsPlaced (H ++ r ∷ []) (r ∷ past) k
placed_stays H past r k legal (e, at, of) = (e, evidence_at-front H (r ∷ []) k.place e at, evidence_stays r past k.poll e legal of)

-- the pass of a poll whose verdict stands last
pub placed_now : (H : History) (past : Past) (e : Evidence) (s : Bool) (v : _) (c : Bool) (k : Passed) → k.place ≡ length H → IsPlaced (H ++ Verdict k.poll e s v c ∷ []) (Verdict k.poll e s v c ∷ past) k
placed_now H past e s v c k at = (
  e,
  ap (λ n. evidence_at (H ++ Verdict k.poll e s v c ∷ []) n) at ∙ ap (λ o. option_and_then evidence_by o) (slice_get-seam H [] (Verdict k.poll e s v c)),
  cond-true (eqb k.poll k.poll) _ _ (eq-eqb k.poll k.poll refl),
)

-- ---- releases that are not settled
unsettled_same : (r : Record) (past : Past) (n : ℕ) → releases n r ≡ false → settles n r ≡ false → is_unsettled (r ∷ past) n ≡ is_unsettled past n
unsettled_same r past n no_make no_settle = ap₂ (λ s m. not s && (m || is_unsettled past n)) no_settle no_make

sources_stay : (H : History) (past : Past) (r : Record) (h : Handed) → IsLegalPast (r ∷ past) → Calm past r → HasSources H past h → HasSources (H ++ r ∷ []) (r ∷ past) h
sources_stay H past r h legal calm is = record {
  with = is.with;
  place_is = terms_at-front H (r ∷ []) h.place is.with is.place_is;
  named = calm.terms h.generation is.with is.named;
  has_v = is.has_v;
  passed = placed_stays H past r h.pass legal is.passed;
  under = passed_stays r past h.agent h.pass.poll h.pass.boot is.under;
}

has_handed : (H : History) (past : Past) (r : Record) (n : ℕ) (o : Option Handed) → IsLegalPast (r ∷ past) → Calm past r → releases n r ≡ false → settles n r ≡ false
    → HasHanded H past n o → HasHanded (H ++ r ∷ []) (r ∷ past) n o
has_handed H past r n None legal calm no_make no_settle is = unsettled_same r past n no_make no_settle ∙ is
has_handed H past r n (Some h) legal calm no_make no_settle is = record {
  sources = sources_stay H past r h legal calm is.sources;
  released = handing_stays r past n _ legal is.released;
  unsettled = unsettled_same r past n no_make no_settle ∙ is.unsettled;
}

-- ---- a record that neither makes nor settles a release
-- What is kept of an agent is as before, but for what is found of its polls; or it was added by this record.
pub data Follows (H : History) (past : Past) (r : Record) (agents : BTreeMap (List ℕ) Entry) (drawn drawn' : ℕ) (a : List ℕ) (f : Entry) : Type 0 where
  stays : (e : Entry) → get (slice_cmp nat_cmp) agents a ≡ Some e → (belongs past a r ≡ true → is_add r ≡ false) → f.added ≡ e.added → f.handed ≡ e.handed
      → ((k : Passed) → f.pass ≡ Some k → (e.pass ≡ Some k) ⊎ IsPlaced (H ++ r ∷ []) (r ∷ past) k) → Follows H past r agents drawn drawn' a f
  enters : (g : ℕ) (t : TermsFields) → r ≡ Install a g t Add → f.added ≡ drawn + 1 → f.handed ≡ None → f.pass ≡ None → drawn + 1 ≤ drawn' → Follows H past r agents drawn drawn' a f

no_more_reached : (past : Past) (a : List ℕ) (g : ℕ) (t : TermsFields) (b : Boot) → ¬ (HasReached (own (Install a g t Add ∷ past) a) b)
no_more_reached past a g t b has = subst (λ (o : Past). HasReached o b) (own-yes (Install a g t Add) past a (eq_yes a a refl)) has

no_more_handed : (past : Past) (a : List ℕ) (g : ℕ) (t : TermsFields) (n p : ℕ) → ¬ (handed_for n (own (Install a g t Add ∷ past) a) ≡ Some p)
no_more_handed past a g t n p is = none-some p (sym (ap (handed_for n) (own-yes (Install a g t Add) past a (eq_yes a a refl))) ∙ is)

module _ (H : History) (past : Past) (r : Record) (agents : BTreeMap (List ℕ) Entry) (held : BTreeMap ℕ Handed) (marks : BTreeMap Target Bool) (drawn drawn' made : ℕ)
    (handing : IsHanding H past agents held marks drawn made) (legal : IsLegalPast (r ∷ past)) (no_make : is_release r ≡ false) (no_settle : is_settling r ≡ false) (grows : drawn ≤ drawn') where
  reaches_on : (a : List ℕ) (f : Entry) → Follows H past r agents drawn drawn' a f → Reaches (H ++ r ∷ []) (r ∷ past) marks drawn' a f
  reaches_on a f (stays e at no_add same_added same_handed passes) =
      let before = handing.agents_reach a e at in
      record {
        added_drawn = let le = before.added_drawn in omega arith;
        pass_placed = λ k is. elim (passes k is) [ inl old ↦ placed_stays H past r k legal (before.pass_placed k old) | inr now ↦ now ];
        boots = λ b.
            subst (λ (n : ℕ). Tells (is_marked marks (target_of a n b)) (HasReached (own (r ∷ past) a) b)) (sym same_added)
            (tells_on r past a b (is_marked marks (target_of a e.added b)) no_settle no_add (before.boots b));
        awaited = λ n is. same_handed ∙ before.awaited n (awaited_before r past a n (no_release r n no_make) is);
        handed = λ n is. let old = before.handed n (sym same_handed ∙ is) in (old.0, handed_on r past a n old.0 (no_release r n no_make) no_add old.1);
      }
  reaches_on a f (enters g t is added no_handed no_pass more) = record {
    added_drawn = omega arith;
    pass_placed = λ k has. absurd (none-some k (sym no_pass ∙ has));
    boots = λ b. (
      λ marked_so. absurd (let le = handing.marked_drawn (target_of a f.added b) marked_so in omega arith),
      λ _ has. no_more_reached past a g t b (subst (λ (x : Record). HasReached (own (x ∷ past) a) b) is has),
    );
    awaited = λ n (p, has, _). absurd (no_more_handed past a g t n p (subst (λ (x : Record). handed_for n (own (x ∷ past) a) ≡ Some p) is has));
    handed = λ n has. absurd (none-some n (sym no_handed ∙ has));
  }

  places_on : (a : List ℕ) (f : Entry) (n : ℕ) (h : Handed) → Follows H past r agents drawn drawn' a f → f.handed ≡ Some n → get nat_cmp held n ≡ Some h
      → has_place marks (target_of a f.added h.pass.boot) ≡ true
  places_on a f n h (stays e at no_add same_added same_handed passes) is has =
      ap (λ m. has_place marks (target_of a m h.pass.boot)) same_added ∙ handing.places a e n h at (sym same_handed ∙ is) has
  places_on a f n h (enters g t same added no_handed no_pass more) is has = absurd (none-some n (sym no_handed ∙ is))

  pub handing_on : (agents' : BTreeMap (List ℕ) Entry) → Calm past r → ((a : List ℕ) (f : Entry) → get (slice_cmp nat_cmp) agents' a ≡ Some f → Follows H past r agents drawn drawn' a f)
      → IsHanding (H ++ r ∷ []) (r ∷ past) agents' held marks drawn' made
  handing_on agents' calm follows = record {
    agents_reach = λ a f is. reaches_on a f (follows a f is);
    releases_are = λ n. has_handed H past r n _ legal calm (no_release r n no_make) (no_settling r n no_settle) (handing.releases_are n);
    places = λ a f n h at is has. places_on a f n h (follows a f at) is has;
    marked_drawn = λ t is. let le = handing.marked_drawn t is in omega arith;
    made_is = let same = counted_as is_release r past false no_make in let was = handing.made_is in omega arith;
  }

-- ---- what is known of one agent, and of one release
pub agent_at : (agents agents' : BTreeMap (List ℕ) Entry) (b : List ℕ) (w : Option Entry) → Updates (slice_cmp nat_cmp) agents agents' b w → (P : List ℕ → Entry → Type 0)
    → ((f : Entry) → w ≡ Some f → P b f) → ((a : List ℕ) (f : Entry) → bytes_eq a b ≡ false → get (slice_cmp nat_cmp) agents a ≡ Some f → P a f)
    → (a : List ℕ) (f : Entry) → get (slice_cmp nat_cmp) agents' a ≡ Some f → P a f
agent_at agents agents' b w up P here there a f is =
    agents_at agents agents' b w up (λ a o. (f : Entry) → o ≡ Some f → P a f) here (λ a apart f at. there a f apart at) a f is

release_at : (held held' : BTreeMap ℕ Handed) (n : ℕ) (w : Option Handed) → Updates nat_cmp held held' n w → (P : ℕ → Option Handed → Type 0)
    → P n w → ((m : ℕ) → eqb m n ≡ false → P m (get nat_cmp held m)) → (m : ℕ) → P m (get nat_cmp held' m)
release_at held held' n w up P here there m = elim (cases_eq m n) [
  | inl e ↦
      let at : get nat_cmp held' m ≡ w = ap (λ k. get nat_cmp held' k) e ∙ up.1 in
      subst (λ (o : Option Handed). P m o) (sym at) (subst (λ (k : ℕ). P k w) (sym e) here)
  | inr ne ↦
      let at : get nat_cmp held' m ≡ get nat_cmp held m = up.2 m (grind (arith, common_steps)) in
      subst (λ (o : Option Handed). P m o) (sym at) (there m (ne_eqb m n ne))
]

-- ---- a release
module _ (H : History) (past : Past) (agents : BTreeMap (List ℕ) Entry) (held : BTreeMap ℕ Handed) (marks marks' : BTreeMap Target Bool) (drawn made : ℕ)
    (h : Handed) (e : Entry) (n : ℕ) (handing : IsHanding H past agents held marks drawn made) (ready : IsReady H past h) (legal : IsLegalPast (release_with n h ∷ past))
    (kept : get (slice_cmp nat_cmp) agents h.agent ≡ Some e) (reserves : Reserves marks marks' (target_of h.agent e.added h.pass.boot)) where
  abbrev r : Record
  r = release_with n h

  ours : own (r ∷ past) h.agent ≡ r ∷ own past h.agent
  ours = own-yes r past h.agent (eq_yes h.agent h.agent refl)

  same_marks : (b : List ℕ) (f : Entry) (c : Boot) → Tells (is_marked marks (target_of b f.added c)) (HasReached (own past b) c) → Tells (is_marked marks' (target_of b f.added c)) (HasReached (own (r ∷ past) b) c)
  same_marks b f c tells =
      subst (λ (m : Bool). Tells m (HasReached (own (r ∷ past) b) c)) (sym (reserves.marks (target_of b f.added c)))
      (tells_on r past b c (is_marked marks (target_of b f.added c)) refl (λ _. refl) tells)

  alone_then : (m : ℕ) → ¬ (IsAwaited past h.agent m)
  alone_then m (p, was_handed, open_now) = both_ways (is_unsettled past m) (ready.rule.alone m p was_handed) open_now

  reaches_ours : (f : Entry) → Some (handed n e) ≡ Some f → Reaches (H ++ r ∷ []) (r ∷ past) marks' drawn h.agent f
  reaches_ours f same =
      let before = handing.agents_reach h.agent e kept in
      subst (λ (x : Entry). Reaches (H ++ r ∷ []) (r ∷ past) marks' drawn h.agent x) (same_Some _ f same) (record {
        added_drawn = before.added_drawn;
        pass_placed = λ c is. placed_stays H past r c legal (before.pass_placed c is);
        boots = λ b. same_marks h.agent e b (before.boots b);
        awaited = λ m is. elim (cases_eq m n) [
          | inl it ↦ ap (λ x. Some x) (sym it)
          | inr other ↦ absurd (alone_then m (awaited_before r past h.agent m (ne_eqb m n other) is))
        ];
        handed = λ m is. (
          h.pass.poll,
          ap (handed_for m) ours ∙ cond-true (eqb m n) _ _ (eq-eqb m n (sym (same_Some n m is))),
        );
      })

  -- another agent's releases were made before
  made_before : (b : List ℕ) (m p : ℕ) → handed_for m (own past b) ≡ Some p → eqb m n ≡ false
  made_before b m p is = let it = handed_made past b m p legal.0 is in made_anew r past m it.handing legal it.made

  reaches_theirs : (b : List ℕ) (f : Entry) → bytes_eq b h.agent ≡ false → get (slice_cmp nat_cmp) agents b ≡ Some f → Reaches (H ++ r ∷ []) (r ∷ past) marks' drawn b f
  reaches_theirs b f apart at =
      let before = handing.agents_reach b f at in
      let theirs = own-no r past b apart in
      record {
        added_drawn = before.added_drawn;
        pass_placed = λ c is. placed_stays H past r c legal (before.pass_placed c is);
        boots = λ c. same_marks b f c (before.boots c);
        awaited = λ m is. before.awaited m (awaited_before r past b m (made_before b m is.0 (ap (handed_for m) (sym theirs) ∙ is.1)) is);
        handed = λ m is. let old = before.handed m is in (old.0, ap (handed_for m) theirs ∙ old.1);
      }

  held_now : IsHanded (H ++ r ∷ []) (r ∷ past) n h
  held_now = record {
    sources = sources_stay H past r h legal (quiet_release past n h.agent h.generation h.pass.poll).calm ready.sources;
    released = cond-true (eqb n n) _ _ (eq-eqb n n refl);
    unsettled = ap (λ b. b || is_unsettled past n) (eq-eqb n n refl);
  }

  pub handing_released : (agents' : BTreeMap (List ℕ) Entry) (held' : BTreeMap ℕ Handed) → n ≡ made + 1
      → Updates (slice_cmp nat_cmp) agents agents' h.agent (Some (handed n e)) → Updates nat_cmp held held' n (Some h)
      → IsHanding (H ++ r ∷ []) (r ∷ past) agents' held' marks' drawn n
  handing_released agents' held' next up more = record {
    agents_reach = agent_at agents agents' h.agent (Some (handed n e)) up (λ b f. Reaches (H ++ r ∷ []) (r ∷ past) marks' drawn b f) reaches_ours reaches_theirs;
    releases_are = release_at held held' n (Some h) more (λ m o. HasHanded (H ++ r ∷ []) (r ∷ past) m o) held_now
        (λ m apart. has_handed H past r m _ legal (quiet_release past n h.agent h.generation h.pass.poll).calm apart refl (handing.releases_are m));
    places = λ b f m g at is has.
        release_at held held' n (Some h) more (λ m o. o ≡ Some g → f.handed ≡ Some m → has_place marks' (target_of b f.added g.pass.boot) ≡ true)
        (λ same it.
        let it_is : h ≡ g = same_Some _ g same in
        ap (λ (x : Handed). has_place marks' (target_of b f.added x.pass.boot)) (sym it_is)
        ∙ agent_at agents agents' h.agent (Some (handed n e)) up (λ b f. f.handed ≡ Some n → has_place marks' (target_of b f.added h.pass.boot) ≡ true)
        (λ x is_x _. ap (λ (y : Entry). has_place marks' (target_of h.agent y.added h.pass.boot)) (sym (same_Some _ x is_x)) ∙ reserves.place)
        (λ c x apart at_c has_n.
        let old = (handing.agents_reach c x at_c).handed n has_n in
        absurd (both_ways (eqb n n) (made_before c n old.0 old.1) (eq-eqb n n refl)))
        b f at it)
        (λ m apart held_m it.
        agent_at agents agents' h.agent (Some (handed n e)) up (λ b f. f.handed ≡ Some m → has_place marks' (target_of b f.added g.pass.boot) ≡ true)
        (λ x is_x has_m.
        let same : n ≡ m = same_Some n m (ap (λ (y : Entry). y.handed) (same_Some _ x is_x) ∙ has_m) in
        absurd (both_ways (eqb m n) apart (eq-eqb m n (sym same))))
        (λ c x _ at_c has_m. reserves.places (target_of c x.added g.pass.boot) (handing.places c x m g at_c has_m held_m))
        b f at it)
        m has is;
    marked_drawn = λ t is. handing.marked_drawn t (sym (reserves.marks t) ∙ is);
    made_is = let more' = counted_as is_release r past true refl in let was = handing.made_is in omega arith;
  }

-- no release of the next number is kept
pub next_is_unmade : (H : History) (past : Past) (agents : BTreeMap (List ℕ) Entry) (held : BTreeMap ℕ Handed) (marks : BTreeMap Target Bool) (drawn made : ℕ) → IsLegalPast past
    → IsHanding H past agents held marks drawn made → get nat_cmp held (made + 1) ≡ None
next_is_unmade H past agents held marks drawn made legal handing = unmade (get nat_cmp held (made + 1)) refl where
  unmade : (o : Option Handed) → get nat_cmp held (made + 1) ≡ o → o ≡ None
  unmade None is = refl
  unmade (Some h) is =
      let it = subst (λ (o : Option Handed). HasHanded H past (made + 1) o) is (handing.releases_are (made + 1)) in
      absurd (let le = handing_within past (made + 1) _ legal it.released in let was = handing.made_is in omega arith)

-- places more, and the same marks and releases
pub handing_roomier : (H : History) (past : Past) (agents : BTreeMap (List ℕ) Entry) (held held' : BTreeMap ℕ Handed) (marks marks' : BTreeMap Target Bool) (drawn made : ℕ)
    → IsHanding H past agents held marks drawn made → IsUnchanged held held' → ((t : Target) → has_place marks t ≡ true → has_place marks' t ≡ true)
    → ((t : Target) → is_marked marks' t ≡ is_marked marks t) → IsHanding H past agents held' marks' drawn made
handing_roomier H past agents held held' marks marks' drawn made handing same places_stay marks_stay = record {
  agents_reach = λ a e at.
      let before = handing.agents_reach a e at in
      record {
        added_drawn = before.added_drawn;
        pass_placed = before.pass_placed;
        boots = λ b. subst (λ (m : Bool). Tells m (HasReached (own past a) b)) (sym (marks_stay (target_of a e.added b))) (before.boots b);
        awaited = before.awaited;
        handed = before.handed;
      };
  releases_are = λ n. subst (λ (o : Option Handed). HasHanded H past n o) (sym (held_same n)) (handing.releases_are n);
  places = λ a e n h at is has. places_stay _ (handing.places a e n h at is (sym (held_same n) ∙ has));
  marked_drawn = λ t is. handing.marked_drawn t (sym (marks_stay t) ∙ is);
  made_is = handing.made_is;
} where
  held_same : (n : ℕ) → get nat_cmp held' n ≡ get nat_cmp held n
  held_same n = ap (λ (es : List (ℕ × Handed)). lookup (is_at (nat_cmp n)) es) same

-- ---- a settlement
-- boots that are the same, and others
same_boot : (b c : Boot) → is_boot b c ≡ true → b ≡ c
same_boot b c is =
    let parts = and_parts (eqb b.reset c.reset) (eqb b.restart c.restart) is in
    ap₂ boot_by (eqb-true b.reset c.reset parts.0) (eqb-true b.restart c.restart parts.1) where
      boot_by : ℕ → ℕ → Boot
      boot_by reset restart = record { reset = reset; restart = restart }

own_boot : (b : Boot) → is_boot b b ≡ true
own_boot b = ap₂ ◌&&◌ (eq-eqb b.reset b.reset refl) (eq-eqb b.restart b.restart refl)

pub last_handed : (o : Option ℕ) (n : ℕ) → option_map_or (λ m. eqb m n) o false ≡ true → o ≡ Some n
last_handed (Some m) n is = ap (λ x. Some x) (eqb-true m n is)
last_handed None n is = cc

is_last : (o : Option ℕ) (n : ℕ) → o ≡ Some n → option_map_or (λ m. eqb m n) o false ≡ true
is_last o n is = ap (λ o. option_map_or (λ m. eqb m n) o false) is ∙ eq-eqb n n refl

or_tells : (m x : Bool) (P Q : Type 0) → Tells m P → Tells x Q → Tells (m || x) (Q ⊎ P)
or_tells true x P Q m_tells x_tells = (λ _. inr (m_tells.0 refl), λ no' has. both_ways true no' refl)
or_tells false true P Q m_tells x_tells = (λ _. inl (x_tells.0 refl), λ no' has. both_ways true no' refl)
or_tells false false P Q m_tells x_tells = (λ yes'. absurd (both_ways false refl yes'), λ _ has. elim has [ inl q ↦ x_tells.1 refl q | inr p ↦ m_tells.1 refl p ])

module _ (H : History) (past : Past) (agents : BTreeMap (List ℕ) Entry) (held : BTreeMap ℕ Handed) (marks : BTreeMap Target Bool) (drawn made n : ℕ) (h : Handed)
    (handing : IsHanding H past agents held marks drawn made) (legal : IsLegalPast past) (open_one : IsHanded H past n h) where
  -- it has arrived at a boot exactly where it was made since its agent was added, and is of that boot
  arrived_at : (e : Entry) (b : Boot) → get (slice_cmp nat_cmp) agents h.agent ≡ Some e
      → Tells (is_handed n e && is_boot b h.pass.boot) ((p : ℕ) × (handed_for n (own past h.agent) ≡ Some p) × PassedUnder p (own past h.agent) b)
  arrived_at e b at =
      let before = handing.agents_reach h.agent e at in (
        λ yes'.
            let parts = and_parts (is_handed n e) (is_boot b h.pass.boot) yes' in
            let last = before.handed n (last_handed e.handed n parts.0) in
            let it = handed_made past h.agent n last.0 legal last.1 in
            let poll : last.0 ≡ h.pass.poll = sym it.poll ∙ ap (λ (x : Handing). x.poll) (same_Some _ _ (sym it.made ∙ open_one.released)) in (
              last.0,
              last.1,
              subst (λ (c : Boot). PassedUnder last.0 (own past h.agent) c) (sym (same_boot b h.pass.boot parts.1))
                  (subst (λ (p : ℕ). PassedUnder p (own past h.agent) h.pass.boot) (sym poll) open_one.sources.under),
            ),
        λ no' (p, was_handed, under).
            let last = before.awaited n (p, was_handed, open_one.unsettled) in
            let it = handed_made past h.agent n p legal was_handed in
            let poll : p ≡ h.pass.poll = sym it.poll ∙ ap (λ (x : Handing). x.poll) (same_Some _ _ (sym it.made ∙ open_one.released)) in
            let same : b ≡ h.pass.boot =
            passed_once past h.agent h.pass.poll b h.pass.boot legal (subst (λ (q : ℕ). PassedUnder q (own past h.agent) b) poll under) open_one.sources.under in
            both_ways (is_handed n e && is_boot b h.pass.boot) no'
            (ap₂ ◌&&◌ (is_last e.handed n last) (ap (λ (c : Boot). is_boot c h.pass.boot) same ∙ own_boot h.pass.boot)),
      )

  -- what is kept says whether V has reached the boot of the last pass, once it arrived
  pub now_reached : (e : Entry) (c : Bool) (k : Passed) → get (slice_cmp nat_cmp) agents h.agent ≡ Some e → e.pass ≡ Some k → Tells e.reached (HasReached (own past h.agent) k.boot)
      → Tells (e.reached || reaches_boot n h e) (HasReached (Settled n Arrived c ∷ own past h.agent) k.boot)
  now_reached e c k at passed tells =
      let hit : reaches_boot n h e ≡ (is_handed n e && is_boot k.boot h.pass.boot) =
      ap (λ o. option_map_or (λ (x : Passed). is_handed n e && is_boot x.boot h.pass.boot) o false) passed in
      subst (λ (x : Bool). Tells (e.reached || x) (HasReached (Settled n Arrived c ∷ own past h.agent) k.boot)) (sym hit)
      (or_tells e.reached (is_handed n e && is_boot k.boot h.pass.boot) _ _ tells (arrived_at e k.boot at))

-- what of an entry a settlement leaves
record StaysHanded (e f : Entry) : Type 0 where
  pub added : f.added ≡ e.added
  pub handed : f.handed ≡ e.handed
  pub pass : f.pass ≡ e.pass

stays_handed : (o : Outcome) (c hit : Bool) (e : Entry) → StaysHanded e (settled o c hit e)
stays_handed Arrived c hit e = record { added = refl; handed = refl; pass = refl }
stays_handed Missed true hit e = record { added = refl; handed = refl; pass = refl }
stays_handed Missed false hit e = record { added = refl; handed = refl; pass = refl }
stays_handed (Withdrawn w) c hit e = record { added = refl; handed = refl; pass = refl }

-- marks of boots of other agents, and of the same
module _ (marks marks' : BTreeMap Target Bool) where
  pub marks_same : IsUnchanged marks marks' → (t : Target) → (is_marked marks' t ≡ is_marked marks t) × (has_place marks' t ≡ has_place marks t)
  marks_same same t =
      let at : get target_cmp marks' t ≡ get target_cmp marks t = ap (λ (es : List (Target × Bool)). lookup (is_at (target_cmp t)) es) same in
      (ap (λ (o : Option Bool). unwrap_or o false) at, ap (λ (o : Option Bool). is_some o) at)

  places_kept : (o : Option Target) → MarkedIf marks marks' o → (t : Target) → has_place marks t ≡ true → has_place marks' t ≡ true
  places_kept None same t is = (marks_same same t).1 ∙ is
  places_kept (Some s) up t is = (marked marks marks' s up).places t is

  marks_kept : (o : Option Target) → MarkedIf marks marks' o → (t : Target) → o ≢ Some t → is_marked marks' t ≡ is_marked marks t
  marks_kept None same t other = (marks_same same t).0
  marks_kept (Some s) up t other = (marked marks marks' s up).others t (λ e. other (ap (λ x. Some x) (sym e)))

  mark_made : (o : Option Target) → MarkedIf marks marks' o → (t : Target) → o ≡ Some t → is_marked marks' t ≡ true
  mark_made None same t is = absurd (none-some t is)
  mark_made (Some s) up t is = ap (is_marked marks') (sym (same_Some s t is)) ∙ (marked marks marks' s up).marked

target_boot : (a : List ℕ) (n : ℕ) (b c : Boot) → target_of a n b ≡ target_of a n c → is_boot b c ≡ true
target_boot a n b c same =
    ap₂ ◌&&◌ (eq-eqb b.reset c.reset (ap (λ (t : Target). t.reset) same)) (eq-eqb b.restart c.restart (ap (λ (t : Target). t.restart) same))

or_none : (m : Bool) → (m || false) ≡ m
or_none true = refl
or_none false = refl

or_all : (m : Bool) → (m || true) ≡ true
or_all true = refl
or_all false = refl

-- the marks of an agent's boots once a release of it arrived
marks_arrived : (marks marks' : BTreeMap Target Bool) (n : ℕ) (h : Handed) (e : Entry) (b : Boot) → MarkedIf marks marks' (arrival n h Arrived (Some e))
    → is_marked marks' (target_of h.agent e.added b) ≡ (is_marked marks (target_of h.agent e.added b) || (is_handed n e && is_boot b h.pass.boot))
marks_arrived marks marks' n h e b up = by_handed (is_handed n e) refl where
  t : Target
  t = target_of h.agent e.added b

  by_boot : is_handed n e ≡ true → (x : Bool) → is_boot b h.pass.boot ≡ x → is_marked marks' t ≡ (is_marked marks t || x)
  by_boot was true is =
      mark_made marks marks' (arrival n h Arrived (Some e)) up t
      (cond-true (is_handed n e) _ _ was ∙ ap (λ (c : Boot). Some (target_of h.agent e.added c)) (sym (same_boot b h.pass.boot is)))
      ∙ sym (or_all (is_marked marks t))
  by_boot was false is =
      marks_kept marks marks' (arrival n h Arrived (Some e)) up t
      (λ same. both_ways (is_boot b h.pass.boot) is
      (target_boot h.agent e.added b h.pass.boot (sym (same_Some _ _ (sym (cond-true (is_handed n e) _ _ was) ∙ same)))))
      ∙ sym (or_none (is_marked marks t))

  by_handed : (x : Bool) → is_handed n e ≡ x → is_marked marks' t ≡ (is_marked marks t || (x && is_boot b h.pass.boot))
  by_handed true is = by_boot is (is_boot b h.pass.boot) refl
  by_handed false is =
      marks_kept marks marks' (arrival n h Arrived (Some e)) up t (λ same. none-some t (sym (cond-false (is_handed n e) _ _ is) ∙ same))
      ∙ sym (or_none (is_marked marks t))

-- the agent of what is marked is that of the release, and its generation that with which the agent was added
arrival_is : (n : ℕ) (h : Handed) (o : Outcome) (entry : Option Entry) (t : Target) → arrival n h o entry ≡ Some t → (e : Entry) × (entry ≡ Some e) × (t.agent ≡ h.agent) × (t.added ≡ e.added)
arrival_is n h Arrived (Some e) t is = by_handed (is_handed n e) is where
  by_handed : (x : Bool) → cond x (Some (target_of h.agent e.added h.pass.boot)) None ≡ Some t → (f : Entry) × (Some e ≡ Some f) × (t.agent ≡ h.agent) × (t.added ≡ f.added)
  by_handed true is = let same = same_Some _ t is in (e, refl, sym (ap (λ (x : Target). x.agent) same), sym (ap (λ (x : Target). x.added) same))
  by_handed false is = absurd (none-some t is)
arrival_is n h Arrived None t is = absurd (none-some t is)
arrival_is n h Missed (Some e) t is = absurd (none-some t is)
arrival_is n h Missed None t is = absurd (none-some t is)
arrival_is n h (Withdrawn w) (Some e) t is = absurd (none-some t is)
arrival_is n h (Withdrawn w) None t is = absurd (none-some t is)

module _ (H : History) (past : Past) (agents : BTreeMap (List ℕ) Entry) (held : BTreeMap ℕ Handed) (marks marks' : BTreeMap Target Bool) (drawn made n : ℕ) (o : Outcome) (c : Bool) (h : Handed)
    (entry : Option Entry) (handing : IsHanding H past agents held marks drawn made) (legal : IsLegalPast (Settled n o c ∷ past)) (open_one : IsHanded H past n h)
    (kept : get (slice_cmp nat_cmp) agents h.agent ≡ entry) (up : MarkedIf marks marks' (arrival n h o entry)) where
  abbrev s : Record
  s = Settled n o c

  belongs_is : (a : List ℕ) → belongs past a s ≡ bytes_eq a h.agent
  belongs_is a = ap (λ o. option_map_or (λ (x : Handing). bytes_eq a x.agent) o false) open_one.released

  its_own : own (s ∷ past) h.agent ≡ s ∷ own past h.agent
  its_own = own-yes s past h.agent (belongs_is h.agent ∙ eq_yes h.agent h.agent refl)

  -- its agent's boots
  boots_settled : (e : Entry) (b : Boot) → entry ≡ Some e → Tells (is_marked marks' (target_of h.agent e.added b)) (HasReached (s ∷ own past h.agent) b)
  boots_settled e b is = by_outcome o legal up where
    before : Tells (is_marked marks (target_of h.agent e.added b)) (HasReached (own past h.agent) b)
    before = (handing.agents_reach h.agent e (kept ∙ is)).boots b

    unmarked : (o : Outcome) → MarkedIf marks marks' (arrival n h o entry) → arrival n h o (Some e) ≡ None → is_marked marks' (target_of h.agent e.added b) ≡ is_marked marks (target_of h.agent e.added b)
    unmarked o up none = marks_kept marks marks' (arrival n h o entry) up _ (λ same. none-some _ (sym (ap (arrival n h o) is ∙ none) ∙ same))

    by_outcome : (o : Outcome) → IsLegalPast (Settled n o c ∷ past) → MarkedIf marks marks' (arrival n h o entry) → Tells (is_marked marks' (target_of h.agent e.added b)) (HasReached (Settled n o c ∷ own past h.agent) b)
    by_outcome Arrived legal up =
        subst (λ (m : Bool). Tells m (HasReached (Settled n Arrived c ∷ own past h.agent) b))
        (sym (marks_arrived marks marks' n h e b (subst (λ (x : Option Entry). MarkedIf marks marks' (arrival n h Arrived x)) is up)))
        (or_tells (is_marked marks (target_of h.agent e.added b)) (is_handed n e && is_boot b h.pass.boot) _ _ before
        (arrived_at H past agents held marks drawn made n h handing legal.0 open_one e b (kept ∙ is)))
    by_outcome Missed legal up = subst (λ (m : Bool). Tells m (HasReached (own past h.agent) b)) (sym (unmarked Missed up refl)) before
    by_outcome (Withdrawn w) legal up = subst (λ (m : Bool). Tells m (HasReached (own past h.agent) b)) (sym (unmarked (Withdrawn w) up refl)) before

  reaches_its : (f : Entry) → option_map (settled_by n h o c) entry ≡ Some f → (e : Entry) → entry ≡ Some e → Reaches (H ++ s ∷ []) (s ∷ past) marks' drawn h.agent f
  reaches_its f same e is =
      let before = handing.agents_reach h.agent e (kept ∙ is) in
      let stays = stays_handed o c (reaches_boot n h e) e in
      subst (λ (x : Entry). Reaches (H ++ s ∷ []) (s ∷ past) marks' drawn h.agent x) (same_Some _ f (sym (ap (λ x. option_map (settled_by n h o c) x) is) ∙ same)) (record {
        added_drawn = let le = before.added_drawn in let e = stays.added in omega arith;
        pass_placed = λ k has. placed_stays H past s k legal (before.pass_placed k (sym stays.pass ∙ has));
        boots = λ b.
            subst (λ (x : Past). Tells (is_marked marks' (target_of h.agent (settled_by n h o c e).added b)) (HasReached x b)) (sym its_own)
            (subst (λ (x : ℕ). Tells (is_marked marks' (target_of h.agent x b)) (HasReached (s ∷ own past h.agent) b)) (sym stays.added) (boots_settled e b is));
        awaited = λ m it. stays.handed ∙ before.awaited m (awaited_before s past h.agent m refl it);
        handed = λ m it. let old = before.handed m (sym stays.handed ∙ it) in (old.0, handed_on s past h.agent m old.0 refl (λ _. refl) old.1);
      })

  reaches_other : (b : List ℕ) (f : Entry) → bytes_eq b h.agent ≡ false → get (slice_cmp nat_cmp) agents b ≡ Some f → Reaches (H ++ s ∷ []) (s ∷ past) marks' drawn b f
  reaches_other b f apart at =
      let before = handing.agents_reach b f at in
      let theirs = own-no s past b (belongs_is b ∙ apart) in
      record {
        added_drawn = before.added_drawn;
        pass_placed = λ k has. placed_stays H past s k legal (before.pass_placed k has);
        boots = λ x.
            subst (λ (y : Past). Tells (is_marked marks' (target_of b f.added x)) (HasReached y x)) (sym theirs)
            (subst (λ (m : Bool). Tells m (HasReached (own past b) x))
            (sym (marks_kept marks marks' (arrival n h o entry) up (target_of b f.added x) (λ same. both_ways (bytes_eq b h.agent) apart (eq_yes b h.agent (arrival_is n h o entry _ same).2)))) (before.boots x));
        awaited = λ m it. before.awaited m (awaited_before s past b m refl it);
        handed = λ m it. let old = before.handed m it in (old.0, ap (handed_for m) theirs ∙ old.1);
      }

  agents_settled : (agents' : BTreeMap (List ℕ) Entry) → NotedIf agents agents' h.agent (option_map (settled_by n h o c) entry) → (P : List ℕ → Entry → Type 0)
      → ((e : Entry) → entry ≡ Some e → P h.agent (settled_by n h o c e)) → ((a : List ℕ) (f : Entry) → bytes_eq a h.agent ≡ false → get (slice_cmp nat_cmp) agents a ≡ Some f → P a f)
      → (a : List ℕ) (f : Entry) → get (slice_cmp nat_cmp) agents' a ≡ Some f → P a f
  agents_settled agents' noted P here there = by_entry entry refl noted where
    by_entry : (x : Option Entry) → entry ≡ x → NotedIf agents agents' h.agent (option_map (settled_by n h o c) x) → (a : List ℕ) (f : Entry) → get (slice_cmp nat_cmp) agents' a ≡ Some f → P a f
    by_entry (Some e) is noted =
        agent_at agents agents' h.agent (Some (settled_by n h o c e)) noted P (λ f same. subst (λ (x : Entry). P h.agent x) (same_Some _ f same) (here e is)) there
    by_entry None is noted = λ a f at.
        let same : get (slice_cmp nat_cmp) agents' a ≡ get (slice_cmp nat_cmp) agents a = ap (λ (es : List (List ℕ × Entry)). lookup (is_at (slice_cmp nat_cmp a)) es) noted in
        there a f (eq_no a h.agent (λ e. none-some f (sym is ∙ sym kept ∙ ap (get (slice_cmp nat_cmp) agents) (sym e) ∙ sym same ∙ at))) (sym same ∙ at)

  pub handing_settled : (agents' : BTreeMap (List ℕ) Entry) (held' : BTreeMap ℕ Handed) → Calm past s → NotedIf agents agents' h.agent (option_map (settled_by n h o c) entry)
      → Updates nat_cmp held held' n None → IsHanding (H ++ s ∷ []) (s ∷ past) agents' held' marks' drawn made
  handing_settled agents' held' calm noted less = record {
    agents_reach = agents_settled agents' noted (λ a f. Reaches (H ++ s ∷ []) (s ∷ past) marks' drawn a f)
        (λ e is. reaches_its (settled_by n h o c e) (ap (λ x. option_map (settled_by n h o c) x) is) e is) reaches_other;
    releases_are = release_at held held' n None less (λ m x. HasHanded (H ++ s ∷ []) (s ∷ past) m x)
        (ap (λ b. not b && is_unsettled past n) (eq-eqb n n refl))
        (λ m apart. has_handed H past s m _ legal calm refl apart (handing.releases_are m));
    places = λ a f m g at is has.
        release_at held held' n None less (λ m x. x ≡ Some g → f.handed ≡ Some m → has_place marks' (target_of a f.added g.pass.boot) ≡ true)
        (λ none _. absurd (none-some g none))
        (λ m _ held_m it.
        agents_settled agents' noted (λ a f. f.handed ≡ Some m → has_place marks' (target_of a f.added g.pass.boot) ≡ true)
        (λ e is_e has_m.
        let stays = stays_handed o c (reaches_boot n h e) e in
        ap (λ x. has_place marks' (target_of h.agent x g.pass.boot)) stays.added
        ∙ places_kept marks marks' (arrival n h o entry) up _ (handing.places h.agent e m g (kept ∙ is_e) (sym stays.handed ∙ has_m) held_m))
        (λ b k _ at_b has_m. places_kept marks marks' (arrival n h o entry) up _ (handing.places b k m g at_b has_m held_m))
        a f at it)
        m has is;
    marked_drawn = λ t is. by_arrival t is (arrival n h o entry) refl;
    made_is = let same = counted_as is_release s past false refl in let was = handing.made_is in omega arith;
  } where
    by_arrival : (t : Target) → is_marked marks' t ≡ true → (x : Option Target) → arrival n h o entry ≡ x → t.added ≤ drawn
    by_arrival t is None none = handing.marked_drawn t (sym (marks_kept marks marks' (arrival n h o entry) up t (λ same. none-some t (sym none ∙ same))) ∙ is)
    by_arrival t is (Some u) some = elim (same_or_other t u) [
      | inl same ↦
          let it = arrival_is n h o entry u some in
          let le = (handing.agents_reach h.agent it.0 (kept ∙ it.1)).added_drawn in
          let first = ap (λ (x : Target). x.added) same in
          let second = it.3 in
          omega arith
      | inr other ↦ handing.marked_drawn t (sym (marks_kept marks marks' (arrival n h o entry) up t (λ same. other (sym (same_Some _ _ (sym some ∙ same))))) ∙ is)
    ]
