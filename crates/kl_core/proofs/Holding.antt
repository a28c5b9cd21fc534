-- What is kept of releases, over the records in their order, after each record that neither makes nor settles one.
use Rattle.std.proofs.Common.{◌≡◌, ℕ, ◌+◌, ◌<◌, ◌≤◌, Bool, true, false, ◌&&◌, List, [], ◌∷◌, ◌++◌, length, Option, Some, None, ◌⊎◌, inl, inr, refl, ap, sym, ◌∙◌, subst, arith}
use Rattle.std.specs.Prelude.{is_some, is_none, IsSome, IfSome}
use Rattle.std.specs.Option.{option_map, option_map_or}
use Rattle.std.specs.Ordering.{nat_cmp}
use Rattle.std.specs.Str.{bytes_eq}
use Rattle.std.specs.Cmp.Lexicographic.{slice_cmp}
use Rattle.std.specs.BTreeMap.{BTreeMap, get, btree_map_len, Updates, IsUnchanged, is_at}
use Rattle.std.specs.Map.{lookup}
use Rattle.std.proofs.lemmas.Bool.{both_ways, and_parts}
use Rattle.std.proofs.lemmas.Option.{same_Some, none-some}
use Rattle.kl_states.specs.declared.verdict.Verdict.TheVariants.{Pass, Failed, Invalid}
use Rattle.kl_appraise.specs.declared.judged.Boot.{Boot}
use Rattle.kl_appraise.specs.declared.judged.Outcome.TheVariants as finding
use Rattle.kl_appraise.specs.Terms.{TermsFields}
use Rattle.kl_states.specs.declared.op.Op.{Op}
use Rattle.kl_incr.specs.Kept.{TicketFields}
use lib.Dec.{eqb}
use Rattle.kl_history.specs.declared.record.Record.{Record}
use Rattle.kl_history.specs.declared.record.Record.TheVariants.{Install}
use Rattle.kl_history.specs.declared.record.InstallWhy.TheVariants.{Add}
use Rattle.kl_history.specs.Records.{History, Past, past_of, own, is_release, is_settling}
use Rattle.kl_history.specs.LookBacks.{Installed, installed}
use Rattle.kl_history.specs.States.{ended, is_current, HasReached}
use Rattle.kl_history.specs.Legal.{is_add, IsBusy, IsLegalPast}
use Rattle.kl_history.specs.Accepted.{WasAccepted}
use Rattle.kl_history.specs.Notices.{failure}
use Rattle.kl_agents.specs.declared.entry.Entry.{Entry}
use Rattle.kl_agents.specs.declared.entry.Opening.{Opening}
use Rattle.kl_agents.specs.declared.entry.Handed.{Handed}
use Rattle.kl_agents.specs.declared.entry.Passed.{Passed}
use Rattle.kl_agents.specs.declared.reached.Target.{Target}
use Rattle.kl_core.specs.declared.closing.Close.{Close}
use Rattle.kl_core.specs.declared.closing.Close.TheVariants.{Found, Lost, Dropped}
use Rattle.kl_core.specs.Begins.{MayPoll}
use Rattle.kl_core.specs.Tickets.{IsGiven}
use Rattle.kl_core.specs.Inner.Keeping.{Tells, terms_at, IsEntry, HasEntry, IsOpening, IsBook}
use Rattle.kl_core.specs.Inner.Handing.{IsPlaced, IsHanding}
use Rattle.kl_core.specs.Inner.Closing.{close_record, close_weight, close_boot, close_why, after_close, IsCloseOf}
use Rattle.kl_agents.specs.Failing.{failure_of}
use Rattle.kl_agents.specs.Steps.{NotedIf}
use Rattle.kl_agents.specs.Settling.{only_if}
use Rattle.kl_core.proofs.Standing.{entry_at}
use Rattle.kl_core.proofs.Ours.{few_lost}
use Rattle.kl_core.proofs.Ending.{IsCurrentEntry, TellsReached, TellsNow, whose, was_of, note_where, agents_closed, book_close}
use Rattle.kl_core.proofs.Downfalls.{close_fails}
use Rattle.kl_agents.proofs.Texts.{eq_yes}
use Rattle.kl_core.proofs.OneMore.{past_of-snoc}
use Rattle.kl_core.proofs.Givens.{calm_of}
use Rattle.kl_core.proofs.Handing.{Follows, stays, enters, handing_on, placed_now, agent_at}

pub no_less : (n : ℕ) → n ≤ n
no_less n = omega arith

pub one_less : (n : ℕ) → n ≤ n + 1
one_less n = omega arith

-- over the records in their order
pub handing_in_order : (H : History) (r : Record) (agents : BTreeMap (List ℕ) Entry) (held : BTreeMap ℕ Handed) (marks : BTreeMap Target Bool) (drawn made : ℕ)
    → IsHanding (H ++ r ∷ []) (r ∷ past_of H) agents held marks drawn made → IsHanding (H ++ r ∷ []) (past_of (H ++ r ∷ [])) agents held marks drawn made
handing_in_order H r agents held marks drawn made handing = subst (λ (past : Past). IsHanding (H ++ r ∷ []) past agents held marks drawn made) (sym (past_of-snoc H r)) handing

module _ (H : History) (r : Record) (agents agents' : BTreeMap (List ℕ) Entry) (held : BTreeMap ℕ Handed) (marks : BTreeMap Target Bool) (drawn drawn' made : ℕ)
    (handing : IsHanding H (past_of H) agents held marks drawn made) (legal : IsLegalPast (r ∷ past_of H)) (no_make : is_release r ≡ false) (no_settle : is_settling r ≡ false) (grows : drawn ≤ drawn') where
  after : ((a : List ℕ) (f : Entry) → get (slice_cmp nat_cmp) agents' a ≡ Some f → Follows H (past_of H) r agents drawn drawn' a f)
      → IsHanding (H ++ r ∷ []) (past_of (H ++ r ∷ [])) agents' held marks drawn' made
  after follows =
      handing_in_order H r agents' held marks drawn' made
      (handing_on H (past_of H) r agents held marks drawn drawn' made handing legal no_make no_settle grows agents' (calm_of (past_of H) r legal.0 legal.1) follows)

  -- what is kept of others is as before
  same_follows : is_add r ≡ false → (a : List ℕ) (f : Entry) → get (slice_cmp nat_cmp) agents a ≡ Some f → Follows H (past_of H) r agents drawn drawn' a f
  same_follows no_add a f at = stays f at (λ _. no_add) refl refl (λ k is. inl is)

  -- nothing of what is kept of agents changes
  pub handing_same : is_add r ≡ false → ((a : List ℕ) → get (slice_cmp nat_cmp) agents' a ≡ get (slice_cmp nat_cmp) agents a) → IsHanding (H ++ r ∷ []) (past_of (H ++ r ∷ [])) agents' held marks drawn' made
  handing_same no_add same = after (λ a f at. same_follows no_add a f (sym (same a) ∙ at))

  -- it changes of one agent, but for when it was added and what was released to it; its pass is the one that it had, or stands in this record
  pub handing_changed : (a : List ℕ) (e f : Entry) → is_add r ≡ false → get (slice_cmp nat_cmp) agents a ≡ Some e → f.added ≡ e.added → f.handed ≡ e.handed
      → ((k : Passed) → f.pass ≡ Some k → (e.pass ≡ Some k) ⊎ IsPlaced (H ++ r ∷ []) (r ∷ past_of H) k)
      → Updates (slice_cmp nat_cmp) agents agents' a (Some f) → IsHanding (H ++ r ∷ []) (past_of (H ++ r ∷ [])) agents' held marks drawn' made
  handing_changed a e f no_add at added handed passes up =
      after
      (agent_at agents agents' a (Some f) up (Follows H (past_of H) r agents drawn drawn')
      (λ g same. subst (λ (x : Entry). Follows H (past_of H) r agents drawn drawn' a x) (same_Some _ g same) (stays e at (λ _. no_add) added handed passes))
      (λ b g apart at_b. same_follows no_add b g at_b))

  -- an agent is kept no longer
  pub handing_removed : (a : List ℕ) → is_add r ≡ false → Updates (slice_cmp nat_cmp) agents agents' a None → IsHanding (H ++ r ∷ []) (past_of (H ++ r ∷ [])) agents' held marks drawn' made
  handing_removed a no_add up =
      after (agent_at agents agents' a None up (Follows H (past_of H) r agents drawn drawn') (λ g none. absurd (none-some g none)) (λ b g apart at_b. same_follows no_add b g at_b))

-- an agent is added
pub handing_added : (H : History) (a : List ℕ) (g : ℕ) (t : TermsFields) (agents agents' : BTreeMap (List ℕ) Entry) (held : BTreeMap ℕ Handed) (marks : BTreeMap Target Bool) (drawn made : ℕ) (f : Entry)
    → IsHanding H (past_of H) agents held marks drawn made → IsLegalPast (Install a g t Add ∷ past_of H) → f.added ≡ drawn + 1 → f.handed ≡ None → f.pass ≡ None
    → Updates (slice_cmp nat_cmp) agents agents' a (Some f)
    → IsHanding (H ++ Install a g t Add ∷ []) (past_of (H ++ Install a g t Add ∷ [])) agents' held marks (drawn + 1) made
handing_added H a g t agents agents' held marks drawn made f handing legal added handed passed up =
    after H (Install a g t Add) agents agents' held marks drawn (drawn + 1) made handing legal refl refl (omega arith)
    (agent_at agents agents' a (Some f) up (Follows H (past_of H) (Install a g t Add) agents drawn (drawn + 1))
    (λ x same. subst (λ (x : Entry). Follows H (past_of H) (Install a g t Add) agents drawn (drawn + 1) a x) (same_Some _ x same) (enters g t refl added handed passed (omega arith)))
    (λ b x apart at_b. stays x at_b (λ ours. absurd (both_ways (bytes_eq b a) apart ours)) refl refl (λ k is. inl is)))

-- ---- a poll is closed
-- what of an entry a close leaves
record StaysSame (e f : Entry) : Type 0 where
  pub added : f.added ≡ e.added
  pub handed : f.handed ≡ e.handed

stays_same : (p place : ℕ) (reached : Bool) (by : Close) (e : Entry) → StaysSame e (after_close p place reached by e)
stays_same p place reached (Found e s (finding.Verdict (Pass cut)) n) entry = record { added = refl; handed = refl }
stays_same p place reached (Found e s (finding.Verdict (Failed why)) n) entry = record { added = refl; handed = refl }
stays_same p place reached (Found e s (finding.Verdict (Invalid why)) n) entry = record { added = refl; handed = refl }
stays_same p place reached (Found e s finding.Restart n) entry = record { added = refl; handed = refl }
stays_same p place reached (Lost w) entry = record { added = refl; handed = refl }
stays_same p place reached (Dropped w) entry = record { added = refl; handed = refl }

close_adds : (p : ℕ) (by : Close) (now : Bool) → is_add (close_record p by now) ≡ false
close_adds p (Found e s (finding.Verdict v) n) now = refl
close_adds p (Found e s finding.Restart n) now = refl
close_adds p (Lost w) now = refl
close_adds p (Dropped w) now = refl

close_releases : (p : ℕ) (by : Close) (now : Bool) → is_release (close_record p by now) ≡ false
close_releases p (Found e s (finding.Verdict v) n) now = refl
close_releases p (Found e s finding.Restart n) now = refl
close_releases p (Lost w) now = refl
close_releases p (Dropped w) now = refl

close_settles : (p : ℕ) (by : Close) (now : Bool) → is_settling (close_record p by now) ≡ false
close_settles p (Found e s (finding.Verdict v) n) now = refl
close_settles p (Found e s finding.Restart n) now = refl
close_settles p (Lost w) now = refl
close_settles p (Dropped w) now = refl

close_passes : (H : History) (past : Past) (p : ℕ) (reached : Bool) (by : Close) (now : Bool) (e : Entry) (k : Passed) → (after_close p (length H) reached by e).pass ≡ Some k
    → (e.pass ≡ Some k) ⊎ IsPlaced (H ++ close_record p by now ∷ []) (close_record p by now ∷ past) k
close_passes H past p reached (Found e s (finding.Verdict (Pass cut)) (Some n)) now entry k is =
    inr (subst (λ (x : Passed). IsPlaced (H ++ close_record p (Found e s (finding.Verdict (Pass cut)) (Some n)) now ∷ []) (close_record p (Found e s (finding.Verdict (Pass cut)) (Some n)) now ∷ past) x) (same_Some _ k is)
    (placed_now H past e s (Pass cut) now (record { poll = p; place = length H; boot = n.boot }) refl))
close_passes H past p reached (Found e s (finding.Verdict (Pass cut)) None) now entry k is = absurd (none-some k is)
close_passes H past p reached (Found e s (finding.Verdict (Failed why)) n) now entry k is = absurd (none-some k is)
close_passes H past p reached (Found e s (finding.Verdict (Invalid why)) n) now entry k is = absurd (none-some k is)
close_passes H past p reached (Found e s finding.Restart n) now entry k is = absurd (none-some k is)
close_passes H past p reached (Lost w) now entry k is = inl is
close_passes H past p reached (Dropped w) now entry k is = inl is

pub handing_closed : (H : History) (a : List ℕ) (p : ℕ) (reached now : Bool) (by : Close) (agents agents' : BTreeMap (List ℕ) Entry) (held : BTreeMap ℕ Handed) (marks : BTreeMap Target Bool) (drawn made : ℕ)
    (entry : Option Entry) → IsHanding H (past_of H) agents held marks drawn made → IsLegalPast (close_record p by now ∷ past_of H)
    → ((e : Entry) → entry ≡ Some e → get (slice_cmp nat_cmp) agents a ≡ Some e) → NotedIf agents agents' a (option_map (after_close p (length H) reached by) entry)
    → IsHanding (H ++ close_record p by now ∷ []) (past_of (H ++ close_record p by now ∷ [])) agents' held marks drawn made
handing_closed H a p reached now by agents agents' held marks drawn made None handing legal at noted =
    handing_same H (close_record p by now) agents agents' held marks drawn drawn made handing legal (close_releases p by now) (close_settles p by now) (omega arith) (close_adds p by now)
    (λ b. ap (λ (es : List (List ℕ × Entry)). lookup (is_at (slice_cmp nat_cmp b)) es) noted)
handing_closed H a p reached now by agents agents' held marks drawn made (Some e) handing legal at noted =
    let same = stays_same p (length H) reached by e in
    handing_changed H (close_record p by now) agents agents' held marks drawn drawn made handing legal (close_releases p by now) (close_settles p by now) (omega arith)
    a e (after_close p (length H) reached by e) (close_adds p by now) (at e refl) same.added same.handed (close_passes H (past_of H) p reached by now e) noted

-- ---- what is kept of one agent
-- terms that its entry places are those that it is installed with
pub terms_of_entry : (H : History) (past : Past) (a : List ℕ) (e : Entry) → IsEntry H past a e → IsSome (terms_at H e.place)
terms_of_entry H past a e entry = ap is_some entry.place_is

-- of an agent that is installed something is kept
pub kept_of : (H : History) (past : Past) (a : List ℕ) (o : Option Entry) → HasEntry H past a o → is_some (installed (own past a)) ≡ true → IsSome o
kept_of H past a None has is = absurd (both_ways (is_some (installed (own past a))) (ap is_some has) is)
kept_of H past a (Some e) has is = refl

-- what is kept tells what its agent's own records say
pub end_of : (H : History) (past : Past) (a : List ℕ) (e : Entry) → IsEntry H past a e → ended (own past a) ≡ None → e.end ≡ None
end_of H past a e entry live = sym entry.says.end_is ∙ live

-- an agent that may be polled has no open poll of its installed generation
pub idle_of : (H : History) (past : Past) (a : List ℕ) (e : Entry) → IsEntry H past a e → MayPoll past a → (q : ℕ) → ¬ (IsBusy past a e.generation q)
idle_of H past a e entry may q busy =
    let same : e.generation ≡ may.0 = ap (λ (x : Installed). x.generation) (same_Some _ _ (sym entry.says.terms_are ∙ may.2.with)) in
    may.2.idle q (subst (λ (g : ℕ). IsBusy past a g q) same busy)

-- an agent that was put in and taken out again
pub handing_restored : (H : History) (past : Past) (agents with_it without : BTreeMap (List ℕ) Entry) (held : BTreeMap ℕ Handed) (marks : BTreeMap Target Bool) (drawn made : ℕ) (a : List ℕ) (e : Entry)
    → IsHanding H past agents held marks drawn made → Updates (slice_cmp nat_cmp) agents with_it a (Some e) → Updates (slice_cmp nat_cmp) with_it without a None
    → IsHanding H past without held marks drawn made
handing_restored H past agents with_it without held marks drawn made a e handing put took = record {
  agents_reach = λ b f is. handing.agents_reach b f (was b f is);
  releases_are = handing.releases_are;
  places = λ b f n h at is has. handing.places b f n h (was b f at) is has;
  marked_drawn = handing.marked_drawn;
  made_is = handing.made_is;
} where
  was : (b : List ℕ) (f : Entry) → get (slice_cmp nat_cmp) without b ≡ Some f → get (slice_cmp nat_cmp) agents b ≡ Some f
  was =
      agent_at with_it without a None took (λ b f. get (slice_cmp nat_cmp) agents b ≡ Some f) (λ f none. absurd (none-some f none))
      (λ b f apart at.
      agent_at agents with_it a (Some e) put (λ c g. bytes_eq c a ≡ false → get (slice_cmp nat_cmp) agents c ≡ Some g)
      (λ g same ne. absurd (both_ways (bytes_eq a a) ne (eq_yes a a refl)))
      (λ c g _ at_c _. at_c)
      b f at apart)

-- the same agents
pub handing_same_agents : (H : History) (past : Past) (agents agents' : BTreeMap (List ℕ) Entry) (held : BTreeMap ℕ Handed) (marks : BTreeMap Target Bool) (drawn made : ℕ)
    → IsHanding H past agents held marks drawn made → IsUnchanged agents agents' → IsHanding H past agents' held marks drawn made
handing_same_agents H past agents agents' held marks drawn made handing same =
    let at : (a : List ℕ) → get (slice_cmp nat_cmp) agents' a ≡ get (slice_cmp nat_cmp) agents a = λ a. ap (λ (es : List (List ℕ × Entry)). lookup (is_at (slice_cmp nat_cmp a)) es) same in
    record {
      agents_reach = λ a f is. handing.agents_reach a f (sym (at a) ∙ is);
      releases_are = handing.releases_are;
      places = λ a f n h is held_so has. handing.places a f n h (sym (at a) ∙ is) held_so has;
      marked_drawn = handing.marked_drawn;
      made_is = handing.made_is;
    }

-- ---- a close, by whether it is current
none_of : (o : Option Op) → is_none o ≡ true → o ≡ None
none_of None is = refl
none_of (Some op) is = cc

module _ (H : History) (past : Past) (agents : BTreeMap (List ℕ) Entry) (a : List ℕ) (g : ℕ) (now : Bool) (are : (b : List ℕ) → HasEntry H past b (get (slice_cmp nat_cmp) agents b))
    (current : now ≡ is_current (own past a) g) where
  installed_now : now ≡ true → is_some (installed (own past a)) ≡ true
  installed_now is = by_installed (installed (own past a)) refl where
    by_installed : (o : Option Installed) → installed (own past a) ≡ o → is_some (installed (own past a)) ≡ true
    by_installed (Some i) it = ap is_some it
    by_installed None it =
        absurd (both_ways (is_current (own past a) g) (ap (λ o. option_map_or (λ (i : Installed). eqb i.generation g) o false && is_none (ended (own past a))) it) (sym current ∙ is))

  pub live_now : now ≡ true → ended (own past a) ≡ None
  live_now is =
      none_of (ended (own past a)) (and_parts (option_map_or (λ (i : Installed). eqb i.generation g) (installed (own past a)) false) (is_none (ended (own past a))) (sym current ∙ is)).1

  -- there is an entry exactly where it is current
  pub some_now : is_some (only_if now (get (slice_cmp nat_cmp) agents a)) ≡ now
  some_now = by_now now refl where
    by_now : (b : Bool) → now ≡ b → is_some (only_if b (get (slice_cmp nat_cmp) agents a)) ≡ b
    by_now true is = kept_of H past a (get (slice_cmp nat_cmp) agents a) (are a) (installed_now is)
    by_now false is = refl

  -- it is that of the agent
  pub entry_now : (e : Entry) → only_if now (get (slice_cmp nat_cmp) agents a) ≡ Some e → (get (slice_cmp nat_cmp) agents a ≡ Some e) × IsEntry H past a e × (e.end ≡ None)
  entry_now e = by_now now refl where
    by_now : (b : Bool) → now ≡ b → only_if b (get (slice_cmp nat_cmp) agents a) ≡ Some e → (get (slice_cmp nat_cmp) agents a ≡ Some e) × IsEntry H past a e × (e.end ≡ None)
    by_now true is some =
        let entry = entry_at H past a (get (slice_cmp nat_cmp) agents a) e (are a) some in
        (some, entry, end_of H past a e entry (live_now is))
    by_now false is some = absurd (none-some e some)

pub known_now : (H : History) (past : Past) (agents : BTreeMap (List ℕ) Entry) (t : TicketFields) (now : Bool) → ((b : List ℕ) → HasEntry H past b (get (slice_cmp nat_cmp) agents b))
    → now ≡ is_current (own past t.agent) t.generation → IsCurrentEntry H past t (only_if now (get (slice_cmp nat_cmp) agents t.agent))
known_now H past agents t now are current = by_entry (only_if now (get (slice_cmp nat_cmp) agents t.agent)) refl where
  by_entry : (o : Option Entry) → only_if now (get (slice_cmp nat_cmp) agents t.agent) ≡ o → IsCurrentEntry H past t o
  by_entry None is = tt
  by_entry (Some e) is = let it = entry_now H past agents t.agent t.generation now are current e is in (it.1, it.2)

-- it is live, so it has lost fewer than five polls in a row
pub known_few : (H : History) (past : Past) (t : TicketFields) (o : Option Entry) → IsCurrentEntry H past t o → IfSome o (λ e. e.losses < 5)
known_few H past t None known = tt
known_few H past t (Some e) known = few_lost (own past t.agent) known.0.with e known.0.says (known.0.says.end_is ∙ known.1)

tells_boot : (past : Past) (o : Option Boot) (reached : Bool) → IfSome o (λ b. Tells reached (HasReached past b)) → TellsReached past o reached
tells_boot past None reached tells = tt
tells_boot past (Some b) reached tells = tells

-- what a test tells of the boots of an installed agent, it tells of one that is current
pub tells_now : (H : History) (past : Past) (t : TicketFields) (by : Close) (reached : Bool) (o : Option Entry) → IsCurrentEntry H past t o
    → (IsSome (installed (own past t.agent)) → IfSome (close_boot by) (λ b. Tells reached (HasReached (own past t.agent) b))) → TellsNow past t by reached o
tells_now H past t by reached None known tells = tt
tells_now H past t by reached (Some e) known tells = tells_boot (own past t.agent) (close_boot by) reached (tells (ap is_some known.0.says.terms_are))

-- ---- a close, as what it changes is computed
module _ (H : History) (past : Past) (agents : BTreeMap (List ℕ) Entry) (t : TicketFields) (by : Close) (place : ℕ) (reached now : Bool)
    (are : (b : List ℕ) → HasEntry H past b (get (slice_cmp nat_cmp) agents b)) (current : now ≡ is_current (own past t.agent) t.generation) where
  -- what is kept of the agent where it is current, and what from then on
  abbrev pub before : Option Entry
  before = only_if now (get (slice_cmp nat_cmp) agents t.agent)

  abbrev pub now_on : Option Entry
  now_on = option_map (after_close t.poll place reached by) before

  known : IsCurrentEntry H past t before
  known = known_now H past agents t now are current

  some : is_some before ≡ now
  some = some_now H past agents t.agent t.generation now are current

  pub few_now : IfSome before (λ e. e.losses < 5)
  few_now = known_few H past t before known

  pub note_now : IfSome now_on (λ _. IsSome (get (slice_cmp nat_cmp) agents t.agent))
  note_now = note_where H past agents t before t.poll place reached by are known

  module _ (given : IsGiven past t) (holds : IsCloseOf t by) (o : Opening) (opening : IsOpening H past t.poll o)
      (tells : IsSome (installed (own past t.agent)) → IfSome (close_boot by) (λ b. Tells reached (HasReached (own past t.agent) b))) where
    was : WasAccepted t.poll (own past t.agent) opening.accepted.0 opening.accepted.1
    was = was_of H past t o opening (whose H past t o opening given)

    told : TellsNow past t by reached before
    told = tells_now H past t by reached before known tells

    -- the failure that it brings
    pub fails_now : failure past (close_record t.poll by now)
        ≡ failure_of t.agent now_on (close_why by)
    fails_now =
        subst (λ (n : Bool). failure past (close_record t.poll by n) ≡ failure_of t.agent now_on (close_why by)) some
        (close_fails H past t by place reached opening.accepted.0 opening.accepted.1 before given was holds told known)

    -- what is kept of agents
    pub agents_now : (agents' : BTreeMap (List ℕ) Entry) → NotedIf agents agents' t.agent now_on
        → (b : List ℕ) → HasEntry (H ++ close_record t.poll by now ∷ []) (close_record t.poll by now ∷ past) b (get (slice_cmp nat_cmp) agents' b)
    agents_now agents' changed =
        subst (λ (n : Bool). (b : List ℕ) → HasEntry (H ++ close_record t.poll by n ∷ []) (close_record t.poll by n ∷ past) b (get (slice_cmp nat_cmp) agents' b)) some
        (agents_closed H past agents agents' t by place reached opening.accepted.0 opening.accepted.1 before are given was holds told known changed)

    pub book_now : (agents' : BTreeMap (List ℕ) Entry) (openings openings' : BTreeMap ℕ Opening) (drawn begun weighs capacity waiting : ℕ)
        → IsBook H past agents openings drawn begun weighs capacity waiting → close_weight by ≤ 16777216
        → NotedIf agents agents' t.agent now_on
        → btree_map_len agents' ≡ btree_map_len agents → Updates nat_cmp openings openings' t.poll None → btree_map_len openings' + 1 ≡ btree_map_len openings
        → IsBook (H ++ close_record t.poll by now ∷ []) (close_record t.poll by now ∷ past) agents' openings' drawn begun (weighs + close_weight by) capacity waiting
    book_now agents' openings openings' drawn begun weighs capacity waiting book light changed len up less =
        subst
        (λ (n : Bool). IsBook (H ++ close_record t.poll by n ∷ []) (close_record t.poll by n ∷ past) agents' openings' drawn begun (weighs + close_weight by) capacity waiting)
        some
        (book_close H past agents agents' openings openings' drawn begun weighs capacity waiting t by place reached o before book given opening (whose H past t o opening given) holds told light
        (some ∙ current) known changed len up less)
