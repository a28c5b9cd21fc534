-- A release is settled: what is kept beside the records stays what they say, and whose share is whose.
use Rattle.std.proofs.Common.{◌≡◌, ℕ, ◌+◌, ◌≤◌, Bool, true, false, cond, List, [], ◌∷◌, ◌++◌, Option, Some, None, refl, ap, sym, ◌∙◌, subst, arith}
use Rattle.std.specs.Prelude.{IfSome}
use Rattle.std.specs.Option.{option_map}
use Rattle.std.specs.Ordering.{nat_cmp}
use Rattle.std.specs.Cmp.Lexicographic.{slice_cmp}
use Rattle.std.specs.BTreeMap.{BTreeMap, get, btree_map_len, Updates}
use Rattle.std.proofs.lemmas.Bool.{both_ways}
use Rattle.std.proofs.lemmas.Option.{same_Some}
use Rattle.kl_quote.specs.declared.evidence.Evidence.{Evidence}
use Rattle.kl_states.specs.declared.outcome.Outcome.{Outcome}
use Rattle.kl_states.specs.declared.outcome.Outcome.TheVariants.{Arrived, Missed, Withdrawn}
use Rattle.kl_appraise.specs.declared.judged.Boot.{Boot}
use Rattle.kl_appraise.specs.Terms.{TermsFields}
use Rattle.kl_notice.specs.Outbox.{OutboxFields}
use Rattle.kl_history.specs.declared.record.Record.{Record}
use Rattle.kl_history.specs.declared.record.Record.TheVariants.{Settled}
use Rattle.kl_history.specs.Records.{History, Past, past_of, Handing, is_unsettled, terms_of, own}
use Rattle.kl_history.specs.States.{is_current, PassedUnder, HasOp}
use Rattle.kl_history.specs.Notices.{with_failure}
use Rattle.kl_agents.specs.declared.entry.Entry.{Entry}
use Rattle.kl_agents.specs.declared.entry.Handed.{Handed}
use Rattle.kl_agents.specs.declared.entry.Opening.{Opening}
use Rattle.kl_agents.specs.declared.reached.Target.{Target}
use Rattle.kl_core.specs.Shares.{ShareFields, evidence_of, IsGivenShare, IsOpenShare}
use Rattle.kl_core.specs.Inner.Keeping.{terms_at, IsBook}
use Rattle.kl_agents.specs.Failing.{failure_of}
use Rattle.kl_core.specs.Inner.Failing.{IsTold}
use Rattle.kl_agents.specs.Reached.{has_place, target_of}
use Rattle.kl_core.specs.Inner.Handing.{evidence_at, HasParts, IsHanded, HasHanded, IsHanding}
use Rattle.kl_agents.specs.Settling.{settled_by, arrival, MarkedIf, only_if, settle_why}
use Rattle.kl_agents.specs.Steps.{NotedIf, is_handed, reaches_boot, op_of}
use Rattle.kl_core.proofs.OneMore.{quiet_settled}
use Rattle.kl_core.proofs.Ours.{NowReached}
use Rattle.kl_core.proofs.Standing.{entry_at, has_op}
use Rattle.kl_core.proofs.Growing.{in_order}
use Rattle.kl_core.proofs.Delivered.{passed_once}
use Rattle.kl_core.proofs.Downfalls.{told_more}
use Rattle.kl_core.proofs.Handing.{last_handed, now_reached, handing_settled}
use Rattle.kl_core.proofs.Holding.{handing_in_order}
use Rattle.kl_core.proofs.Releasing.{book_settled, entries_settled, settle_fails}

-- ---- what is kept of a release
-- of one that is not settled something is kept
pub held_of : (H : History) (past : Past) (n : ℕ) (o : Option Handed) → HasHanded H past n o → is_unsettled past n ≡ true → (h : Handed) × (o ≡ Some h) × IsHanded H past n h
held_of H past n None has is = absurd (both_ways (is_unsettled past n) has is)
held_of H past n (Some h) has is = (h, refl, has)

-- ---- its share
-- a share names the agent, the generation and the poll with which the release was made
pub record Matches (h : Handed) (s : ShareFields) : Type 0 where
  pub agent : h.agent ≡ s.agent
  pub generation : h.generation ≡ s.generation
  pub poll : h.pass.poll ≡ s.poll

pub matches : (H : History) (past : Past) (s : ShareFields) (h : Handed) → IsHanded H past s.number h → IsGivenShare past s → Matches h s
matches H past s h held given =
    let same = same_Some _ _ (sym held.released ∙ given.released) in
    record { agent = ap (λ (x : Handing). x.agent) same; generation = ap (λ (x : Handing). x.generation) same; poll = ap (λ (x : Handing). x.poll) same }

abbrev handing_by : List ℕ → ℕ → ℕ → Handing
handing_by a g p = record { agent = a; generation = g; poll = p }

same_handing : (h : Handed) (s : ShareFields) → Matches h s → handing_by h.agent h.generation h.pass.poll ≡ handing_by s.agent s.generation s.poll
same_handing h s same =
    ap (λ a. handing_by a h.generation h.pass.poll) same.agent ∙ ap (λ g. handing_by s.agent g h.pass.poll) same.generation ∙ ap (λ p. handing_by s.agent s.generation p) same.poll

-- one that matches, and has the parts, is the release's
pub share_of : (H : History) (past : Past) (s : ShareFields) (h : Handed) → IsHanded H past s.number h → Matches h s
    → HasParts (terms_at H h.place) (evidence_at H h.pass.place) s → IsOpenShare past s
share_of H past s h held same parts =
    let placed = subst (λ (o : Option TermsFields). HasParts o (evidence_at H h.pass.place) s) held.sources.place_is parts in
    let it : HasParts (Some held.sources.with) (Some held.sources.passed.0) s = subst (λ (o : Option Evidence). HasParts (Some held.sources.with) o s) held.sources.passed.1 placed in (
      held.unsettled,
      record {
        released = held.released ∙ ap (λ (x : Handing). Some x) (same_handing h s same);
        terms = held.sources.with;
        under = ap (terms_of past) (sym same.generation) ∙ held.sources.named;
        v = it.0;
        contact = it.1;
        evidence = held.sources.passed.0;
        passed = ap (evidence_of past) (sym same.poll) ∙ held.sources.passed.2;
        public = it.2;
      },
    )

pub parts_of : (H : History) (past : Past) (s : ShareFields) (h : Handed) → IsHanded H past s.number h → IsGivenShare past s
    → HasParts (terms_at H h.place) (evidence_at H h.pass.place) s
parts_of H past s h held given =
    let same = matches H past s h held given in
    let terms : given.terms ≡ held.sources.with = same_Some _ _ (sym given.under ∙ ap (terms_of past) (sym same.generation) ∙ held.sources.named) in
    let evidence : given.evidence ≡ held.sources.passed.0 = same_Some _ _ (sym given.passed ∙ ap (evidence_of past) (sym same.poll) ∙ held.sources.passed.2) in
    let parts : HasParts (Some given.terms) (Some given.evidence) s = (given.v, given.contact, given.public) in
    subst (λ (o : Option TermsFields). HasParts o (evidence_at H h.pass.place) s) (ap (λ (t : TermsFields). Some t) terms ∙ sym held.sources.place_is)
    (subst (λ (o : Option Evidence). HasParts (Some given.terms) o s) (ap (λ (e : Evidence). Some e) evidence ∙ sym held.sources.passed.1) parts)

-- ---- a settlement
module _ (H : History) (agents : BTreeMap (List ℕ) Entry) (openings : BTreeMap ℕ Opening) (held : BTreeMap ℕ Handed) (marks : BTreeMap Target Bool) (drawn begun weighs capacity made : ℕ)
    (s : ShareFields) (o : Outcome) (h : Handed)
    (book : IsBook H (past_of H) agents openings drawn begun weighs capacity (btree_map_len held)) (handing : IsHanding H (past_of H) agents held marks drawn made)
    (given : IsGivenShare (past_of H) s) (open_one : IsHanded H (past_of H) s.number h) where
  same : Matches h s
  same = matches H (past_of H) s h open_one given

  -- what is kept of the release is of the same boot
  its_boot : (g : Handed) → IsHanded H (past_of H) s.number g → g.pass.boot ≡ h.pass.boot
  its_boot g other =
      let it = same_Some _ _ (sym other.released ∙ open_one.released) in
      let under = subst (λ (a : List ℕ). PassedUnder g.pass.poll (own (past_of H) a) g.pass.boot) (ap (λ (x : Handing). x.agent) it) other.sources.under in
      passed_once (past_of H) h.agent h.pass.poll g.pass.boot h.pass.boot book.legal
      (subst (λ (p : ℕ). PassedUnder p (own (past_of H) h.agent) g.pass.boot) (ap (λ (x : Handing). x.poll) it) under) open_one.sources.under

  -- there is a place for the mark of the boot that it arrives at
  pub arrival_place : IfSome (arrival s.number h o (get (slice_cmp nat_cmp) agents s.agent)) (λ t. has_place marks t ≡ true)
  arrival_place = by_entry (get (slice_cmp nat_cmp) agents s.agent) refl o where
    kept : (h : Handed) × (get nat_cmp held s.number ≡ Some h) × IsHanded H (past_of H) s.number h
    kept = held_of H (past_of H) s.number (get nat_cmp held s.number) (handing.releases_are s.number) open_one.unsettled

    by_handed : (e : Entry) → get (slice_cmp nat_cmp) agents s.agent ≡ Some e → (b : Bool) → is_handed s.number e ≡ b
        → IfSome (cond b (Some (target_of h.agent e.added h.pass.boot)) None) (λ t. has_place marks t ≡ true)
    by_handed e at false is = tt
    by_handed e at true is =
        ap (λ (a : List ℕ). has_place marks (target_of a e.added h.pass.boot)) same.agent
        ∙ ap (λ (b : Boot). has_place marks (target_of s.agent e.added b)) (sym (its_boot kept.0 kept.2))
        ∙ handing.places s.agent e s.number kept.0 at (last_handed e.handed s.number is) kept.1

    by_entry : (x : Option Entry) → get (slice_cmp nat_cmp) agents s.agent ≡ x → (o : Outcome) → IfSome (arrival s.number h o x) (λ t. has_place marks t ≡ true)
    by_entry (Some e) at Arrived = by_handed e at (is_handed s.number e) refl
    by_entry (Some e) at Missed = tt
    by_entry (Some e) at (Withdrawn w) = tt
    by_entry None at Arrived = tt
    by_entry None at Missed = tt
    by_entry None at (Withdrawn w) = tt

  module _ (now : Bool) (current : now ≡ is_current (own (past_of H) s.agent) s.generation) where
    abbrev r : Record
    r = Settled s.number o now

    its_current : now ≡ is_current (own (past_of H) h.agent) h.generation
    its_current = current ∙ ap (λ (a : List ℕ). is_current (own (past_of H) a) s.generation) (sym same.agent) ∙ ap (is_current (own (past_of H) h.agent)) (sym same.generation)

    reached : (e : Entry) → get (slice_cmp nat_cmp) agents h.agent ≡ Some e → NowReached (own (past_of H) h.agent) s.number (reaches_boot s.number h e) e
    reached e at c k passed =
        now_reached H (past_of H) agents held marks drawn made s.number h handing book.legal open_one e c k at passed
        ((entry_at H (past_of H) h.agent (get (slice_cmp nat_cmp) agents h.agent) e (book.agents_are h.agent) at).says.reached_is k passed)

    abbrev AgentsNoted : BTreeMap (List ℕ) Entry → List ℕ → Type 0
    AgentsNoted agents' a = NotedIf agents agents' a (option_map (settled_by s.number h o now) (get (slice_cmp nat_cmp) agents a))

    -- the state of its agent from then on
    pub settled_op : (agents' : BTreeMap (List ℕ) Entry) → AgentsNoted agents' s.agent → HasOp (own (r ∷ past_of H) s.agent) (option_map op_of (get (slice_cmp nat_cmp) agents' s.agent))
    settled_op agents' noted =
        has_op (H ++ r ∷ []) (r ∷ past_of H) s.agent (get (slice_cmp nat_cmp) agents' s.agent)
        (entries_settled H (past_of H) s.number o now h open_one its_current agents agents' (get (slice_cmp nat_cmp) agents h.agent) book.agents_are refl reached
        (subst (AgentsNoted agents') (sym same.agent) noted) s.agent)

    -- what is kept from then on
    module _ (agents' : BTreeMap (List ℕ) Entry) (held' : BTreeMap ℕ Handed) (marks' : BTreeMap Target Bool) (box box' : OutboxFields) (told : IsTold (past_of H) box openings (btree_map_len held)) where
      abbrev entry_of : List ℕ → Option Entry
      entry_of a = get (slice_cmp nat_cmp) agents a

      abbrev Posts : List ℕ → Type 0
      Posts a = box'.posted ≡ with_failure box.posted (failure_of a (only_if now (option_map (settled_by s.number h o now) (entry_of a))) (settle_why o))

      pub settle_keeps : AgentsNoted agents' s.agent → btree_map_len agents' ≡ btree_map_len agents → Updates nat_cmp held held' s.number None → btree_map_len held' + 1 ≡ btree_map_len held
          → MarkedIf marks marks' (arrival s.number h o (entry_of s.agent)) → Posts s.agent → box.spare ≤ box'.spare + 1
          → IsBook (H ++ r ∷ []) (past_of (H ++ r ∷ [])) agents' openings drawn begun weighs capacity (btree_map_len held')
          × IsTold (past_of (H ++ r ∷ [])) box' openings (btree_map_len held')
          × IsHanding (H ++ r ∷ []) (past_of (H ++ r ∷ [])) agents' held' marks' drawn made
      settle_keeps noted len less fewer up posted spare =
          let noted_its : AgentsNoted agents' h.agent = subst (AgentsNoted agents') (sym same.agent) noted in
          let up_its : MarkedIf marks marks' (arrival s.number h o (entry_of h.agent)) = subst (λ (a : List ℕ). MarkedIf marks marks' (arrival s.number h o (entry_of a))) (sym same.agent) up in
          let posted_its : Posts h.agent = subst Posts (sym same.agent) posted in
          let has = book.agents_are h.agent in
          let kept = book_settled H (past_of H) s.number o now h open_one its_current agents agents' openings drawn begun weighs capacity (btree_map_len held) (btree_map_len held') (entry_of h.agent)
          book refl reached noted_its len fewer in (
            in_order H r agents' openings drawn begun weighs capacity (btree_map_len held') kept,
            told_more H r box box' openings openings (btree_map_len held) (btree_map_len held') _
                (settle_fails H (past_of H) s.number o now h open_one its_current (entry_of h.agent) has reached) told posted_its (omega (arith, fewer, spare, told.room)),
            handing_in_order H r agents' held' marks' drawn made
                (handing_settled H (past_of H) agents held marks marks' drawn made s.number o now h (entry_of h.agent) handing kept.legal open_one refl up_its agents' held'
                (quiet_settled (past_of H) s.number o now).calm noted_its less),
          )
