-- What a book keeps of releases is what the records say.
use Rattle.std.specs.Prelude.{◌≡◌, ℕ, ◌+◌, ◌≤◌, Bool, true, false, List, Option, None, Some, IsSome, slice_get, option_and_then}
use Rattle.std.specs.Ordering.{nat_cmp}
use Rattle.std.specs.Cmp.Lexicographic.{slice_cmp}
use Rattle.std.specs.BTreeMap.{BTreeMap, get}
use Rattle.kl_quote.specs.declared.evidence.Evidence.{Evidence}
use Rattle.kl_appraise.specs.declared.judged.Boot.{Boot}
use Rattle.kl_appraise.specs.Terms.{TermsFields}
use Rattle.kl_history.specs.declared.record.Record.{Record}
use Rattle.kl_history.specs.declared.record.Record.TheVariants.{Verdict, Release}
use Rattle.kl_history.specs.Records.{History, Past, own, handing_of, is_unsettled, terms_of, releases_made}
use Rattle.kl_history.specs.States.{handed_for, PassedUnder, HasReached}
use Rattle.kl_history.specs.Releases.{MayRelease}
use Rattle.kl_agents.specs.declared.entry.Entry.{Entry}
use Rattle.kl_agents.specs.declared.entry.Handed.{Handed}
use Rattle.kl_agents.specs.declared.entry.Passed.{Passed}
use Rattle.kl_agents.specs.declared.reached.Target.{Target}
use Rattle.kl_core.specs.Shares.{ShareFields, evidence_of, IsAwaited}
use Rattle.kl_core.specs.Inner.Keeping.{terms_at, Tells}
use Rattle.kl_agents.specs.Reached.{target_of, has_place, is_marked}

abbrev pub evidence_by : Record → Option Evidence
evidence_by (Verdict p e s v c) = Some e
evidence_by _ = None

-- the evidence of the Verdict at a place
abbrev pub evidence_at : History → ℕ → Option Evidence
evidence_at H place = option_and_then evidence_by (slice_get H place)

-- the Verdict at this place closed the poll
abbrev pub IsPlaced : History → Past → Passed → Type 0
IsPlaced H past k = (e : Evidence) × (evidence_at H k.place ≡ Some e) × (evidence_of past k.poll ≡ Some e)

abbrev pub v_of : TermsFields → Option (List ℕ)
v_of t = t.v

abbrev pub contact_of : TermsFields → List ℕ
contact_of t = t.contact

abbrev pub public_of : Evidence → List ℕ
public_of e = e.public

-- a share has V and the contact of these terms, and the public key of this evidence
abbrev pub HasParts : Option TermsFields → Option Evidence → ShareFields → Type 0
HasParts (Some t) (Some e) s = (t.v ≡ Some s.v) × (t.contact ≡ s.contact) × (e.public ≡ s.public)
HasParts _ _ s = ⊥

-- what a share is taken from: terms that have a V, and the pass of a poll, whose verdict stands at its place and signs its boot
pub record HasSources (H : History) (past : Past) (h : Handed) : Type 0 where
  pub with : TermsFields
  pub place_is : terms_at H h.place ≡ Some with
  pub named : terms_of past h.generation ≡ Some with
  pub has_v : IsSome with.v
  pub passed : IsPlaced H past h.pass
  pub under : PassedUnder h.pass.poll (own past h.agent) h.pass.boot

-- what is kept of a release that is not settled
pub record IsHanded (H : History) (past : Past) (n : ℕ) (h : Handed) : Type 0 where
  pub sources : HasSources H past h
  pub released : handing_of past n ≡ Some (record { agent = h.agent; generation = h.generation; poll = h.pass.poll })
  pub unsettled : is_unsettled past n ≡ true

-- what a release that may be made now is made with
pub record IsReady (H : History) (past : Past) (h : Handed) : Type 0 where
  pub sources : HasSources H past h
  pub rule : MayRelease past (releases_made past + 1) h.agent h.generation h.pass.poll

-- the record of a release that is made with this
abbrev pub release_with : ℕ → Handed → Record
release_with n h = Release n h.agent h.generation h.pass.poll

abbrev pub HasHanded : History → Past → ℕ → Option Handed → Type 0
HasHanded H past n None = is_unsettled past n ≡ false
HasHanded H past n (Some h) = IsHanded H past n h

-- What is kept of an agent says where its pass stands, which boots V has reached, and which release may be awaited.
pub record Reaches (H : History) (past : Past) (marks : BTreeMap Target Bool) (drawn : ℕ) (a : List ℕ) (e : Entry) : Type 0 where
  pub added_drawn : e.added ≤ drawn
  pub pass_placed : (k : Passed) → e.pass ≡ Some k → IsPlaced H past k
  pub boots : (b : Boot) → Tells (is_marked marks (target_of a e.added b)) (HasReached (own past a) b)
  pub awaited : (n : ℕ) → IsAwaited past a n → e.handed ≡ Some n
  pub handed : (n : ℕ) → e.handed ≡ Some n → (p : ℕ) × (handed_for n (own past a) ≡ Some p)

pub record IsHanding (H : History) (past : Past) (of_agents : BTreeMap (List ℕ) Entry) (of_releases : BTreeMap ℕ Handed) (marks : BTreeMap Target Bool) (drawn made : ℕ) : Type 0 where
  pub agents_reach : (a : List ℕ) (e : Entry) → get (slice_cmp nat_cmp) of_agents a ≡ Some e → Reaches H past marks drawn a e
  pub releases_are : (n : ℕ) → HasHanded H past n (get nat_cmp of_releases n)
  -- the boot of an awaited release has a place for its mark
  pub places : (a : List ℕ) (e : Entry) (n : ℕ) (h : Handed) → get (slice_cmp nat_cmp) of_agents a ≡ Some e → e.handed ≡ Some n → get nat_cmp of_releases n ≡ Some h
      → has_place marks (target_of a e.added h.pass.boot) ≡ true
  pub marked_drawn : (t : Target) → is_marked marks t ≡ true → t.added ≤ drawn
  pub made_is : made ≡ releases_made past
