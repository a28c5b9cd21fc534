-- The passes and the releases of legal histories: whose evidence a pass is, that a poll passes once, and what the records of an
-- agent say of a release.
use Rattle.std.proofs.Common.{◌≡◌, ℕ, Bool, true, false, cond, List, [], ◌∷◌, Some, inl, inr, refl, ap, sym, ◌∙◌, subst, eq-eqb}
use Rattle.std.proofs.lemmas.Bool.{cond-false, cases_eq, ne_eqb, eqb-true, both_ways}
use Rattle.std.proofs.lemmas.Option.{same_Some, none-some}
use lib.Dec.{eqb}
use Rattle.kl_quote.specs.declared.evidence.Evidence.{Evidence}
use Rattle.kl_states.specs.declared.verdict.Verdict.{Verdict as AnyVerdict}
use Rattle.kl_states.specs.declared.verdict.Verdict.TheVariants.{Pass, Failed, Invalid}
use Rattle.kl_appraise.specs.declared.judged.Boot.{Boot}
use Rattle.kl_history.specs.declared.record.Record.{Record}
use Rattle.kl_history.specs.declared.record.Record.TheVariants.{Install, Begin, Verdict, Restart, Lost, Dropped, Release, Settled, Stop, Remove}
use Rattle.kl_history.specs.Records.{Past, is_open, belongs, own}
use Rattle.kl_history.specs.LookBacks.{Passing, last_pass}
use Rattle.kl_history.specs.Accepted.{SignsBoot}
use Rattle.kl_history.specs.States.{PassedUnder}
use Rattle.kl_history.specs.Legal.{IsLegalPast, Row}
use Rattle.kl_history.proofs.Places.{Stands, here, earlier, newest_or}
use Rattle.kl_history.proofs.Numbers.{stays_closed, closed_once}
use Rattle.kl_history.proofs.Rows.{poll_numbers, is_open-stays, polls_in_order}
use Rattle.kl_history.proofs.OwnRecords.{own-step}
use Rattle.kl_history.proofs.OneStanding.{boot_same}
use Rattle.kl_core.specs.Shares.{evidence_of}
use Rattle.kl_core.specs.Inner.Handing.{evidence_by}

-- ---- passes

-- a Verdict of a poll stands
record PollStands (past : Past) (p : ℕ) (e : Evidence) : Type 0 where
  signed : Bool
  verdict : AnyVerdict
  current : Bool
  behind : Past
  stands : Stands (Verdict p e signed verdict current) behind past

one_more : (r : Record) (past : Past) (p : ℕ) (e : Evidence) → PollStands past p e → PollStands (r ∷ past) p e
one_more r past p e is = record { signed = is.signed; verdict = is.verdict; current = is.current; behind = is.behind; stands = earlier is.stands }

closed_by_it : (past : Past) (p : ℕ) (e : Evidence) → IsLegalPast past → PollStands past p e → is_open past p ≡ false
closed_by_it past p e legal is = is_open-stays past p ∙ stays_closed poll_numbers p (polls_in_order past legal) is.stands (eq-eqb p p refl)

one_evidence : (past : Past) (p : ℕ) (d e : Evidence) → IsLegalPast past → PollStands past p d → PollStands past p e → d ≡ e
one_evidence past p d e legal x y =
    same_Some d e (ap evidence_by (closed_once poll_numbers p (polls_in_order past legal) x.stands y.stands (eq-eqb p p refl) (eq-eqb p p refl)).0)

-- the evidence of a poll is that of a Verdict of it
evidence_stands : (past : Past) (p : ℕ) (e : Evidence) → evidence_of past p ≡ Some e → PollStands past p e
evidence_stands [] p e is = absurd (none-some e is)
evidence_stands (Verdict q d s v c ∷ past) p e is = by_case (eqb p q) refl is (evidence_stands past p e) where
  by_case : (b : Bool) → eqb p q ≡ b → cond b (Some d) (evidence_of past p) ≡ Some e → (evidence_of past p ≡ Some e → PollStands past p e) → PollStands (Verdict q d s v c ∷ past) p e
  by_case true same is rest = record {
    signed = s;
    verdict = v;
    current = c;
    behind = past;
    stands = subst (λ x. Stands x past (Verdict q d s v c ∷ past)) (ap (λ k. Verdict k d s v c) (sym (eqb-true p q same)) ∙ ap (λ x. Verdict p x s v c) (same_Some d e is)) here;
  }
  by_case false other is rest = one_more (Verdict q d s v c) past p e (rest is)
evidence_stands (Install a g t w ∷ past) p e is = one_more _ past p e (evidence_stands past p e is)
evidence_stands (Begin q a g n at from ∷ past) p e is = one_more _ past p e (evidence_stands past p e is)
evidence_stands (Restart q d s c ∷ past) p e is = one_more _ past p e (evidence_stands past p e is)
evidence_stands (Lost q w c ∷ past) p e is = one_more _ past p e (evidence_stands past p e is)
evidence_stands (Dropped q w ∷ past) p e is = one_more _ past p e (evidence_stands past p e is)
evidence_stands (Release n a g q ∷ past) p e is = one_more _ past p e (evidence_stands past p e is)
evidence_stands (Settled n o c ∷ past) p e is = one_more _ past p e (evidence_stands past p e is)
evidence_stands (Stop a ∷ past) p e is = one_more _ past p e (evidence_stands past p e is)
evidence_stands (Remove a ∷ past) p e is = one_more _ past p e (evidence_stands past p e is)

-- which evidence that is stays
apart : (past : Past) (p q : ℕ) (e : Evidence) → IsLegalPast past → PollStands past p e → is_open past q ≡ true → eqb p q ≡ false
apart past p q e legal is opened = elim (cases_eq p q) [
  | inl same ↦ absurd (both_ways (is_open past p) (closed_by_it past p e legal is) (ap (is_open past) same ∙ opened))
  | inr other ↦ ne_eqb p q other
]

evidence_later : (r : Record) (past : Past) (p : ℕ) (e : Evidence) → IsLegalPast past → Row past r → PollStands past p e → evidence_of (r ∷ past) p ≡ evidence_of past p
evidence_later (Verdict q d s v c) past p e legal row is = cond-false (eqb p q) _ _ (apart past p q e legal is row.0.unclosed)
evidence_later (Install a g t w) past p e legal row is = refl
evidence_later (Begin q a g n at from) past p e legal row is = refl
evidence_later (Restart q d s c) past p e legal row is = refl
evidence_later (Lost q w c) past p e legal row is = refl
evidence_later (Dropped q w) past p e legal row is = refl
evidence_later (Release n a g q) past p e legal row is = refl
evidence_later (Settled n o c) past p e legal row is = refl
evidence_later (Stop a) past p e legal row is = refl
evidence_later (Remove a) past p e legal row is = refl

pub evidence_stays : (r : Record) (past : Past) (p : ℕ) (e : Evidence) → IsLegalPast (r ∷ past) → evidence_of past p ≡ Some e → evidence_of (r ∷ past) p ≡ Some e
evidence_stays r past p e legal is = evidence_later r past p e legal.0 legal.1 (evidence_stands past p e is) ∙ is

-- what stands among the records of an agent stands in the past
among : (past : Past) (a : List ℕ) (p : ℕ) (e : Evidence) → PollStands (own past a) p e → PollStands past p e
among [] a p e is = is
among (r ∷ past) a p e is = by_case (belongs past a r) refl is (among past a p e) where
  by_case : (b : Bool) → belongs past a r ≡ b → PollStands (cond b (r ∷ own past a) (own past a)) p e → (PollStands (own past a) p e → PollStands past p e) → PollStands (r ∷ past) p e
  by_case true ours is rest = elim (newest_or is.stands) [
    | inl same ↦ record { signed = is.signed; verdict = is.verdict; current = is.current; behind = past; stands = subst (λ x. Stands x past (r ∷ past)) (sym same.0) here }
    | inr inside ↦ one_more r past p e (rest (record { signed = is.signed; verdict = is.verdict; current = is.current; behind = is.behind; stands = inside }))
  ]
  by_case false theirs is rest = one_more r past p e (rest is)

-- ---- under which boot a poll passed
pub passed_last : (own : Past) (pass : Passing) (boot : Boot) → last_pass own ≡ Some pass → SignsBoot pass.evidence boot → PassedUnder pass.poll own boot
passed_last [] pass boot is signs = absurd (none-some pass is)
passed_last (Install a g t w ∷ past) pass boot is signs = absurd (none-some pass is)
passed_last (Restart q d s true ∷ past) pass boot is signs = absurd (none-some pass is)
passed_last (Restart q d s false ∷ past) pass boot is signs = passed_last past pass boot is signs
passed_last (Verdict q d s (Pass cut) true ∷ past) pass boot is signs =
    let same = same_Some _ pass is in
    inl (sym (ap (λ (x : Passing). x.poll) same), subst (λ (x : Passing). SignsBoot x.evidence boot) (sym same) signs)
passed_last (Verdict q d s (Failed why) true ∷ past) pass boot is signs = absurd (none-some pass is)
passed_last (Verdict q d s (Invalid why) true ∷ past) pass boot is signs = absurd (none-some pass is)
passed_last (Verdict q d s (Pass cut) false ∷ past) pass boot is signs = inr (passed_last past pass boot is signs)
passed_last (Verdict q d s (Failed why) false ∷ past) pass boot is signs = passed_last past pass boot is signs
passed_last (Verdict q d s (Invalid why) false ∷ past) pass boot is signs = passed_last past pass boot is signs
passed_last (Begin q a g n at from ∷ past) pass boot is signs = passed_last past pass boot is signs
passed_last (Lost q w c ∷ past) pass boot is signs = passed_last past pass boot is signs
passed_last (Dropped q w ∷ past) pass boot is signs = passed_last past pass boot is signs
passed_last (Release n a g q ∷ past) pass boot is signs = passed_last past pass boot is signs
passed_last (Settled n o c ∷ past) pass boot is signs = passed_last past pass boot is signs
passed_last (Stop a ∷ past) pass boot is signs = passed_last past pass boot is signs
passed_last (Remove a ∷ past) pass boot is signs = passed_last past pass boot is signs

passed_more : (r : Record) (own : Past) (p : ℕ) (boot : Boot) → PassedUnder p own boot → PassedUnder p (r ∷ own) boot
passed_more (Verdict q d s (Pass cut) c) own p boot is = inr is
passed_more (Verdict q d s (Failed why) c) own p boot is = is
passed_more (Verdict q d s (Invalid why) c) own p boot is = is
passed_more (Install a g t w) own p boot is = is
passed_more (Begin q a g n at from) own p boot is = is
passed_more (Restart q d s c) own p boot is = is
passed_more (Lost q w c) own p boot is = is
passed_more (Dropped q w) own p boot is = is
passed_more (Release n a g q) own p boot is = is
passed_more (Settled n o c) own p boot is = is
passed_more (Stop a) own p boot is = is
passed_more (Remove a) own p boot is = is

pub passed_stays : (r : Record) (past : Past) (a : List ℕ) (p : ℕ) (boot : Boot) → PassedUnder p (own past a) boot → PassedUnder p (own (r ∷ past) a) boot
passed_stays r past a p boot is =
    own-step (λ now then. PassedUnder p then boot → PassedUnder p now boot) r past a (λ _ has. passed_more r (own past a) p boot has) (λ _ has. has) is

passed_under : (r : Record) (own : Past) (p : ℕ) (boot : Boot) → (e : Evidence) × PollStands own p e × SignsBoot e boot → (e : Evidence) × PollStands (r ∷ own) p e × SignsBoot e boot
passed_under r own p boot is = (is.0, one_more r own p is.0 is.1, is.2)

passed_stands : (own : Past) (p : ℕ) (boot : Boot) → PassedUnder p own boot → (e : Evidence) × PollStands own p e × SignsBoot e boot
passed_stands [] p boot is = absurd is
passed_stands (Verdict q d s (Pass cut) c ∷ past) p boot (inl is) = (
  d,
  record { signed = s; verdict = Pass cut; current = c; behind = past; stands = subst (λ k. Stands (Verdict k d s (Pass cut) c) past (Verdict q d s (Pass cut) c ∷ past)) (sym is.0) here },
  is.1,
)
passed_stands (Verdict q d s (Pass cut) c ∷ past) p boot (inr is) = passed_under _ past p boot (passed_stands past p boot is)
passed_stands (Verdict q d s (Failed why) c ∷ past) p boot is = passed_under _ past p boot (passed_stands past p boot is)
passed_stands (Verdict q d s (Invalid why) c ∷ past) p boot is = passed_under _ past p boot (passed_stands past p boot is)
passed_stands (Install a g t w ∷ past) p boot is = passed_under _ past p boot (passed_stands past p boot is)
passed_stands (Begin q a g n at from ∷ past) p boot is = passed_under _ past p boot (passed_stands past p boot is)
passed_stands (Restart q d s c ∷ past) p boot is = passed_under _ past p boot (passed_stands past p boot is)
passed_stands (Lost q w c ∷ past) p boot is = passed_under _ past p boot (passed_stands past p boot is)
passed_stands (Dropped q w ∷ past) p boot is = passed_under _ past p boot (passed_stands past p boot is)
passed_stands (Release n a g q ∷ past) p boot is = passed_under _ past p boot (passed_stands past p boot is)
passed_stands (Settled n o c ∷ past) p boot is = passed_under _ past p boot (passed_stands past p boot is)
passed_stands (Stop a ∷ past) p boot is = passed_under _ past p boot (passed_stands past p boot is)
passed_stands (Remove a ∷ past) p boot is = passed_under _ past p boot (passed_stands past p boot is)

-- a poll passed under one boot at most
pub passed_once : (past : Past) (a : List ℕ) (p : ℕ) (boot other : Boot) → IsLegalPast past → PassedUnder p (own past a) boot → PassedUnder p (own past a) other → boot ≡ other
passed_once past a p boot other legal x y =
    let first = passed_stands (own past a) p boot x in
    let second = passed_stands (own past a) p other y in
    let same = one_evidence past p first.0 second.0 legal (among past a p first.0 first.1) (among past a p second.0 second.1) in
    boot_same first.0 boot other first.2 (subst (λ (e : Evidence). SignsBoot e other) (sym same) second.2)
