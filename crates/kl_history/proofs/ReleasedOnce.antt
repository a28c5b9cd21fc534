-- A release stands behind the end of each earlier release of its agent, and for another boot than any that V reached.
use Rattle.std.proofs.Common.{◌≡◌, ℕ, ◌<◌, Bool, true, false, not, ◌&&◌, ◌||◌, eqb, List, ◌∷◌, length, Some, inl, inr, refl, ap, sym, ◌∙◌, subst, arith, eqb-true, eq-eqb}
use Rattle.std.specs.Option.{option_map_or}
use Rattle.std.specs.Str.{bytes_eq}
use Rattle.std.proofs.lemmas.Bool.{false≢true, or_parts, cond-true, cond-false, cases_Bool, false_from_ne_true}
use Rattle.std.proofs.lemmas.Option.{same_Some}
use Rattle.kl_quote.specs.declared.evidence.Evidence.{Evidence}
use Rattle.kl_states.specs.declared.outcome.Outcome.{Outcome}
use Rattle.kl_states.specs.declared.outcome.Outcome.TheVariants as outcome
use Rattle.kl_states.specs.declared.verdict.Verdict.{Verdict as AnyVerdict}
use Rattle.kl_states.specs.declared.verdict.Verdict.TheVariants.{Pass}
use Rattle.kl_appraise.specs.declared.judged.Boot.{Boot}
use Rattle.kl_appraise.specs.Terms.{TermsFields}
use Rattle.kl_history.specs.declared.record.InstallWhy.TheVariants.{Add}
use Rattle.kl_history.specs.declared.record.Record.{Record}
use Rattle.kl_history.specs.declared.record.Record.TheVariants.{Install, Verdict, Release, Settled}
use Rattle.kl_history.specs.Records.{History, Past, Handing, handing_of, releases, settles, is_unsettled, is_release_of, belongs, own}
use Rattle.kl_history.specs.LookBacks.{Passing, last_pass}
use Rattle.kl_history.specs.Accepted.{SignsBoot}
use Rattle.kl_history.specs.States.{handed_for, PassedUnder, HasReached, IsDue}
use Rattle.kl_history.specs.Legal.{IsLegalPast, Legal, is_add}
use Rattle.kl_history.specs.Laws.{StandsAt, before, ReachesBy, IsNotAdded, PassesUnder, AreReleasedOnce}
use Rattle.kl_history.proofs.Places.{Stands, here, earlier, through, below, order, legal_at, stands_at, stands_between, length-before}
use Rattle.kl_history.proofs.Numbers.{draws_anew, closed_once}
use Rattle.kl_history.proofs.Rows.{poll_numbers, release_numbers, polls_in_order, releases_in_order}
use Rattle.kl_history.proofs.OwnRecords.{same_bytes, bytes_eq-refl, own-yes, own-step, own_in}
use Rattle.kl_history.proofs.Appraised.{inside_at}
use Rattle.kl_history.proofs.Released.{pass_stands}

-- ---- no Install by Add since

-- no record of a past adds the agent that stands behind this many
NoneAdds : Past → List ℕ → ℕ → Type 0
NoneAdds past a n = (g : ℕ) (t : TermsFields) (c : Past) → Stands (Install a g t Add) c past → ¬ (n < length c)

add_is : (x : Record) (past : Past) (a : List ℕ) → belongs past a x ≡ true → is_add x ≡ true → (g : ℕ) × (t : TermsFields) × (x ≡ Install a g t Add)
add_is (Install b g t Add) past a is add = (g, t, ap (λ c. Install c g t Add) (sym (same_bytes a b is)))
add_is _ past a is add = absurd (false≢true add)

none_before : (x : Record) (past : Past) (a : List ℕ) (n : ℕ) → NoneAdds (x ∷ past) a n → NoneAdds past a n
unfolding NoneAdds
none_before x past a n none = λ g t c s. none g t c (earlier s)

not_add : (x : Record) (past : Past) (a : List ℕ) (n : ℕ) → NoneAdds (x ∷ past) a n → n < length past → belongs past a x ≡ true → is_add x ≡ false
unfolding NoneAdds
not_add x past a n none less is = false_from_ne_true (is_add x) (λ add.
    let found = add_is x past a is add in
    none found.0 found.1 past (subst (λ y. Stands y past (x ∷ past)) found.2 here) less)

-- ---- a release that was made

handed_skip : (m : ℕ) (x : Record) (own : Past) → releases m x ≡ false → is_add x ≡ false → handed_for m (x ∷ own) ≡ handed_for m own
handed_skip m (Install b g t Add) own other not_so = absurd (false≢true (sym not_so))
handed_skip m (Release n b g p) own other not_so = cond-false (eqb m n) (Some p) (handed_for m own) other
handed_skip m _ own other not_so = refl

-- is looked back to, where no Install by Add came since
handed : (m : ℕ) (a : List ℕ) (h q : ℕ) {b past : Past} → IsLegalPast past → Stands (Release m a h q) b past → NoneAdds past a (length b)
    → handed_for m (own past a) ≡ Some q
handed m a h q {b} legal here none =
    ap (handed_for m) (own-yes (Release m a h q) b a (bytes_eq-refl a)) ∙ cond-true (eqb m m) (Some q) (handed_for m (own b a)) (eq-eqb m m refl)
handed m a h q {b} legal (earlier {newer = x} {past = p} s) none =
    let other = draws_anew release_numbers x p m (releases_in_order (x ∷ p) legal) s (eq-eqb m m refl) in
    let inside = handed m a h q legal.0 s (none_before x p a (length b) none) in
    own-step (λ o rest. handed_for m rest ≡ Some q → handed_for m o ≡ Some q) x p a
    (λ is found. handed_skip m x (own p a) other (not_add x p a (length b) none (below s) is) ∙ found) (λ _ found. found) inside

-- names its agent
handing_skip : (x : Record) (past : Past) (m : ℕ) → releases m x ≡ false → handing_of (x ∷ past) m ≡ handing_of past m
handing_skip (Release n a g p) past m other = cond-false (eqb m n) (Some (record { agent = a; generation = g; poll = p })) (handing_of past m) other
handing_skip _ past m other = refl

handing : (m : ℕ) (a : List ℕ) (h q : ℕ) {b past : Past} → IsLegalPast past → Stands (Release m a h q) b past
    → handing_of past m ≡ Some (record { agent = a; generation = h; poll = q })
handing m a h q {b} legal here = cond-true (eqb m m) (Some (record { agent = a; generation = h; poll = q })) (handing_of b m) (eq-eqb m m refl)
handing m a h q legal (earlier {newer = x} {past = p} s) =
    handing_skip x p m (draws_anew release_numbers x p m (releases_in_order (x ∷ p) legal) s (eq-eqb m m refl)) ∙ handing m a h q legal.0 s

release_of : (m : ℕ) (a : List ℕ) (h q : ℕ) {b past : Past} → IsLegalPast past → Stands (Release m a h q) b past → is_release_of past a m ≡ true
release_of m a h q legal s = ap (λ o. option_map_or (λ (y : Handing). bytes_eq a y.agent) o false) (handing m a h q legal s) ∙ bytes_eq-refl a

-- and is open, or was settled since
record SettledSince (m n : ℕ) (past : Past) : Type 0 where
  end : Outcome
  current : Bool
  behind : Past
  stands : Stands (Settled m end current) behind past
  above : n < length behind

settles_is : (m : ℕ) (x : Record) → settles m x ≡ true → (o : Outcome) × (c : Bool) × (x ≡ Settled m o c)
settles_is m (Settled n o c) is = (o, c, ap (λ k. Settled k o c) (sym (eqb-true m n is)))
settles_is m _ is = absurd (false≢true is)

settled_since : (m : ℕ) (a : List ℕ) (h q : ℕ) {b past : Past} → Stands (Release m a h q) b past → is_unsettled past m ≡ false → SettledSince m (length b) past
settled_since m a h q {b} here done = absurd (false≢true (sym done ∙ ap (λ t. t || is_unsettled b m) (eq-eqb m m refl)))
settled_since m a h q {b} (earlier {newer = x} {past = p} s) done = elim (cases_Bool (settles m x)) [
  | inl is ↦
      let found = settles_is m x is in
      record { end = found.0; current = found.1; behind = p; stands = subst (λ y. Stands y p (x ∷ p)) found.2 here; above = below s }
  | inr is_not ↦
      let parts = or_parts (releases m x) (is_unsettled p m) (ap (λ t. not t && (releases m x || is_unsettled p m)) (sym is_not) ∙ done) in
      let rest = settled_since m a h q s parts.1 in
      record { end = rest.end; current = rest.current; behind = rest.behind; stands = earlier rest.stands; above = rest.above }
]

-- of two records of a past the one that has fewer before it stands before the other
under : {r q : Record} {b c past : Past} → Stands r b past → Stands q c past → length b < length c → Stands r b c
under s t less = elim (order s t) [
  | inl same ↦ let len = ap length same.1 in absurd (omega (arith, len, less))
  | inr (inl inside) ↦ let more = below inside in absurd (omega (arith, more, less))
  | inr (inr inside) ↦ inside
]

-- ---- a pass

one_evidence : (p : ℕ) (e f : Evidence) (s u : Bool) (v w : AnyVerdict) (d k : Bool) {b c past : Past} → IsLegalPast past
    → Stands (Verdict p e s v d) b past → Stands (Verdict p f u w k) c past → e ≡ f
one_evidence p e f s u v w d k {past = past} legal one other =
    let same = closed_once poll_numbers p (polls_in_order past legal) one other (eq-eqb p p refl) (eq-eqb p p refl) in
    let r = same.0 in cc

-- the pass behind a release, whose quote signs the boot
record IsSigned (past : Past) (a : List ℕ) (p : ℕ) (boot : Boot) : Type 0 where
  evidence : Evidence
  signed : Bool
  cut : ℕ
  behind : Past
  stands : Stands (Verdict p evidence signed (Pass cut) true) behind past
  own_one : belongs behind a (Verdict p evidence signed (Pass cut) true) ≡ true
  last : last_pass (own past a) ≡ Some (record { poll = p; evidence = evidence })
  signs : SignsBoot evidence boot

is_signed : (H : History) (i n : ℕ) (a : List ℕ) (g p : ℕ) (boot : Boot) → Legal H → StandsAt H i (Release n a g p) → PassesUnder H p boot
    → IsSigned (before H i) a p boot
is_signed H i n a g p boot legal at (k, e, s, cut, c, passed, signs) =
    let release = stands_at H i (Release n a g p) at in
    let row = (legal_at release legal).1 in
    let found = pass_stands (before H i) a row.due.pass row.due.installation row.due.passed row.due.installed in
    let stands : Stands (Verdict p row.due.pass.evidence found.signed (Pass found.cut) true) found.behind (before H i) =
    subst (λ x. Stands (Verdict x row.due.pass.evidence found.signed (Pass found.cut) true) found.behind (before H i)) (sym row.stands) found.stands in
    let there = stands_at H k (Verdict p e s (Pass cut) c) passed in
    let same = one_evidence p e row.due.pass.evidence s found.signed (Pass cut) (Pass found.cut) c true legal there (through release stands) in
    record {
      evidence = row.due.pass.evidence;
      signed = found.signed;
      cut = found.cut;
      behind = found.behind;
      stands = stands;
      own_one = subst (λ x. belongs found.behind a (Verdict x row.due.pass.evidence found.signed (Pass found.cut) true) ≡ true) (sym row.stands) found.own_one;
      last = row.due.passed ∙ ap (λ x. Some (record { poll = x; evidence = row.due.pass.evidence })) (sym row.stands);
      signs = subst (λ x. SignsBoot x boot) same signs;
    }

passed_skip : (x : Record) (own : Past) (p : ℕ) (boot : Boot) → PassedUnder p own boot → PassedUnder p (x ∷ own) boot
passed_skip (Verdict q e s (Pass cut) c) own p boot passed = inr passed
passed_skip _ own p boot passed = passed

passed_in : (p : ℕ) (e : Evidence) (s : Bool) (cut : ℕ) (c : Bool) (boot : Boot) {b own : Past} → Stands (Verdict p e s (Pass cut) c) b own
    → SignsBoot e boot → PassedUnder p own boot
passed_in p e s cut c boot here signs = inl (refl, signs)
passed_in p e s cut c boot (earlier {newer = x} {past = own} t) signs = passed_skip x own p boot (passed_in p e s cut c boot t signs)

-- ---- an arrival

reached_skip : (x : Record) (own : Past) (boot : Boot) → is_add x ≡ false → HasReached own boot → HasReached (x ∷ own) boot
reached_skip (Install b g t Add) own boot not_so reached = absurd (false≢true (sym not_so))
reached_skip (Settled n outcome.Arrived c) own boot not_so reached = inr reached
reached_skip _ own boot not_so reached = reached

reached : (m : ℕ) (c : Bool) (a : List ℕ) (boot : Boot) {v past : Past} → Stands (Settled m outcome.Arrived c) v past → NoneAdds past a (length v)
    → is_release_of v a m ≡ true → ReachesBy m (own v a) boot → HasReached (own past a) boot
reached m c a boot {v} here none is by = subst (λ o. HasReached o boot) (sym (own-yes (Settled m outcome.Arrived c) v a is)) (inl by)
reached m c a boot {v} (earlier {newer = x} {past = p} s) none is by =
    let inside = reached m c a boot s (none_before x p a (length v) none) is by in
    own-step (λ o rest. HasReached rest boot → HasReached o boot) x p a
    (λ belongs_so before_it. reached_skip x (own p a) boot (not_add x p a (length v) none (below s) belongs_so) before_it) (λ _ before_it. before_it) inside

-- ---- two releases

-- no record between two places adds the agent, and so none of the past of the later one
none_adds : (H : History) (j i : ℕ) (r : Record) (a : List ℕ) → StandsAt H i r → IsNotAdded H a j i → NoneAdds (before H i) a j
unfolding NoneAdds
none_adds H j i r a at none = λ g t c s more. let there = inside_at H i r (Install a g t Add) c at s in none (length c) g t more there.2 there.0

none_since : (past : Past) (a : List ℕ) (n m : ℕ) → NoneAdds past a n → n < m → NoneAdds past a m
unfolding NoneAdds
none_since past a n m none less = λ g t c s more. none g t c s (omega (arith, less, more))

none_inside : {r : Record} {v past : Past} (a : List ℕ) (n : ℕ) → Stands r v past → NoneAdds past a n → NoneAdds v a n
unfolding NoneAdds
none_inside a n outer none = λ g t c s. none g t c (through outer s)

-- V has reached a boot under which the poll of an earlier release passed, where that arrived
has_reached : (past b v : Past) (m : ℕ) (a : List ℕ) (h q : ℕ) (c : Bool) (boot : Boot) → IsLegalPast past
    → Stands (Release m a h q) b past → Stands (Settled m outcome.Arrived c) v past → length b < length v → NoneAdds past a (length b)
    → IsSigned b a q boot → HasReached (own past a) boot
has_reached past b v m a h q c boot legal release settled less none pass =
    let inside = under release settled less in
    let legal_then = (legal_at settled legal).0 in
    let made = handed m a h q legal_then inside (none_inside a (length b) settled none) in
    let passed = passed_in q pass.evidence pass.signed pass.cut true boot (own_in a (through inside pass.stands) pass.own_one) pass.signs in
    reached m c a boot settled (none_since past a (length b) (length v) none less) (release_of m a h q legal_then inside) (q, made, passed)

not_due : (own : Past) (p : ℕ) (e : Evidence) (boot : Boot) → IsDue own → last_pass own ≡ Some (record { poll = p; evidence = e })
    → SignsBoot e boot → ¬ (HasReached own boot)
not_due own p e boot due last signs =
    let same = ap (λ (x : Passing). x.evidence) (same_Some (record { poll = p; evidence = e }) due.pass (sym last ∙ due.passed)) in
    due.unreached boot (subst (λ x. SignsBoot x boot) same signs)

pub released_once : (H : History) → Legal H → AreReleasedOnce H
released_once H legal j i m n a h g q p first second less none =
    let release = Release n a g p in
    let row = legal_at (stands_at H i release second) legal in
    let made = stands_between H i j (Release m a h q) less first in
    let place = length-before H j (Release m a h q) first in
    let none_then : NoneAdds (before H i) a (length (before H j)) = subst (NoneAdds (before H i) a) (sym place) (none_adds H j i release a second none) in
    let settled = settled_since m a h q made (row.1.alone m q (handed m a h q row.0 made none_then)) in
    let there = inside_at H i release (Settled m settled.end settled.current) settled.behind second settled.stands in
    record {
      place = length settled.behind;
      end = settled.end;
      current = settled.current;
      settled = there.0;
      later = let above = settled.above in omega (arith, place, above);
      earlier = there.2;
      another_boot = λ arrived boot then now.
          let pass = is_signed H i n a g p boot legal second now in
          let arrival = subst (λ o. Stands (Settled m o settled.current) settled.behind (before H i)) arrived settled.stands in
          not_due (own (before H i) a) p pass.evidence boot row.1.due pass.last pass.signs
          (has_reached (before H i) (before H j) settled.behind m a h q settled.current boot row.0 made arrival settled.above none_then
          (is_signed H j m a h q boot legal first then));
    }
