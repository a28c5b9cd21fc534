-- The releases of legal histories: what a release names stays, and of an agent one at most is not settled that was made since it
-- was added last.
use Rattle.std.proofs.Common.{◌≡◌, ℕ, ◌≤◌, Bool, true, false, not, cond, ◌||◌, List, [], ◌∷◌, Some, inl, inr, refl, ap, sym, ◌∙◌, subst, eq-eqb}
use Rattle.std.specs.Str.{bytes_eq}
use Rattle.std.proofs.lemmas.Bool.{cond-true, cond-false, cases_Bool, eqb-true, both_ways, false≢true, and_parts}
use Rattle.std.proofs.lemmas.Option.{same_Some, none-some}
use Rattle.std.proofs.lemmas.Slice.Eq.{bytes_eq-Decides}
use lib.Dec.{eqb}
use Rattle.kl_history.specs.declared.record.Record.{Record}
use Rattle.kl_history.specs.declared.record.Record.TheVariants.{Install, Begin, Verdict, Restart, Lost, Dropped, Release, Settled, Stop, Remove}
use Rattle.kl_history.specs.declared.record.InstallWhy.TheVariants.{Add, Replace, Reactivate}
use Rattle.kl_history.specs.Records.{Past, Handing, handing_of, releases, settles, is_unsettled, belongs, own, releases_made}
use Rattle.kl_history.specs.States.{handed_for}
use Rattle.kl_history.specs.Legal.{IsLegalPast}
use Rattle.kl_history.proofs.Places.{Stands, here, earlier}
use Rattle.kl_history.proofs.Numbers.{drawn_is, drawn_bound, draws_anew}
use Rattle.kl_history.proofs.Rows.{release_numbers, releases_in_order}
use Rattle.kl_core.specs.Shares.{IsAwaited}

-- ---- what a release names
record HandingStands (past : Past) (n : ℕ) (h : Handing) : Type 0 where
  behind : Past
  stands : Stands (Release n h.agent h.generation h.poll) behind past

handing_more : (r : Record) (past : Past) (n : ℕ) (h : Handing) → HandingStands past n h → HandingStands (r ∷ past) n h
handing_more r past n h is = record { behind = is.behind; stands = earlier is.stands }

handing_stands : (past : Past) (n : ℕ) (h : Handing) → handing_of past n ≡ Some h → HandingStands past n h
handing_stands [] n h is = absurd (none-some h is)
handing_stands (Release m a g p ∷ past) n h is = by_case (eqb n m) refl is (handing_stands past n h) where
  by_case : (b : Bool) → eqb n m ≡ b → cond b (Some (record { agent = a; generation = g; poll = p })) (handing_of past n) ≡ Some h → (handing_of past n ≡ Some h → HandingStands past n h) → HandingStands (Release m a g p ∷ past) n h
  by_case true same is rest = record {
    behind = past;
    stands = subst (λ x. Stands x past (Release m a g p ∷ past)) (ap (λ k. Release k a g p) (sym (eqb-true n m same)) ∙ ap (λ (x : Handing). Release n x.agent x.generation x.poll) (same_Some _ h is)) here;
  }
  by_case false other is rest = handing_more (Release m a g p) past n h (rest is)
handing_stands (Install a g t w ∷ past) n h is = handing_more _ past n h (handing_stands past n h is)
handing_stands (Begin q a g m at from ∷ past) n h is = handing_more _ past n h (handing_stands past n h is)
handing_stands (Verdict q d s v c ∷ past) n h is = handing_more _ past n h (handing_stands past n h is)
handing_stands (Restart q d s c ∷ past) n h is = handing_more _ past n h (handing_stands past n h is)
handing_stands (Lost q w c ∷ past) n h is = handing_more _ past n h (handing_stands past n h is)
handing_stands (Dropped q w ∷ past) n h is = handing_more _ past n h (handing_stands past n h is)
handing_stands (Settled m o c ∷ past) n h is = handing_more _ past n h (handing_stands past n h is)
handing_stands (Stop a ∷ past) n h is = handing_more _ past n h (handing_stands past n h is)
handing_stands (Remove a ∷ past) n h is = handing_more _ past n h (handing_stands past n h is)

-- the number of a release is one of those up to the last
pub handing_within : (past : Past) (n : ℕ) (h : Handing) → IsLegalPast past → handing_of past n ≡ Some h → n ≤ releases_made past
handing_within past n h legal is = (drawn_bound release_numbers n (handing_stands past n h is).stands (releases_in_order past legal) (eq-eqb n n refl)).1

-- a later record makes another release
pub made_anew : (r : Record) (past : Past) (n : ℕ) (h : Handing) → IsLegalPast (r ∷ past) → handing_of past n ≡ Some h → releases n r ≡ false
made_anew r past n h legal is =
    draws_anew release_numbers r past n (releases_in_order (r ∷ past) legal) (handing_stands past n h is).stands (eq-eqb n n refl)

handing_else : (r : Record) (past : Past) (n : ℕ) → releases n r ≡ false → handing_of (r ∷ past) n ≡ handing_of past n
handing_else (Release m a g p) past n other = cond-false (eqb n m) _ _ other
handing_else (Install a g t w) past n other = refl
handing_else (Begin q a g m at from) past n other = refl
handing_else (Verdict q d s v c) past n other = refl
handing_else (Restart q d s c) past n other = refl
handing_else (Lost q w c) past n other = refl
handing_else (Dropped q w) past n other = refl
handing_else (Settled m o c) past n other = refl
handing_else (Stop a) past n other = refl
handing_else (Remove a) past n other = refl

pub handing_stays : (r : Record) (past : Past) (n : ℕ) (h : Handing) → IsLegalPast (r ∷ past) → handing_of past n ≡ Some h → handing_of (r ∷ past) n ≡ Some h
handing_stays r past n h legal is = handing_else r past n (made_anew r past n h legal is) ∙ is

-- ---- what an agent's records say of a release
pub record IsMade (past : Past) (a : List ℕ) (n p : ℕ) : Type 0 where
  pub handing : Handing
  pub made : handing_of past n ≡ Some handing
  pub agent : handing.agent ≡ a
  pub poll : handing.poll ≡ p

made_more : (r : Record) (past : Past) (a : List ℕ) (n p : ℕ) → IsLegalPast (r ∷ past) → IsMade past a n p → IsMade (r ∷ past) a n p
made_more r past a n p legal is = record { handing = is.handing; made = handing_stays r past n is.handing legal is.made; agent = is.agent; poll = is.poll }

handed_else : (r : Record) (own : Past) (n p : ℕ) → releases n r ≡ false → handed_for n (r ∷ own) ≡ Some p → handed_for n own ≡ Some p
handed_else (Release m a g q) own n p other is = sym (cond-false (eqb n m) _ _ other) ∙ is
handed_else (Install a g t Add) own n p other is = absurd (none-some p is)
handed_else (Install a g t Replace) own n p other is = is
handed_else (Install a g t Reactivate) own n p other is = is
handed_else (Begin q a g m at from) own n p other is = is
handed_else (Verdict q d s v c) own n p other is = is
handed_else (Restart q d s c) own n p other is = is
handed_else (Lost q w c) own n p other is = is
handed_else (Dropped q w) own n p other is = is
handed_else (Settled m o c) own n p other is = is
handed_else (Stop a) own n p other is = is
handed_else (Remove a) own n p other is = is

handed_now : (r : Record) (past : Past) (a : List ℕ) (n p : ℕ) → belongs past a r ≡ true → releases n r ≡ true → handed_for n (r ∷ own past a) ≡ Some p → IsMade (r ∷ past) a n p
handed_now (Release m b g q) past a n p ours is handed = record {
  handing = record { agent = b; generation = g; poll = q };
  made = cond-true (eqb n m) _ _ is;
  agent = sym ((bytes_eq-Decides a b).0 ours);
  poll = same_Some q p (sym (cond-true (eqb n m) _ _ is) ∙ handed);
}
handed_now _ past a n p ours is handed = absurd (false≢true is)

pub handed_made : (past : Past) (a : List ℕ) (n p : ℕ) → IsLegalPast past → handed_for n (own past a) ≡ Some p → IsMade past a n p
handed_made [] a n p legal is = absurd (none-some p is)
handed_made (r ∷ past) a n p legal is = by_case (belongs past a r) refl is (handed_made past a n p legal.0) where
  by_case : (b : Bool) → belongs past a r ≡ b → handed_for n (cond b (r ∷ own past a) (own past a)) ≡ Some p → (handed_for n (own past a) ≡ Some p → IsMade past a n p) → IsMade (r ∷ past) a n p
  by_case false theirs is rest = made_more r past a n p legal (rest is)
  by_case true ours is rest = elim (cases_Bool (releases n r)) [
    | inl now ↦ handed_now r past a n p ours now is
    | inr before ↦ made_more r past a n p legal (rest (handed_else r (own past a) n p before is))
  ]

-- ---- one awaited release
unsettled_before : (r : Record) (past : Past) (n : ℕ) → releases n r ≡ false → is_unsettled (r ∷ past) n ≡ true → is_unsettled past n ≡ true
unsettled_before r past n other is =
    ap (λ b. b || is_unsettled past n) (sym other) ∙ (and_parts (not (settles n r)) (releases n r || is_unsettled past n) is).1

pub awaited_before : (r : Record) (past : Past) (a : List ℕ) (n : ℕ) → releases n r ≡ false → IsAwaited (r ∷ past) a n → IsAwaited past a n
awaited_before r past a n other (p, handed, open_now) = (p, by_case (belongs past a r) handed, unsettled_before r past n other open_now) where
  by_case : (b : Bool) → handed_for n (cond b (r ∷ own past a) (own past a)) ≡ Some p → handed_for n (own past a) ≡ Some p
  by_case true is = handed_else r (own past a) n p other is
  by_case false is = is

-- where an agent's release is made, no other of it is awaited
no_other : (r : Record) (past : Past) (a : List ℕ) (n m : ℕ) → IsLegalPast (r ∷ past) → releases n r ≡ true → IsAwaited (r ∷ past) a n → ¬ (IsAwaited past a m)
no_other (Release k b g q) past a n m legal is (p, handed, _) (o, before, unsettled) = by_case (bytes_eq a b) refl handed where
  by_case : (t : Bool) → bytes_eq a b ≡ t → handed_for n (cond t (Release k b g q ∷ own past a) (own past a)) ≡ Some p → ⊥
  by_case true same handed =
      both_ways (is_unsettled past m) (legal.1.alone m o (subst (λ (x : List ℕ). handed_for m (own past x) ≡ Some o) ((bytes_eq-Decides a b).0 same) before)) unsettled
  by_case false apart handed =
      let made = handed_made past a n p legal.0 handed in
      both_ways (eqb n k) (made_anew (Release k b g q) past n made.handing legal made.made) is
no_other _ past a n m legal is awaited also = absurd (false≢true is)

pub awaited_once : (past : Past) (a : List ℕ) (n m : ℕ) → IsLegalPast past → IsAwaited past a n → IsAwaited past a m → n ≡ m
awaited_once [] a n m legal (p, handed, _) also = absurd (none-some p handed)
awaited_once (r ∷ past) a n m legal awaited also = elim (cases_Bool (releases n r)) [
  | inl is ↦ elim (cases_Bool (releases m r)) [
    | inl too ↦
        let at = (releases_in_order (r ∷ past) legal).1 in
        (drawn_is release_numbers r past n at is).0 ∙ sym (drawn_is release_numbers r past m at too).0
    | inr not_too ↦ absurd (no_other r past a n m legal is awaited (awaited_before r past a m not_too also))
  ]
  | inr is_not ↦ elim (cases_Bool (releases m r)) [
    | inl too ↦ absurd (no_other r past a m n legal too also (awaited_before r past a n is_not awaited))
    | inr not_too ↦ awaited_once past a n m legal.0 (awaited_before r past a n is_not awaited) (awaited_before r past a m not_too also)
  ]
]
