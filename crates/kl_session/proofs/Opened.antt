-- What is kept of the open polls, and of the open releases, as records come that open and close them.
use Rattle.std.proofs.Common.{◌≡◌, ℕ, ◌<◌, Bool, true, false, not, ◌&&◌, ◌||◌, List, [], ◌∷◌, ◌++◌, map, inl, inr, refl, ap, sym, ◌∙◌, subst, arith, append_assoc, append-nil, reverse, suc, zero}
use Rattle.std.specs.Prelude.{All, Contains}
use Rattle.std.proofs.lemmas.List.{reverse-append, map-append}
use Rattle.std.proofs.lemmas.List.Elements.{All-nil, All-cons, All-head, All-tail, All-append, All-push, All-weaker, All-map, All-contains, Contains-append_left, Contains-append_right, Contains-push, Contains-append_cases}
use Rattle.std.proofs.lemmas.Bool.{eq-eqb, ne_eqb, cases_eq}
use lib.Dec.{eqb}
use Rattle.kl_incr.specs.Kept.{TicketFields}
use Rattle.kl_history.specs.declared.record.Record.{Record}
use Rattle.kl_history.specs.Records.{History, Past, past_of, begins, closes, is_open, releases, settles, is_unsettled}
use Rattle.kl_history.specs.Legal.{Legal}
use Rattle.kl_core.specs.Books.{BookFields, past as past_at, with_more}
use Rattle.kl_core.specs.Tickets.{IsGiven}
use Rattle.kl_core.specs.Shares.{ShareFields, IsGivenShare}
use Rattle.kl_core.proofs.Givens.{given_stands, share_stands}
use Rattle.kl_session.specs.Closing.{IsRising, AreThose}
use Rattle.kl_session.specs.Inner.Tickets.{AreOfOpen, Takes}

-- ---- rising numbers

pub rising_push : (ns : List ℕ) (n : ℕ) → IsRising ns → All (λ m. m < n) ns → IsRising (ns ++ n ∷ [])
rising_push [] n rising below = (All-nil (λ m. n < m), tt)
rising_push (m ∷ ns) n rising below =
    (All-push (λ k. m < k) ns n rising.0 (All-head (λ k. k < n) m ns below), rising_push ns n rising.1 (All-tail (λ k. k < n) m ns below))

all_left : {X : Type 0} (P : X → Type 0) (xs ys : List X) → All P (xs ++ ys) → All P xs
all_left P [] ys all = All-nil P
all_left P (x ∷ xs) ys all = All-cons P x xs (All-head P x (xs ++ ys) all) (all_left P xs ys (All-tail P x (xs ++ ys) all))

pub all_right : {X : Type 0} (P : X → Type 0) (xs ys : List X) → All P (xs ++ ys) → All P ys
all_right P [] ys all = all
all_right P (x ∷ xs) ys all = all_right P xs ys (All-tail P x (xs ++ ys) all)

-- without one of them they rise still, and it is none of the others
pub rising_without : (front back : List ℕ) (n : ℕ) → IsRising (front ++ n ∷ back) → IsRising (front ++ back)
rising_without [] back n rising = rising.1
rising_without (m ∷ front) back n rising = (
  All-append (λ k. m < k) front back (all_left (λ k. m < k) front (n ∷ back) rising.0)
      (All-tail (λ k. m < k) n back (all_right (λ k. m < k) front (n ∷ back) rising.0)),
  rising_without front back n rising.1,
)

others_differ : (front back : List ℕ) (n : ℕ) → IsRising (front ++ n ∷ back) → All (λ m. m ≡ n → ⊥) (front ++ back)
others_differ [] back n rising = All-weaker (λ m. n < m) (λ m. m ≡ n → ⊥) (λ m less e. omega arith) back rising.0
others_differ (m ∷ front) back n rising =
    let less : m < n = All-head (λ k. m < k) n back (all_right (λ k. m < k) front (n ∷ back) rising.0) in
    All-cons (λ k. k ≡ n → ⊥) m (front ++ back) (λ e. omega arith) (others_differ front back n rising.1)

or_true : (b : Bool) → (b || true) ≡ true
or_true true = refl
or_true false = refl

All-unmap : {X Y : Type 0} (P : X → Type 0) (f : Y → X) (ys : List Y) → All P (map f ys) → All (λ y. P (f y)) ys
All-unmap P f [] all = All-nil (λ y. P (f y))
All-unmap P f (y ∷ ys) all = All-cons (λ y. P (f y)) y ys (All-head P (f y) (map f ys) all) (All-unmap P f ys (All-tail P (f y) (map f ys) all))

all_both : {X : Type 0} (P Q R : X → Type 0) → ((x : X) → P x → Q x → R x) → (xs : List X) → All P xs → All Q xs → All R xs
all_both P Q R both [] p q = All-nil R
all_both P Q R both (x ∷ xs) p q = All-cons R x xs (both x (All-head P x xs p) (All-head Q x xs q)) (all_both P Q R both xs (All-tail P x xs p) (All-tail Q x xs q))

only : (n p : ℕ) → Contains (n ∷ []) p → n ≡ p
only n p (zero, less, is) = is
only n p (suc k, less, is) = absurd (omega arith)

behind_head : (n : ℕ) (ns : List ℕ) (p : ℕ) → (p ≡ n → ⊥) → Contains (n ∷ ns) p → Contains ns p
behind_head n ns p ne contains = elim (Contains-append_cases (n ∷ []) ns p contains) [ inl head ↦ absurd (ne (sym (only n p head))) | inr tail ↦ tail ]

-- ---- what is kept, of either kind

-- Its number, which numbers are open, which record opens one and which closes it, and that it is what an open one gave; which
-- stays so whatever comes behind.
pub record Kind (X : Type 0) : Type 1 where
  pub number : X → ℕ
  pub is_open : Past → ℕ → Bool
  pub opens : ℕ → Record → Bool
  pub closes : ℕ → Record → Bool
  pub Gave : Past → X → Type 0
  pub step : (r : Record) (past : Past) (n : ℕ) → is_open (r ∷ past) n ≡ (not (closes n r) && (opens n r || is_open past n))
  pub stands : (H made : History) (x : X) → Legal (H ++ made) → Gave (past_of H) x → Gave (past_of (H ++ made)) x

abbrev pub tickets : Kind TicketFields
tickets = record {
  number = λ t. t.poll;
  is_open = is_open;
  opens = begins;
  closes = closes;
  Gave = IsGiven;
  step = λ r past n. refl;
  stands = λ H made t legal given. given_stands H (H ++ made) t (made, refl) legal given;
}

abbrev pub shares : Kind ShareFields
shares = record {
  number = λ s. s.number;
  is_open = is_unsettled;
  opens = releases;
  closes = settles;
  Gave = IsGivenShare;
  step = λ r past n. refl;
  stands = λ H made s legal given. share_stands H (H ++ made) s (made, refl) legal given;
}

pub behind : (H made : History) → past_of (H ++ made) ≡ past_of made ++ past_of H
behind H made = reverse-append H made

not_both : (b c : Bool) → b ≡ true → (not b && c) ≡ true → ⊥
not_both true c is both = cc
not_both false c is both = cc

-- Of the open ones the first were closed by these records, and these are left.
pub record Ending {X : Type 0} (k : Kind X) (made : ℕ → Record) (first now : BookFields) (all left : List X) : Type 0 where
  pub done : List ℕ
  pub book : now ≡ with_more (map made done) first
  pub numbers : map k.number all ≡ done ++ map k.number left
  pub left_are : AreOfOpen k.number (k.is_open (past_at now)) (k.Gave (past_at now)) left

pub with_none : (b : BookFields) → with_more [] b ≡ b
with_none b = ap (λ (H : History). record { history = H; marks = b.marks }) (append-nil b.history)

-- the last of a list is the first of it turned round
pub turned : {X : Type 0} (xs : List X) (x : X) → reverse (xs ++ x ∷ []) ≡ x ∷ reverse xs
turned xs x = reverse-append xs (x ∷ [])

module _ {X : Type 0} (k : Kind X) where
  -- these are what is kept
  abbrev pub AreOf : Past → List X → Type 0
  AreOf past xs = AreOfOpen k.number (k.is_open past) (k.Gave past) xs

  -- it is what an open one gave
  abbrev pub IsOfOpen : Past → X → Type 0
  IsOfOpen past x = (k.is_open past (k.number x) ≡ true) × k.Gave past x

  -- the record opens none and closes none
  pub record PassesBy (r : Record) : Type 0 where
    pub opens_none : (n : ℕ) → k.opens n r ≡ false
    pub closes_none : (n : ℕ) → k.closes n r ≡ false

  -- the record opens none, and closes this one
  pub record ClosesOne (m : ℕ) (r : Record) : Type 0 where
    pub opens_none : (n : ℕ) → k.opens n r ≡ false
    pub closes_it : (n : ℕ) → k.closes n r ≡ eqb n m

  -- the record opens this one, and closes none
  pub record OpensOne (m : ℕ) (r : Record) : Type 0 where
    pub opens_it : (n : ℕ) → k.opens n r ≡ eqb n m
    pub closes_none : (n : ℕ) → k.closes n r ≡ false

  -- what these records leave open is what was open
  abbrev pub Leaves : List Record → Type 0
  Leaves made = (past : Past) (n : ℕ) → k.is_open (past_of made ++ past) n ≡ k.is_open past n

  pub passes_by : (r : Record) → PassesBy r → (past : Past) (n : ℕ) → k.is_open (r ∷ past) n ≡ k.is_open past n
  passes_by r passes past n =
      k.step r past n ∙ ap (λ b. not b && (k.opens n r || k.is_open past n)) (passes.closes_none n) ∙ ap (λ b. b || k.is_open past n) (passes.opens_none n)

  of_open : (H made : History) (x : X) → Legal (H ++ made) → k.is_open (past_of (H ++ made)) (k.number x) ≡ true → k.Gave (past_of H) x
      → IsOfOpen (past_of (H ++ made)) x
  of_open H made x legal opened gave = (opened, k.stands H made x legal gave)

  -- where the same are open, the same is kept
  pub stays : (H made : History) (xs : List X) → ((n : ℕ) → k.is_open (past_of (H ++ made)) n ≡ k.is_open (past_of H) n) → Legal (H ++ made)
      → AreOf (past_of H) xs → AreOf (past_of (H ++ made)) xs
  stays H made xs same legal are = record {
    rising = are.rising;
    opened = All-weaker (IsOfOpen (past_of H)) (IsOfOpen (past_of (H ++ made))) (λ x is. of_open H made x legal (same (k.number x) ∙ is.0) is.1) xs are.opened;
    all = λ n is. are.all n (sym (same n) ∙ is);
  }

  pub left_alone : (H made : History) (xs : List X) → Leaves made → Legal (H ++ made) → AreOf (past_of H) xs → AreOf (past_of (H ++ made)) xs
  left_alone H made xs leaves legal are = stays H made xs (λ n. ap (λ past. k.is_open past n) (behind H made) ∙ leaves (past_of H) n) legal are

  pub passed_by : (H : History) (r : Record) (xs : List X) → PassesBy r → Legal (H ++ r ∷ []) → AreOf (past_of H) xs → AreOf (past_of (H ++ r ∷ [])) xs
  passed_by H r xs passes legal are = left_alone H (r ∷ []) xs (passes_by r passes) legal are

  -- ---- one more is open

  pub opened : (H : History) (r : Record) (x : X) (xs : List X) → Legal (H ++ r ∷ []) → OpensOne (k.number x) r
      → ((n : ℕ) → k.is_open (past_of H) n ≡ true → n < k.number x) → IsOfOpen (past_of (H ++ r ∷ [])) x
      → AreOf (past_of H) xs → AreOf (past_of (H ++ r ∷ [])) (xs ++ x ∷ [])
  opened H r x xs legal opens below given are =
      let now : (n : ℕ) → k.is_open (past_of (H ++ r ∷ [])) n ≡ (eqb n (k.number x) || k.is_open (past_of H) n) =
      λ n. ap (λ past. k.is_open past n) (behind H (r ∷ [])) ∙ k.step r (past_of H) n
      ∙ ap (λ b. not b && (k.opens n r || k.is_open (past_of H) n)) (opens.closes_none n) ∙ ap (λ b. b || k.is_open (past_of H) n) (opens.opens_it n) in
      let old : (n : ℕ) → k.is_open (past_of H) n ≡ true → k.is_open (past_of (H ++ r ∷ [])) n ≡ true =
      λ n is. now n ∙ ap (λ b. eqb n (k.number x) || b) is ∙ or_true (eqb n (k.number x)) in
      let joined : map k.number (xs ++ x ∷ []) ≡ map k.number xs ++ k.number x ∷ [] = map-append k.number xs (x ∷ []) in
      let less : All (λ m. m < k.number x) (map k.number xs) =
      All-map (λ m. m < k.number x) k.number xs (All-weaker (IsOfOpen (past_of H)) (λ y. k.number y < k.number x) (λ y is. below (k.number y) is.0) xs are.opened) in
      record {
        rising = subst IsRising (sym joined) (rising_push (map k.number xs) (k.number x) are.rising less);
        opened =
            All-push (IsOfOpen (past_of (H ++ r ∷ []))) xs x
            (All-weaker (IsOfOpen (past_of H)) (IsOfOpen (past_of (H ++ r ∷ []))) (λ y is. of_open H (r ∷ []) y legal (old (k.number y) is.0) is.1) xs are.opened) given;
        all = λ n is.
            subst (λ ns. Contains ns n) (sym joined)
            (elim (cases_eq n (k.number x)) [
              | inl e ↦ subst (λ m. Contains (map k.number xs ++ k.number x ∷ []) m) (sym e) (Contains-push (map k.number xs) (k.number x))
              | inr ne ↦ Contains-append_left (map k.number xs) (k.number x ∷ []) n
                  (are.all n (sym (ap (λ b. b || k.is_open (past_of H) n) (ne_eqb n (k.number x) ne)) ∙ (sym (now n) ∙ is)))
            ]);
      }

  -- ---- one is closed

  pub closed : (H : History) (r : Record) (front back : List X) (x : X) → Legal (H ++ r ∷ []) → ClosesOne (k.number x) r
      → AreOf (past_of H) (front ++ x ∷ back) → AreOf (past_of (H ++ r ∷ [])) (front ++ back)
  closed H r front back x legal shuts are =
      let now : (n : ℕ) → k.is_open (past_of (H ++ r ∷ [])) n ≡ (not (eqb n (k.number x)) && k.is_open (past_of H) n) =
      λ n. ap (λ past. k.is_open past n) (behind H (r ∷ [])) ∙ k.step r (past_of H) n
      ∙ ap (λ b. not b && (k.opens n r || k.is_open (past_of H) n)) (shuts.closes_it n)
      ∙ ap (λ b. not (eqb n (k.number x)) && (b || k.is_open (past_of H) n)) (shuts.opens_none n) in
      let rising : IsRising (map k.number front ++ k.number x ∷ map k.number back) = subst IsRising (map-append k.number front (x ∷ back)) are.rising in
      let joined : map k.number (front ++ back) ≡ map k.number front ++ map k.number back = map-append k.number front back in
      let differ : All (λ m. m ≡ k.number x → ⊥) (map k.number front ++ map k.number back) = others_differ (map k.number front) (map k.number back) (k.number x) rising in
      let apart : All (λ y. k.number y ≡ k.number x → ⊥) (front ++ back) = All-unmap (λ m. m ≡ k.number x → ⊥) k.number (front ++ back) (subst (All (λ m. m ≡ k.number x → ⊥)) (sym joined) differ) in
      let others : All (IsOfOpen (past_of H)) (front ++ back) =
      All-append (IsOfOpen (past_of H)) front back (all_left (IsOfOpen (past_of H)) front (x ∷ back) are.opened)
      (All-tail (IsOfOpen (past_of H)) x back (all_right (IsOfOpen (past_of H)) front (x ∷ back) are.opened)) in
      record {
        rising = subst IsRising (sym joined) (rising_without (map k.number front) (map k.number back) (k.number x) rising);
        opened = all_both (λ y. k.number y ≡ k.number x → ⊥) (IsOfOpen (past_of H)) (IsOfOpen (past_of (H ++ r ∷ [])))
            (λ y ne is. of_open H (r ∷ []) y legal (now (k.number y) ∙ (rw (ne_eqb (k.number y) (k.number x) ne, is.0) refl)) is.1) (front ++ back) apart others;
        all = λ n is.
            let split = sym (now n) ∙ is in
            let ne : n ≡ k.number x → ⊥ = λ e. not_both (eqb n (k.number x)) (k.is_open (past_of H) n) (eq-eqb n (k.number x) e) split in
            let was_open : k.is_open (past_of H) n ≡ true = sym (ap (λ b. not b && k.is_open (past_of H) n) (ne_eqb n (k.number x) ne)) ∙ split in
            let at = subst (λ ns. Contains ns n) (map-append k.number front (x ∷ back)) (are.all n was_open) in
            subst (λ ns. Contains ns n) (sym joined)
            (elim (Contains-append_cases (map k.number front) (k.number x ∷ map k.number back) n at) [
              | inl in_front ↦ Contains-append_left (map k.number front) (map k.number back) n in_front
              | inr in_rest ↦ Contains-append_right (map k.number front) (map k.number back) n (behind_head (k.number x) (map k.number back) n ne in_rest)
            ]);
      }

  -- it was among them, so it is what an open one gave
  pub taken_opened : (past : Past) (all others : List X) (x : X) → Takes all x others → AreOf past all → IsOfOpen past x
  taken_opened past all others x taken are =
      All-head (IsOfOpen past) x taken.1 (all_right (IsOfOpen past) taken.0 (x ∷ taken.1) (subst (All (IsOfOpen past)) taken.2 are.opened))

  -- the one that is taken is closed, and the others are kept
  pub closed_taken : (b b' : BookFields) (r : Record) (all others : List X) (x : X) → Takes all x others → ClosesOne (k.number x) r
      → b' ≡ with_more (r ∷ []) b → Legal b'.history → AreOf (past_at b) all → AreOf (past_at b') others
  closed_taken b b' r all others x taken shuts grown legal are =
      rw (grown, taken.3)
      (closed b.history r taken.0 taken.1 x (subst (λ (c : BookFields). Legal c.history) grown legal) shuts (subst (AreOf (past_at b)) taken.2 are))

  pub passed_taken : (b b' : BookFields) (r : Record) (xs : List X) → PassesBy r → b' ≡ with_more (r ∷ []) b → Legal b'.history → AreOf (past_at b) xs
      → AreOf (past_at b') xs
  passed_taken b b' r xs passes grown legal are = rw grown (passed_by b.history r xs passes (subst (λ (c : BookFields). Legal c.history) grown legal) are)

  -- of what none is kept is not open
  pub none_of : (past : Past) (xs : List X) (n : ℕ) → AreOf past xs → All (λ x. k.number x ≡ n → ⊥) xs → k.is_open past n ≡ false
  none_of past xs n are none = none_if (k.is_open past n) refl where
    none_if : (b : Bool) → k.is_open past n ≡ b → k.is_open past n ≡ false
    none_if false is = is
    none_if true is = absurd (All-contains (λ m. m ≡ n → ⊥) (map k.number xs) n (All-map (λ m. m ≡ n → ⊥) k.number xs none) (are.all n is) refl)

  -- ---- the session ends

  -- the numbers of what is kept are those that are open
  pub are_those : (past : Past) (xs : List X) → AreOf past xs → AreThose (k.is_open past) (map k.number xs)
  are_those past xs are =
      let each_open : All (λ n. k.is_open past n ≡ true) (map k.number xs) =
      All-map (λ n. k.is_open past n ≡ true) k.number xs (All-weaker (IsOfOpen past) (λ x. k.is_open past (k.number x) ≡ true) (λ x is. is.0) xs are.opened) in
      record { rising = are.rising; each = λ n. ((λ among. All-contains (λ m. k.is_open past m ≡ true) (map k.number xs) n each_open among), are.all n) }

  module _ (made : ℕ → Record) where
    pub ends_none : (b : BookFields) (xs : List X) → AreOf (past_at b) xs → Ending k made b b xs xs
    ends_none b xs are = record { done = []; book = sym (with_none b); numbers = refl; left_are = are }

    -- one more is closed
    pub ends_more : (first b : BookFields) (all left : List X) (x : X) → ClosesOne (k.number x) (made (k.number x)) → Legal (b.history ++ made (k.number x) ∷ [])
        → Ending k made first b all (x ∷ left) → Ending k made first (with_more (made (k.number x) ∷ []) b) all left
    ends_more first b all left x shuts legal e =
        record {
          done = e.done ++ k.number x ∷ [];
          book =
              ap (with_more (made (k.number x) ∷ [])) e.book
              ∙ ap (λ (H : History). record { history = H; marks = first.marks })
              (append_assoc first.history (map made e.done) (made (k.number x) ∷ []) ∙ ap (λ rs. first.history ++ rs) (sym (map-append made e.done (k.number x ∷ []))));
          numbers = e.numbers ∙ sym (append_assoc e.done (k.number x ∷ []) (map k.number left));
          left_are = closed b.history (made (k.number x)) [] left x legal shuts e.left_are;
        }

    -- all are closed
    pub ends_all : (first b : BookFields) (all : List X) → AreOf (past_at first) all → Ending k made first b all []
        → (numbers : List ℕ) × AreThose (k.is_open (past_at first)) numbers × (b ≡ with_more (map made numbers) first)
    ends_all first b all are e =
        let numbers : map k.number all ≡ e.done = e.numbers ∙ append-nil e.done in
        (map k.number all, are_those (past_at first) all are, e.book ∙ ap (λ ns. with_more (map made ns) first) (sym numbers))

    -- the next one is the last of the row
    pub next_ending : (first b : BookFields) (all row front : List X) (x : X) → row ≡ front ++ x ∷ [] → Ending k made first b all (reverse row)
        → Ending k made first b all (x ∷ reverse front)
    next_ending first b all row front x cut e = subst (Ending k made first b all) (ap reverse cut ∙ turned front x) e

    pub head_opened : (first b : BookFields) (all left : List X) (x : X) → Ending k made first b all (x ∷ left) → IsOfOpen (past_at b) x
    head_opened first b all left x e = All-head (IsOfOpen (past_at b)) x left e.left_are.opened
