-- Numbers, ends and open polls, by the places of a history.
use Rattle.std.proofs.Common.{◌≡◌, ℕ, true, false, not, ◌||◌, eqb, List, [], ◌∷◌, length, Some, inl, inr, refl, ap, sym, ◌∙◌, subst, eqb-true, eq-eqb}
use Rattle.std.proofs.lemmas.Bool.{false≢true, and_parts, cond-true, cond-false, cases_Bool}
use Rattle.std.proofs.lemmas.Option.{same_Some}
use Rattle.kl_history.specs.declared.record.Record.{Record}
use Rattle.kl_history.specs.declared.record.Record.TheVariants.{Install, Begin, Release}
use Rattle.kl_history.specs.Records.{History, Past, past_of, Beginning, start_of, begins, closes, is_open, releases}
use Rattle.kl_history.specs.Legal.{IsLegalPast, Legal, Row, IsBusy}
use Rattle.kl_history.specs.Laws.{StandsAt, before, AreDrawnOnce, IsInstalledAt, IsBegunAt, IsReleasedAt, NumbersAreDrawnOnce, IsDoneOnce, EndsAreOne}
use Rattle.kl_history.proofs.Places.{stands_at, place_of, length-before}
use Rattle.kl_history.proofs.Numbers.{Numbering, drawn, InOrder, drawn_is, drawn_bound, drawn_once, drawn_each, closed_once}
use Rattle.kl_history.proofs.Rows.{installs, generation_numbers, poll_numbers, release_numbers, generations_in_order, polls_in_order, releases_in_order}

-- two places before which the same stands are one
same_place : (H : History) (i j : ℕ) (r q : Record) → StandsAt H i r → StandsAt H j q → before H i ≡ before H j → i ≡ j
same_place H i j r q at also same = sym (length-before H i r at) ∙ ap length same ∙ length-before H j q also

module _ (k : Numbering) (H : History) (ordered : InOrder k (past_of H)) where
  -- which record draws a number, where the places of such records are said in another way
  drawn_at : (IsDrawnAt : ℕ → ℕ → Type 0) → ((n i : ℕ) → IsDrawnAt n i → (r : Record) × StandsAt H i r × (k.draws n r ≡ true))
      → ((n i : ℕ) (r : Record) → StandsAt H i r → k.draws n r ≡ true → IsDrawnAt n i) → AreDrawnOnce (drawn k (past_of H)) IsDrawnAt
  drawn_at IsDrawnAt from to = record {
    each = λ n some bound.
        let found = drawn_each k (past_of H) n ordered some bound in
        let place = place_of H found.0 found.1 found.2 in (
          length found.1,
          to n (length found.1) found.0 place.0 found.3,
          λ j is.
              let other = from n j is in
              let same = drawn_once k n ordered (stands_at H j other.0 other.1) found.2 other.2 found.3 in
              sym (length-before H j other.0 other.1) ∙ ap length same.1,
        );
    none_else = λ n i is. let found = from n i is in drawn_bound k n (stands_at H i found.0 found.1) ordered found.2;
  }

  closed_at : (n : ℕ) → IsDoneOnce H (k.closes n)
  closed_at n i j r q at also shut same =
      same_place H i j r q at also (closed_once k n ordered (stands_at H i r at) (stands_at H j q also) shut same).1

-- ---- which record it is

install_is : (H : History) (g i : ℕ) (r : Record) → StandsAt H i r → installs g r ≡ true → IsInstalledAt H g i
install_is H g i (Install a h t w) at is = (a, t, w, at ∙ ap (λ n. Some (Install a n t w)) (sym (eqb-true g h is)))
install_is H g i _ at is = absurd (false≢true is)

begin_is : (H : History) (p i : ℕ) (r : Record) → StandsAt H i r → begins p r ≡ true → IsBegunAt H p i
begin_is H p i (Begin q a g n at from) stands is = (a, g, n, at, from, stands ∙ ap (λ m. Some (Begin m a g n at from)) (sym (eqb-true p q is)))
begin_is H p i _ stands is = absurd (false≢true is)

release_is : (H : History) (n i : ℕ) (r : Record) → StandsAt H i r → releases n r ≡ true → IsReleasedAt H n i
release_is H n i (Release m a g p) at is = (a, g, p, at ∙ ap (λ k. Some (Release k a g p)) (sym (eqb-true n m is)))
release_is H n i _ at is = absurd (false≢true is)

pub numbers_once : (H : History) → Legal H → NumbersAreDrawnOnce H
numbers_once H legal = record {
  installs = drawn_at generation_numbers H (generations_in_order (past_of H) legal) (IsInstalledAt H)
      (λ g i (a, t, w, at). (Install a g t w, at, eq-eqb g g refl)) (install_is H);
  begins = drawn_at poll_numbers H (polls_in_order (past_of H) legal) (IsBegunAt H)
      (λ p i (a, g, n, at, from, stands). (Begin p a g n at from, stands, eq-eqb p p refl)) (begin_is H);
  releases = drawn_at release_numbers H (releases_in_order (past_of H) legal) (IsReleasedAt H)
      (λ n i (a, g, p, at). (Release n a g p, at, eq-eqb n n refl)) (release_is H);
}

-- ---- open polls

-- a record that does not begin a poll leaves what its Begin names
start_of-else : (r : Record) (past : Past) (p : ℕ) → begins p r ≡ false → start_of (r ∷ past) p ≡ start_of past p
start_of-else (Begin q a g n at from) past p other = cond-false (eqb p q) (Some (record { agent = a; generation = g; nonce = n; at = at; from = from })) (start_of past p) other
start_of-else _ past p other = refl

-- a poll that is open, and that this record does not begin, was open before
open_before : (r : Record) (past : Past) (p : ℕ) → begins p r ≡ false → is_open (r ∷ past) p ≡ true → is_open past p ≡ true
open_before r past p other is =
    ap (λ b. b || is_open past p) (sym other) ∙ (and_parts (not (closes p r)) (begins p r || is_open past p) is).1

busy_before : (r : Record) (past : Past) (a : List ℕ) (g p : ℕ) → begins p r ≡ false → IsBusy (r ∷ past) a g p → IsBusy past a g p
busy_before r past a g p other busy = record {
  started = busy.started;
  began = sym (start_of-else r past p other) ∙ busy.began;
  agent = busy.agent;
  generation = busy.generation;
  unclosed = open_before r past p other busy.unclosed;
}

-- where a poll of an agent and generation begins, no other is open
no_other : (r : Record) (past : Past) (a : List ℕ) (g p q : ℕ) → Row past r → begins p r ≡ true → IsBusy (r ∷ past) a g p → ¬ (IsBusy past a g q)
no_other (Begin m b h n at from) past a g p q row is busy = λ also.
    let s : Beginning = record { agent = b; generation = h; nonce = n; at = at; from = from } in
    let same : s ≡ busy.started = same_Some s busy.started (sym (cond-true (eqb p m) (Some s) (start_of past p) is) ∙ busy.began) in
    let agent : b ≡ a = ap (λ (x : Beginning). x.agent) same ∙ busy.agent in
    let generation : h ≡ g = ap (λ (x : Beginning). x.generation) same ∙ busy.generation in
    row.2 q (subst (λ x. IsBusy past x h q) (sym agent) (subst (λ y. IsBusy past a y q) (sym generation) also))
no_other _ past a g p q row is busy = absurd (false≢true is)

busy_once : (past : Past) (a : List ℕ) (g p q : ℕ) → IsLegalPast past → IsBusy past a g p → IsBusy past a g q → p ≡ q
busy_once [] a g p q legal busy also = absurd (false≢true busy.unclosed)
busy_once (r ∷ past) a g p q legal busy also = elim (cases_Bool (begins p r)) [
  | inl is ↦ elim (cases_Bool (begins q r)) [
    | inl too ↦
        let at = (polls_in_order (r ∷ past) legal).1 in
        (drawn_is poll_numbers r past p at is).0 ∙ sym (drawn_is poll_numbers r past q at too).0
    | inr not_too ↦ absurd (no_other r past a g p q legal.1 is busy (busy_before r past a g q not_too also))
  ]
  | inr is_not ↦ elim (cases_Bool (begins q r)) [
    | inl too ↦ absurd (no_other r past a g q p legal.1 too also (busy_before r past a g p is_not busy))
    | inr not_too ↦ busy_once past a g p q legal.0 (busy_before r past a g p is_not busy) (busy_before r past a g q not_too also)
  ]
]

pub ends_once : (H : History) → Legal H → EndsAreOne H
ends_once H legal = record {
  closed = closed_at poll_numbers H (polls_in_order (past_of H) legal);
  settled = closed_at release_numbers H (releases_in_order (past_of H) legal);
  open_once = λ a g p q. busy_once (past_of H) a g p q legal;
}
