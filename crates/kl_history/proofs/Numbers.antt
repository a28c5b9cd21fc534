-- What is numbered from 1 in a history: generations, polls and releases. Each number is drawn once, in order, and what is
-- closed was open and stays closed.
use Rattle.std.proofs.Common.{◌≡◌, ℕ, ◌+◌, ◌≤◌, Bool, true, false, not, ◌&&◌, ◌||◌, cond, eqb, [], ◌∷◌, count_by, inl, inr, ap, sym, ◌∙◌, arith, eqb-true, eq-eqb}
use Rattle.std.specs.Bool.{⊤}
use Rattle.std.proofs.lemmas.Bool.{false≢true, cases_eq, and_parts, or_cases, and_right, or_from, false_from_ne_true}
use Rattle.std.proofs.lemmas.List.Sums.{sum_by-cons}
use Rattle.kl_history.specs.declared.record.Record.{Record}
use Rattle.kl_history.specs.Records.{Past}
use Rattle.kl_history.proofs.Places.{Stands, here, earlier, through, order}

-- what is numbered: which record draws a number and which closes it, and which records draw or close one at all
pub record Numbering : Type 0 where
  pub draws : ℕ → Record → Bool
  pub closes : ℕ → Record → Bool
  pub is_draw : Record → Bool
  pub is_close : Record → Bool

-- a count with one record more
pub counted : (is : Record → Bool) (r : Record) (past : Past) (b : Bool) → is r ≡ b → count_by is (r ∷ past) ≡ cond b 1 0 + count_by is past
counted is r past b e = sum_by-cons (λ x. cond (is x) 1 0) r past ∙ ap (λ t. cond t 1 0 + count_by is past) e

module _ (k : Numbering) where
  -- how many were drawn
  abbrev pub drawn : Past → ℕ
  drawn past = count_by k.is_draw past

  -- it was drawn, and not closed since
  abbrev pub stays_open : Past → ℕ → Bool
  stays_open [] n = false
  stays_open (r ∷ past) n = not (k.closes n r) && (k.draws n r || stays_open past n)

  -- what a record does: it draws the next number, or closes one that is open, or neither
  pub data Does (past : Past) (r : Record) : Type 0 where
    draw : k.is_draw r ≡ true → k.is_close r ≡ false → ((n : ℕ) → k.draws n r ≡ eqb n (drawn past + 1)) → ((n : ℕ) → k.closes n r ≡ false) → Does past r
    close : (m : ℕ) → stays_open past m ≡ true → k.is_draw r ≡ false → k.is_close r ≡ true → ((n : ℕ) → k.draws n r ≡ false) → ((n : ℕ) → k.closes n r ≡ eqb n m) → Does past r
    neither : k.is_draw r ≡ false → k.is_close r ≡ false → ((n : ℕ) → k.draws n r ≡ false) → ((n : ℕ) → k.closes n r ≡ false) → Does past r

  abbrev pub InOrder : Past → Type 0
  InOrder [] = ⊤
  InOrder (r ∷ past) = InOrder past × Does past r

  -- which number a record draws
  pub drawn_is : (r : Record) (past : Past) (n : ℕ) → Does past r → k.draws n r ≡ true → (n ≡ drawn past + 1) × (drawn (r ∷ past) ≡ drawn past + 1)
  drawn_is r past n (draw is _ draws _) drew =
      let more = counted k.is_draw r past true is in
      (eqb-true n (drawn past + 1) (sym (draws n) ∙ drew), omega (arith, more))
  drawn_is r past n (close _ _ _ _ draws _) drew = absurd (false≢true (sym (draws n) ∙ drew))
  drawn_is r past n (neither _ _ draws _) drew = absurd (false≢true (sym (draws n) ∙ drew))

  drawn_grows : (r : Record) (past : Past) → drawn past ≤ drawn (r ∷ past)
  drawn_grows r past = let more = sum_by-cons (λ x. cond (k.is_draw x) 1 0) r past in omega (arith, more)

  -- a number that is drawn is one of those up to the last
  pub drawn_bound : {r : Record} {b past : Past} (n : ℕ) → Stands r b past → InOrder past → k.draws n r ≡ true → (1 ≤ n) × (n ≤ drawn past)
  drawn_bound {r} {b} n here ordered drew = let is = drawn_is r b n ordered.1 drew in omega (arith, is.0, is.1)
  drawn_bound n (earlier {newer = x} {past = p} s) ordered drew =
      let is = drawn_bound n s ordered.0 drew in
      let grows = drawn_grows x p in
      (is.0, omega (arith, is.1, grows))

  pub in_order_at : {r : Record} {b past : Past} → Stands r b past → InOrder past → InOrder b × Does b r
  in_order_at here ordered = ordered
  in_order_at (earlier s) ordered = in_order_at s ordered.0

  -- a number is drawn once
  pub drawn_once : {r q : Record} {b c past : Past} (n : ℕ) → InOrder past → Stands r b past → Stands q c past → k.draws n r ≡ true → k.draws n q ≡ true → (r ≡ q) × (b ≡ c)
  drawn_once {r} {q} {b} {c} {past} n ordered s t drew also = elim (order s t) [
    | inl same ↦ same
    | inr (inl inside) ↦ absurd (not_again s inside drew also)
    | inr (inr inside) ↦ absurd (not_again t inside also drew)
  ]
    where
      not_again : {x y : Record} {d e : Past} → Stands x d past → Stands y e d → k.draws n x ≡ true → k.draws n y ≡ true → ⊥
      not_again {x} {d = d} outer inner first second =
          let at = in_order_at outer ordered in
          let new = drawn_is x d n at.1 first in
          let old = drawn_bound n inner at.0 second in
          omega (arith, new.0, old.1)

  -- and each is
  pub drawn_each : (past : Past) (n : ℕ) → InOrder past → 1 ≤ n → n ≤ drawn past → (r : Record) × (b : Past) × Stands r b past × (k.draws n r ≡ true)
  drawn_each [] n ordered some bound = absurd (omega arith)
  drawn_each (r ∷ past) n ordered some bound = by_case ordered.1 (drawn_each past n ordered.0 some) where
    further : (n ≤ drawn past → (q : Record) × (b : Past) × Stands q b past × (k.draws n q ≡ true)) → n ≤ drawn past
        → (q : Record) × (b : Past) × Stands q b (r ∷ past) × (k.draws n q ≡ true)
    further rest le = let found = rest le in (found.0, found.1, earlier found.2, found.3)

    by_case : Does past r → (n ≤ drawn past → (q : Record) × (b : Past) × Stands q b past × (k.draws n q ≡ true))
        → (q : Record) × (b : Past) × Stands q b (r ∷ past) × (k.draws n q ≡ true)
    by_case (draw is _ draws _) rest =
        let more = counted k.is_draw r past true is in
        elim (cases_eq n (drawn past + 1)) [
          | inl e ↦ (r, past, here, draws n ∙ eq-eqb n (drawn past + 1) e)
          | inr other ↦ further rest (omega (arith, more, other))
        ]
    by_case (close _ _ is _ _ _) rest = let more = counted k.is_draw r past false is in further rest (omega (arith, more))
    by_case (neither is _ _ _) rest = let more = counted k.is_draw r past false is in further rest (omega (arith, more))

  -- what is open was drawn
  pub open_drawn : (past : Past) (n : ℕ) → stays_open past n ≡ true → (r : Record) × (b : Past) × Stands r b past × (k.draws n r ≡ true)
  open_drawn [] n open_now = absurd (false≢true open_now)
  open_drawn (r ∷ past) n open_now =
      let parts = and_parts (not (k.closes n r)) (k.draws n r || stays_open past n) open_now in
      elim (or_cases (k.draws n r) (stays_open past n) parts.1) [
        | inl drew ↦ (r, past, here, drew)
        | inr before ↦ let found = open_drawn past n before in (found.0, found.1, earlier found.2, found.3)
      ]

  -- what is closed is open right before
  pub closed_open : (r : Record) (past : Past) (n : ℕ) → Does past r → k.closes n r ≡ true → stays_open past n ≡ true
  closed_open r past n (draw _ _ _ closes) shut = absurd (false≢true (sym (closes n) ∙ shut))
  closed_open r past n (close m is _ _ _ closes) shut = ap (stays_open past) (eqb-true n m (sym (closes n) ∙ shut)) ∙ is
  closed_open r past n (neither _ _ _ closes) shut = absurd (false≢true (sym (closes n) ∙ shut))

  -- a later record draws another number
  pub draws_anew : {q : Record} {c : Past} (x : Record) (past : Past) (n : ℕ) → InOrder (x ∷ past) → Stands q c past → k.draws n q ≡ true → k.draws n x ≡ false
  draws_anew x past n ordered s drew =
      let old = drawn_bound n s ordered.0 drew in
      false_from_ne_true (k.draws n x) (λ again. let new = drawn_is x past n ordered.1 again in omega (arith, new.0, old.1))

  -- and it stays closed
  pub stays_closed : {q : Record} {c past : Past} (n : ℕ) → InOrder past → Stands q c past → k.closes n q ≡ true → stays_open past n ≡ false
  stays_closed {q} {c} n ordered here shut = ap (λ b. not b && (k.draws n q || stays_open c n)) shut
  stays_closed {q} {c} n ordered (earlier {newer = x} {past = p} s) shut =
      let at = in_order_at s ordered.0 in
      let found = open_drawn c n (closed_open q c n at.1 shut) in
      let not_drawn = draws_anew x p n ordered (through s found.2) found.3 in
      and_right (not (k.closes n x)) (k.draws n x || stays_open p n) (or_from (k.draws n x) (stays_open p n) not_drawn (stays_closed n ordered.0 s shut))

  -- what is closed is closed once
  pub closed_once : {r q : Record} {b c past : Past} (n : ℕ) → InOrder past → Stands r b past → Stands q c past → k.closes n r ≡ true → k.closes n q ≡ true → (r ≡ q) × (b ≡ c)
  closed_once {r} {q} {b} {c} {past} n ordered s t shut also = elim (order s t) [
    | inl same ↦ same
    | inr (inl inside) ↦ absurd (not_again s inside shut also)
    | inr (inr inside) ↦ absurd (not_again t inside also shut)
  ]
    where
      not_again : {x y : Record} {d e : Past} → Stands x d past → Stands y e d → k.closes n x ≡ true → k.closes n y ≡ true → ⊥
      not_again {x} {d = d} outer inner first second =
          let at = in_order_at outer ordered in
          false≢true (sym (stays_closed n at.0 inner second) ∙ closed_open x d n at.1 first)
