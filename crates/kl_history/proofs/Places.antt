-- A record of a history, and what stands before it, in the history and looked back from its end.
use Rattle.std.proofs.Common.{◌≡◌, ℕ, zero, suc, ◌<◌, [], ◌∷◌, ◌++◌, length, take, drop, reverse, Some, ◌⊎◌, inl, inr, refl, ap, sym, ◌∙◌, subst, arith, append_assoc}
use Rattle.std.specs.Prelude.{slice_get}
use Rattle.std.proofs.lemmas.List.{reverse-append, reverse-reverse, length-reverse, length-take-le, take-append-drop, take-take, take_at}
use Rattle.std.proofs.lemmas.Option.{slice_get_within, same_Some}
use Rattle.kl_history.specs.declared.record.Record.{Record}
use Rattle.kl_history.specs.Records.{History, Past, past_of}
use Rattle.kl_history.specs.Legal.{IsLegalPast, Legal, Row, Fits}

-- the record stands in a past, right behind what was before it
pub data Stands (r : Record) (before : Past) : Past → Type 0 where
  here : Stands r before (r ∷ before)
  earlier : {newer : Record} {past : Past} → Stands r before past → Stands r before (newer ∷ past)

-- what stands in a past with one record more is that, or stands in the past
pub newest_or : {x r : Record} {b past : Past} → Stands r b (x ∷ past) → ((r ≡ x) × (b ≡ past)) ⊎ Stands r b past
newest_or here = inl (refl, refl)
newest_or (earlier s) = inr s

-- what stands before a record stands in the whole past
pub through : {r q : Record} {b c past : Past} → Stands r b past → Stands q c b → Stands q c past
through here inner = earlier inner
through (earlier outer) inner = earlier (through outer inner)

pub below : {r : Record} {b past : Past} → Stands r b past → length b < length past
below here = omega arith
below (earlier s) = let lt = below s in omega (arith, lt)

-- of two records of a past the one is the other, or stands before it, or behind it
pub order : {r q : Record} {b c past : Past} → Stands r b past → Stands q c past → ((r ≡ q) × (b ≡ c)) ⊎ (Stands q c b ⊎ Stands r b c)
order here here = inl (refl, refl)
order here (earlier t) = inr (inl t)
order (earlier s) here = inr (inr s)
order (earlier s) (earlier t) = order s t

-- ---- legality

pub legal_at : {r : Record} {b past : Past} → Stands r b past → IsLegalPast past → IsLegalPast b × Row b r × Fits (r ∷ b)
legal_at here legal = legal
legal_at (earlier s) legal = legal_at s legal.0

legal_behind : (newer past : Past) → IsLegalPast (newer ++ past) → IsLegalPast past
legal_behind [] past legal = legal
legal_behind (r ∷ newer) past legal = legal_behind newer past legal.0

-- ---- a history's places

-- the record at a place, and what stands before it
at_place : (H : History) (i : ℕ) (r : Record) → slice_get H i ≡ Some r → H ≡ take i H ++ r ∷ drop (suc i) H
at_place [] i r is = cc
at_place (x ∷ H) zero r is = ap (λ y. y ∷ H) (same_Some x r is)
at_place (x ∷ H) (suc i) r is = ap (λ rest. x ∷ rest) (at_place H i r is)

-- a list turned round, with an item in it
reverse_around : (xs ys : History) (r : Record) → reverse (xs ++ r ∷ ys) ≡ reverse ys ++ r ∷ reverse xs
reverse_around xs ys r =
    reverse-append xs (r ∷ ys) ∙ ap (λ l. l ++ reverse xs) (reverse-append (r ∷ []) ys) ∙ append_assoc (reverse ys) (r ∷ []) (reverse xs)

amid : (newer : Past) (r : Record) (b : Past) → Stands r b (newer ++ r ∷ b)
amid [] r b = here
amid (x ∷ newer) r b = earlier (amid newer r b)

parted : {r : Record} {b past : Past} → Stands r b past → (newer : Past) × (past ≡ newer ++ r ∷ b)
parted here = ([], refl)
parted (earlier {newer = x} s) = let rest = parted s in (x ∷ rest.0, ap (λ l. x ∷ l) rest.1)

pub stands_at : (H : History) (i : ℕ) (r : Record) → slice_get H i ≡ Some r → Stands r (past_of (take i H)) (past_of H)
stands_at H i r is =
    subst (λ past. Stands r (past_of (take i H)) past) (sym (ap reverse (at_place H i r is) ∙ reverse_around (take i H) (drop (suc i) H) r))
    (amid (reverse (drop (suc i) H)) r (past_of (take i H)))

slice_get-take : (H : History) (i j : ℕ) → j < i → slice_get (take i H) j ≡ slice_get H j
slice_get-take H zero j under = absurd (omega arith)
slice_get-take [] (suc i) j under = refl
slice_get-take (x ∷ H) (suc i) zero under = refl
slice_get-take (x ∷ H) (suc i) (suc j) under = slice_get-take H i j (omega (arith, under))

seam : (xs ys : History) (r : Record) → slice_get (xs ++ r ∷ ys) (length xs) ≡ Some r
seam [] ys r = refl
seam (x ∷ xs) ys r = seam xs ys r

-- the place of what stands in the past is the number of records before it
pub place_of : (H : History) (r : Record) (b : Past) → Stands r b (past_of H) → (slice_get H (length b) ≡ Some r) × (past_of (take (length b) H) ≡ b)
place_of H r b s =
    let parts = parted s in
    let whole : H ≡ reverse b ++ r ∷ reverse parts.0 = sym (reverse-reverse H) ∙ ap reverse parts.1 ∙ reverse_around parts.0 b r in
    let place = length-reverse b in (
      ap (λ l. slice_get l (length b)) whole ∙ ap (λ n. slice_get (reverse b ++ r ∷ reverse parts.0) n) (sym place) ∙ seam (reverse b) (reverse parts.0) r,
      ap (λ l. reverse (take (length b) l)) whole ∙ ap reverse (take_at (reverse b) (r ∷ reverse parts.0) (length b) place) ∙ reverse-reverse b,
    )

pub length-before : (H : History) (i : ℕ) (r : Record) → slice_get H i ≡ Some r → length (past_of (take i H)) ≡ i
length-before H i r is = length-reverse (take i H) ∙ length-take-le i H (let lt = slice_get_within H i r is in omega (arith, lt))

pub some_within : (H : History) (i : ℕ) → i < length H → (r : Record) × (slice_get H i ≡ Some r)
some_within [] i lt = absurd (omega arith)
some_within (x ∷ H) zero lt = (x, refl)
some_within (x ∷ H) (suc i) lt = some_within H i (omega arith)

take-snoc : (H : History) (i : ℕ) (r : Record) → slice_get H i ≡ Some r → take (suc i) H ≡ take i H ++ r ∷ []
take-snoc [] i r is = cc
take-snoc (x ∷ H) zero r is = ap (λ y. y ∷ []) (same_Some x r is)
take-snoc (x ∷ H) (suc i) r is = ap (λ rest. x ∷ rest) (take-snoc H i r is)

-- what stands before the next place
pub before_next : (H : History) (i : ℕ) (r : Record) → slice_get H i ≡ Some r → past_of (take (suc i) H) ≡ r ∷ past_of (take i H)
before_next H i r is = ap reverse (take-snoc H i r is) ∙ reverse-append (take i H) (r ∷ [])

-- what stands at an earlier place stands before a later one
pub stands_between : (H : History) (i j : ℕ) (q : Record) → j < i → slice_get H j ≡ Some q → Stands q (past_of (take j H)) (past_of (take i H))
stands_between H i j q under at =
    let there : slice_get (take i H) j ≡ Some q = slice_get-take H i j under ∙ at in
    subst (λ l. Stands q (past_of l) (past_of (take i H))) (take-take j i H (omega (arith, under))) (stands_at (take i H) j q there)

-- a beginning of a legal history is legal
pub legal_beginning : (H : History) (n : ℕ) → Legal H → Legal (take n H)
legal_beginning H n legal =
    legal_behind (reverse (drop n H)) (past_of (take n H)) (subst IsLegalPast (sym (sym (reverse-append (take n H) (drop n H)) ∙ ap reverse (take-append-drop n H))) legal)
