-- How many colons a text has.
use Rattle.std.proofs.Common.{◌≡◌, ◌≢◌, ℕ, suc, ◌+◌, ◌<◌, ◌==◌, cond, List, [], ◌∷◌, ◌++◌, length, get_or, refl, sym, subst, ◌∙◌, arith, inl, inr, zero-add}
use Rattle.std.proofs.lemmas.List.Sums.{sum_by-cons, sum_by-append}
use Rattle.std.proofs.lemmas.Bool.{cases_eq, ne_eqb}
use Rattle.kl_quote.specs.QuoteText.{colons}

pub colons-append : (xs ys : List ℕ) → colons (xs ++ ys) ≡ colons xs + colons ys
colons-append xs ys = sum_by-append (λ b. cond (b == 58) 1 0) xs ys

pub colons-cons : (x : ℕ) (xs : List ℕ) → colons (x ∷ xs) ≡ cond (x == 58) 1 0 + colons xs
colons-cons x xs = sum_by-cons (λ b. cond (b == 58) 1 0) x xs

-- a colon
pub colons_after : (xs : List ℕ) → colons (58 ∷ xs) ≡ 1 + colons xs
colons_after xs = colons-cons 58 xs

-- another byte
pub colons_other : (x : ℕ) (xs : List ℕ) → x ≢ 58 → colons (x ∷ xs) ≡ colons xs
colons_other x xs other = colons-cons x xs ∙ rw (ne_eqb x 58 other) (zero-add (colons xs))

-- a text whose every byte is another one
pub colons_none : (xs : List ℕ) → ((i : ℕ) → i < length xs → get_or xs i 0 ≢ 58) → colons xs ≡ 0
colons_none [] h = refl
colons_none (x ∷ xs) h =
    colons_other x xs (h 0 (omega arith)) ∙ colons_none xs (λ i lt. h (suc i) (omega arith))

-- what a text without colons begins with
pub whole_parts : (x : ℕ) (xs : List ℕ) → colons (x ∷ xs) ≡ 0 → (x ≢ 58) × (colons xs ≡ 0)
whole_parts x xs h = elim (cases_eq x 58) [
  | inl same ↦
      let none : colons (58 ∷ xs) ≡ 0 = subst (λ (b : ℕ). colons (b ∷ xs) ≡ 0) same h in
      let one : 0 ≡ 1 + colons xs = sym none ∙ colons_after xs in
      absurd (omega arith)
  | inr other ↦ (other, omega (arith, colons_other x xs other))
]

-- a text is cut at its first colon in one way alone
pub cut_unique : (xs ys us vs : List ℕ) → colons xs ≡ 0 → colons us ≡ 0 → xs ++ (58 ∷ ys) ≡ us ++ (58 ∷ vs) → (xs ≡ us) × (ys ≡ vs)
cut_unique [] ys [] vs h k e = (refl, cc)
cut_unique [] ys (u ∷ us) vs h k e =
    let same : u ≡ 58 = cc in absurd ((whole_parts u us k).0 same)
cut_unique (x ∷ xs) ys [] vs h k e =
    let same : x ≡ 58 = cc in absurd ((whole_parts x xs h).0 same)
cut_unique (x ∷ xs) ys (u ∷ us) vs h k e =
    let head : x ≡ u = cc in
    let tails : xs ++ (58 ∷ ys) ≡ us ++ (58 ∷ vs) = cc in
    let rest = cut_unique xs ys us vs (whole_parts x xs h).1 (whole_parts u us k).1 tails in
    let front : xs ≡ us = rest.0 in
    (cc, rest.1)
