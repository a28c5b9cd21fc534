-- Lists without repeats of exactly the items of which something holds, and how many there are.
use Rattle.std.proofs.Common.{◌≡◌, ℕ, suc, Bool, true, false, not, ◌&&◌, ◌||◌, cond, List, [], ◌∷◌, length, filter, Decides, refl, ap, sym, ◌∙◌, subst}
use Rattle.std.specs.List.{list_any, AllByRecursion, IsDistinct}
use Rattle.std.proofs.lemmas.Bool.{false≢true, or_parts, or_from, cond-true}
use Rattle.kl_history.specs.Laws.{ThereAre}

none_of : (c : Bool) → false ≡ (not c && false)
none_of true = refl
none_of false = refl

left_out : (c l : Bool) → (not c && l) ≡ (not c && (c || l))
left_out true l = refl
left_out false l = refl

left_in : (s c l : Bool) → (s ≡ true → c ≡ false) → (s || (not c && l)) ≡ (not c && (s || l))
left_in true true l apart = absurd (false≢true (sym (apart refl)))
left_in true false l apart = refl
left_in false c l apart = refl

module _ {X : Type 0} (same : X → X → Bool) (decides : (x y : X) → Decides (same x y) (x ≡ y)) where
  same-refl : (x : X) → same x x ≡ true
  same-refl x = (decides x x).1 refl

  other_way : (x y : X) → same x y ≡ false → same y x ≡ false
  other_way x y other = by_case (same y x) refl where
    by_case : (t : Bool) → same y x ≡ t → t ≡ false
    by_case true is = absurd (false≢true (sym other ∙ (decides x y).1 (sym ((decides y x).0 is))))
    by_case false is = refl

  -- an item that a list has not is apart from each that it has
  apart_from : (x : X) (xs : List X) → list_any (same x) xs ≡ false → AllByRecursion (λ y. same x y ≡ false) xs
  apart_from x [] none = tt
  apart_from x (y ∷ xs) none = let parts = or_parts (same x y) (list_any (same x) xs) none in (parts.0, apart_from x xs parts.1)

  not_among : (x : X) (xs : List X) → AllByRecursion (λ y. same x y ≡ false) xs → list_any (same x) xs ≡ false
  not_among x [] all = refl
  not_among x (y ∷ xs) all = or_from (same x y) (list_any (same x) xs) all.0 (not_among x xs all.1)

  pub there_are_none : (holds : X → Bool) → ((x : X) → holds x ≡ false) → ThereAre same holds 0
  unfolding IsDistinct
  there_are_none holds none = ([], tt, λ x. sym (none x), refl)

  pub there_are_same : (holds now : X → Bool) (n : ℕ) → ((x : X) → now x ≡ holds x) → ThereAre same holds n → ThereAre same now n
  there_are_same holds now n alike (xs, apart, exact, len) = (xs, apart, λ x. exact x ∙ sym (alike x), len)

  pub there_is_more : (holds now : X → Bool) (n : ℕ) (new : X) → holds new ≡ false → ((x : X) → now x ≡ (same x new || holds x)) → ThereAre same holds n → ThereAre same now (suc n)
  unfolding IsDistinct
  there_is_more holds now n new was_not is (xs, apart, exact, len) =
      (new ∷ xs, (apart_from new xs (exact new ∙ was_not), apart), λ x. ap (λ b. same x new || b) (exact x) ∙ sym (is x), ap suc len)

  -- the items other than one
  others : X → List X → List X
  others old xs = filter (λ y. not (same y old)) xs

  all_others : (P : X → Type 0) (old : X) (xs : List X) → AllByRecursion P xs → AllByRecursion P (others old xs)
  unfolding others
  all_others P old [] all = all
  all_others P old (y ∷ xs) all = by_case (not (same y old)) (all_others P old xs all.1) where
    by_case : (t : Bool) → AllByRecursion P (filter (λ z. not (same z old)) xs) → AllByRecursion P (cond t (y ∷ filter (λ z. not (same z old)) xs) (filter (λ z. not (same z old)) xs))
    by_case true rest = (all.0, rest)
    by_case false rest = rest

  apart_others : (old : X) (xs : List X) → IsDistinct same xs → IsDistinct same (others old xs)
  unfolding others IsDistinct
  apart_others old [] apart = apart
  apart_others old (y ∷ xs) apart = by_case (not (same y old)) (apart_others old xs apart.1) where
    by_case : (t : Bool) → IsDistinct same (filter (λ z. not (same z old)) xs) → IsDistinct same (cond t (y ∷ filter (λ z. not (same z old)) xs) (filter (λ z. not (same z old)) xs))
    by_case true rest = (all_others (λ z. same y z ≡ false) old xs apart.0, rest)
    by_case false rest = rest

  listed_others : (old x : X) (xs : List X) → list_any (same x) (others old xs) ≡ (not (same x old) && list_any (same x) xs)
  unfolding others
  listed_others old x [] = none_of (same x old)
  listed_others old x (y ∷ xs) = by_case (same y old) refl (listed_others old x xs) where
    by_case : (t : Bool) → same y old ≡ t → list_any (same x) (filter (λ z. not (same z old)) xs) ≡ (not (same x old) && list_any (same x) xs)
        → list_any (same x) (cond (not t) (y ∷ filter (λ z. not (same z old)) xs) (filter (λ z. not (same z old)) xs)) ≡ (not (same x old) && (same x y || list_any (same x) xs))
    by_case true is rest =
        let alike : same x old ≡ same x y = ap (same x) (sym ((decides y old).0 is)) in
        rest ∙ left_out (same x old) (list_any (same x) xs) ∙ ap (λ b. not (same x old) && (b || list_any (same x) xs)) alike
    by_case false is rest =
        let apart : same x y ≡ true → same x old ≡ false = λ at. ap (λ z. same z old) ((decides x y).0 at) ∙ is in
        ap (λ b. same x y || b) rest ∙ left_in (same x y) (same x old) (list_any (same x) xs) apart

  all_left : (old : X) (xs : List X) → list_any (same old) xs ≡ false → others old xs ≡ xs
  unfolding others
  all_left old [] none = refl
  all_left old (y ∷ xs) none =
      let parts = or_parts (same old y) (list_any (same old) xs) none in
      cond-true (not (same y old)) (y ∷ filter (λ z. not (same z old)) xs) _ (ap not (other_way old y parts.0)) ∙ ap (λ l. y ∷ l) (all_left old xs parts.1)

  length-others : (old : X) (xs : List X) → IsDistinct same xs → list_any (same old) xs ≡ true → length xs ≡ suc (length (others old xs))
  unfolding others IsDistinct
  length-others old [] apart has = absurd (false≢true has)
  length-others old (y ∷ xs) apart has = by_case (same y old) refl (length-others old xs apart.1) where
    by_case : (t : Bool) → same y old ≡ t → (list_any (same old) xs ≡ true → length xs ≡ suc (length (filter (λ z. not (same z old)) xs)))
        → suc (length xs) ≡ suc (length (cond (not t) (y ∷ filter (λ z. not (same z old)) xs) (filter (λ z. not (same z old)) xs)))
    by_case true is rest =
        let none = not_among old xs (subst (λ z. AllByRecursion (λ w. same z w ≡ false) xs) ((decides y old).0 is) apart.0) in
        ap (λ l. suc (length l)) (sym (all_left old xs none))
    by_case false is rest = ap suc (rest (ap (λ b. b || list_any (same old) xs) (sym (other_way y old is)) ∙ has))

  pub there_is_less : (holds now : X → Bool) (n : ℕ) (old : X) → holds old ≡ true → ((x : X) → now x ≡ (not (same x old) && holds x)) → ThereAre same holds n
      → (m : ℕ) × (n ≡ suc m) × ThereAre same now m
  there_is_less holds now n old was is (xs, apart, exact, len) = (
    length (others old xs),
    sym len ∙ length-others old xs apart (exact old ∙ was),
    (others old xs, apart_others old xs apart, λ x. listed_others old x xs ∙ ap (λ b. not (same x old) && b) (exact x) ∙ sym (is x), refl),
  )
