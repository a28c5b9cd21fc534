-- What stands in a list of names.
use Rattle.std.proofs.Common.{◌≡◌, ◌⊎◌, ℕ, zero, suc, List, [], ◌∷◌, Contains, inl, inr, arith}
use Rattle.std.proofs.lemmas.List.Elements.{Contains-append_right, Contains-append_cases}

one_of : (x y : List ℕ) → Contains (x ∷ []) y → x ≡ y
one_of x y (zero, lt, is) = is
one_of x y (suc k, lt, is) = absurd (omega (arith, lt))

pub none_of : (y : List ℕ) → Contains {X = List ℕ} [] y → ⊥
none_of y (k, lt, is) = omega (arith, lt)

pub first_of : (x y : List ℕ) (xs : List (List ℕ)) → x ≡ y → Contains (x ∷ xs) y
first_of x y xs is = (0, omega arith, is)

pub later_of : (x y : List ℕ) (xs : List (List ℕ)) → Contains xs y → Contains (x ∷ xs) y
later_of x y xs has = Contains-append_right (x ∷ []) xs y has

pub cases_of : (x y : List ℕ) (xs : List (List ℕ)) → Contains (x ∷ xs) y → (x ≡ y) ⊎ Contains xs y
cases_of x y xs has = elim (Contains-append_cases (x ∷ []) xs y has) [ inl first ↦ inl (one_of x y first) | inr later ↦ inr later ]
