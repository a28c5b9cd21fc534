-- Names of agents, compared.
use Rattle.std.proofs.Common.{◌≡◌, ℕ, Bool, true, false, List, ◌⊎◌, inl, inr, refl}
use Rattle.std.specs.Bool.{Decides}
use Rattle.std.specs.Str.{bytes_eq}
use Rattle.std.proofs.lemmas.Bool.{both_ways}
use Rattle.std.proofs.lemmas.Slice.Eq.{bytes_eq-Decides}

decided : (b : Bool) (P : Type 0) → Decides b P → ((b ≡ true) × P) ⊎ ((b ≡ false) × (P → ⊥))
decided true P is = inl (refl, is.0 refl)
decided false P is = inr (refl, λ has. both_ways false refl (is.1 has))

-- two names are equal or not
pub same_or_not : (a b : List ℕ) → ((bytes_eq a b ≡ true) × (a ≡ b)) ⊎ ((bytes_eq a b ≡ false) × (a ≡ b → ⊥))
same_or_not a b = decided (bytes_eq a b) (a ≡ b) (bytes_eq-Decides a b)

pub eq_yes : (a b : List ℕ) → a ≡ b → bytes_eq a b ≡ true
eq_yes a b same = elim (same_or_not a b) [ inl is ↦ is.0 | inr not ↦ absurd (not.1 same) ]

pub eq_no : (a b : List ℕ) → (a ≡ b → ⊥) → bytes_eq a b ≡ false
eq_no a b apart = elim (same_or_not a b) [ inl is ↦ absurd (apart is.1) | inr not ↦ not.0 ]

pub eq_same : (a b : List ℕ) → bytes_eq a b ≡ true → a ≡ b
eq_same a b is = elim (same_or_not a b) [ inl equal ↦ equal.1 | inr not ↦ absurd (both_ways (bytes_eq a b) not.0 is) ]
