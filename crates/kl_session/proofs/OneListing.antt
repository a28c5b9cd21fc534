-- All that are of one kind are listed in one way.
use Rattle.std.proofs.Common.{◌≡◌, ℕ, List, [], ◌∷◌, Contains, inl, inr, refl, sym, ap, ◌∙◌, subst}
use Rattle.std.specs.Ordering.{nat_cmp, ordering_reverse}
use Rattle.std.specs.declared.cmp.Ordering.TheVariants.{Less, Greater}
use Rattle.std.specs.Cmp.Lexicographic.{slice_cmp, nat_list_cmp_total}
use Rattle.std.specs.List.{AllByRecursion}
use Rattle.std.specs.List.Sorted.{IsStrictlySortedBy}
use Rattle.kl_registrar.specs.Answers.{Lists}
use Rattle.kl_registrar.proofs.Members.{none_of, first_of, later_of, cases_of}

Below : List ℕ → List ℕ → Type 0
Below x y = slice_cmp nat_cmp x y ≡ Less

-- of two names at most one is below the other
not_both : (x y : List ℕ) → Below x y → Below y x → ⊥
unfolding Below
not_both x y less more =
    let turned : Less ≡ Greater = sym less ∙ nat_list_cmp_total.antisymm x y ∙ ap ordering_reverse more in
    absurd cc

-- what holds of each holds of one of them
holds_of : (P : List ℕ → Type 0) (ids : List (List ℕ)) (id : List ℕ) → AllByRecursion P ids → Contains ids id → P id
holds_of P [] id all has = absurd (none_of id has)
holds_of P (x ∷ ids) id all has = elim (cases_of x id ids has) [
  | inl first ↦ subst P first all.0
  | inr later ↦ holds_of P ids id all.1 later
]

-- the first of a list in order is that of every other list in order of the same names
same_first : (x y : List ℕ) (xs ys : List (List ℕ)) → AllByRecursion (Below x) xs → AllByRecursion (Below y) ys
    → Contains (y ∷ ys) x → Contains (x ∷ xs) y → x ≡ y
same_first x y xs ys after_x after_y has_x has_y = elim (cases_of y x ys has_x) [
  | inl first ↦ sym first
  | inr later ↦ elim (cases_of x y xs has_y) [
    | inl first ↦ first
    | inr behind ↦ absurd (not_both x y (holds_of (Below x) xs y after_x behind) (holds_of (Below y) ys x after_y later))
  ]
]

-- what the one has behind its first, the other has behind its own
behind : (x y : List ℕ) (xs ys : List (List ℕ)) → x ≡ y → AllByRecursion (Below x) xs
    → ((id : List ℕ) → Contains (x ∷ xs) id → Contains (y ∷ ys) id) → (id : List ℕ) → Contains xs id → Contains ys id
behind x y xs ys same after has id stands = elim (cases_of y id ys (has id (later_of x id xs stands))) [
  | inl first ↦
      let at_x : x ≡ id = same ∙ first in
      let below : Below x id = holds_of (Below x) xs id after stands in
      absurd (not_both x x (subst (Below x) (sym at_x) below) (subst (Below x) (sym at_x) below))
  | inr later ↦ later
]

one_order : (xs ys : List (List ℕ)) → IsStrictlySortedBy (slice_cmp nat_cmp) xs → IsStrictlySortedBy (slice_cmp nat_cmp) ys
    → ((id : List ℕ) → Contains xs id → Contains ys id) → ((id : List ℕ) → Contains ys id → Contains xs id) → xs ≡ ys
unfolding IsStrictlySortedBy Below
one_order [] [] f g to from = refl
one_order [] (y ∷ ys) f g to from = absurd (none_of y (from y (first_of y y ys refl)))
one_order (x ∷ xs) [] f g to from = absurd (none_of x (to x (first_of x x xs refl)))
one_order (x ∷ xs) (y ∷ ys) f g to from =
    let first = same_first x y xs ys f.0 g.0 (to x (first_of x x xs refl)) (from y (first_of y y ys refl)) in
    let rest = one_order xs ys f.1 g.1 (behind x y xs ys first f.0 to) (behind y x ys xs (sym first) g.0 from) in
    ap (λ (z : List ℕ). z ∷ xs) first ∙ ap (λ (zs : List (List ℕ)). y ∷ zs) rest

pub one_list : (P : List ℕ → Type 0) (xs ys : List (List ℕ)) → Lists P xs → Lists P ys → xs ≡ ys
one_list P xs ys f g = one_order xs ys f.0 g.0 (λ id has. (g.1 id).1 ((f.1 id).0 has)) (λ id has. (f.1 id).1 ((g.1 id).0 has))
