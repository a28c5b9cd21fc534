-- What one change of a map of boots does to its places and marks.
use Rattle.std.proofs.Common.{◌≡◌, ◌≢◌, ◌⊎◌, inl, inr, ℕ, Bool, true, false, ◌&&◌, List, Option, Some, None, refl, ap, ap₂, sym, ◌∙◌, arith}
use Rattle.std.specs.Prelude.{is_some}
use Rattle.std.specs.Option.{unwrap_or}
use Rattle.std.specs.declared.cmp.Ordering.{Ordering}
use Rattle.std.specs.declared.cmp.Ordering.TheVariants.{Less, Equal, Greater}
use Rattle.std.specs.Ordering.{nat_cmp, is_eq, ordering_then}
use Rattle.std.specs.Cmp.Lexicographic.{slice_cmp}
use Rattle.std.specs.BTreeMap.{BTreeMap, get, Updates}
use Rattle.std.proofs.lemmas.Map.Text.{is_eq-slice_cmp}
use Rattle.std.proofs.lemmas.Bool.{and_parts, cond-true, cond-false, cases_eq, both_ways}
use Rattle.std.proofs.lemmas.Grind.{common_steps}
use Rattle.std.proofs.lemmas.Slice.Eq.{bytes_eq-Decides}
use Rattle.kl_agents.specs.declared.reached.Target.{Target}
use Rattle.kl_agents.specs.Reached.{target_cmp, has_place, is_marked, Reserves}

is_eq-then : (x y : Ordering) → is_eq (ordering_then x y) ≡ (is_eq x && is_eq y)
is_eq-then Less y = refl
is_eq-then Equal y = refl
is_eq-then Greater y = refl

same_number : (a b : ℕ) → is_eq (nat_cmp a b) ≡ true → a ≡ b
same_number a b is = elim (cases_eq a b) [
  | inl e ↦ e
  | inr ne ↦ absurd (both_ways (is_eq (nat_cmp a b)) (grind (arith, common_steps)) is)
]

own_number : (a : ℕ) → is_eq (nat_cmp a a) ≡ true
own_number a = grind (arith, common_steps)

target_by : List ℕ → ℕ → ℕ → ℕ → Target
target_by a n reset restart = record { agent = a; added = n; reset = reset; restart = restart }

same_target : (s t : Target) → is_eq (target_cmp s t) ≡ true → s ≡ t
unfolding target_by
same_target s t is =
    let first = and_parts (is_eq (slice_cmp nat_cmp s.agent t.agent)) _ (sym (is_eq-then (slice_cmp nat_cmp s.agent t.agent) _) ∙ is) in
    let second = and_parts (is_eq (nat_cmp s.added t.added)) _ (sym (is_eq-then (nat_cmp s.added t.added) _) ∙ first.1) in
    let third = and_parts (is_eq (nat_cmp s.reset t.reset)) _ (sym (is_eq-then (nat_cmp s.reset t.reset) _) ∙ second.1) in
    let agent = (bytes_eq-Decides s.agent t.agent).0 (sym (is_eq-slice_cmp s.agent t.agent) ∙ first.0) in
    let added = same_number s.added t.added second.0 in
    let reset = same_number s.reset t.reset third.0 in
    let restart = same_number s.restart t.restart third.1 in
    let same : target_by s.agent s.added s.reset s.restart ≡ target_by t.agent t.added t.reset t.restart = cc in same

own_target : (t : Target) → is_eq (target_cmp t t) ≡ true
own_target t =
    is_eq-then (slice_cmp nat_cmp t.agent t.agent) _
    ∙ ap₂ ◌&&◌ (is_eq-slice_cmp t.agent t.agent ∙ (bytes_eq-Decides t.agent t.agent).1 refl)
    (is_eq-then (nat_cmp t.added t.added) _ ∙ ap₂ ◌&&◌ (own_number t.added) (is_eq-then (nat_cmp t.reset t.reset) _ ∙ ap₂ ◌&&◌ (own_number t.reset) (own_number t.restart)))

other_target : (s t : Target) → s ≢ t → is_eq (target_cmp t s) ≡ false
other_target s t apart = by_answer (is_eq (target_cmp t s)) refl where
  by_answer : (b : Bool) → is_eq (target_cmp t s) ≡ b → is_eq (target_cmp t s) ≡ false
  by_answer true is = absurd (apart (sym (same_target t s is)))
  by_answer false is = is

-- what stands at a key after a change of a map at one
at_key : (m n : BTreeMap Target Bool) (t : Target) (w : Option Bool) → Updates target_cmp m n t w → get target_cmp n t ≡ w
at_key m n t w up = up.0 t ∙ cond-true (is_eq (target_cmp t t)) _ _ (own_target t)

at_other : (m n : BTreeMap Target Bool) (t s : Target) (w : Option Bool) → Updates target_cmp m n t w → s ≢ t → get target_cmp n s ≡ get target_cmp m s
at_other m n t s w up apart = up.0 s ∙ cond-false (is_eq (target_cmp t s)) _ _ (other_target s t apart)

-- the same target or another
pub same_or_other : (s t : Target) → (s ≡ t) ⊎ (s ≢ t)
same_or_other s t = by_answer (is_eq (target_cmp s t)) refl where
  by_answer : (b : Bool) → is_eq (target_cmp s t) ≡ b → (s ≡ t) ⊎ (s ≢ t)
  by_answer true is = inl (same_target s t is)
  by_answer false is = inr (λ e. both_ways (is_eq (target_cmp s t)) is (ap (λ u. is_eq (target_cmp s u)) (sym e) ∙ own_target s))

unmarked : (o : Option Bool) → is_some o ≡ false → unwrap_or o false ≡ false
unmarked None is = refl
unmarked (Some b) is = cc

pub reserved : (m n : BTreeMap Target Bool) (t : Target) → has_place m t ≡ false → Updates target_cmp m n t (Some false) → Reserves m n t
reserved m n t none up = record {
  place = ap is_some (at_key m n t (Some false) up);
  places = λ s is. elim (same_or_other s t) [
    | inl e ↦ ap (λ u. has_place n u) e ∙ ap is_some (at_key m n t (Some false) up)
    | inr ne ↦ ap is_some (at_other m n t s (Some false) up ne) ∙ is
  ];
  marks = λ s. elim (same_or_other s t) [
    | inl e ↦ ap (λ u. is_marked n u) e ∙ ap (λ o. unwrap_or o false) (at_key m n t (Some false) up) ∙ sym (ap (λ u. is_marked m u) e ∙ unmarked (get target_cmp m t) none)
    | inr ne ↦ ap (λ o. unwrap_or o false) (at_other m n t s (Some false) up ne)
  ];
}

-- a mark more, and the same places
pub record MarksAt (old new : BTreeMap Target Bool) (t : Target) : Type 0 where
  pub marked : is_marked new t ≡ true
  pub places : (s : Target) → has_place old s ≡ true → has_place new s ≡ true
  pub others : (s : Target) → s ≢ t → is_marked new s ≡ is_marked old s

pub marked : (m n : BTreeMap Target Bool) (t : Target) → Updates target_cmp m n t (Some true) → MarksAt m n t
marked m n t up = record {
  marked = ap (λ o. unwrap_or o false) (at_key m n t (Some true) up);
  places = λ s is. elim (same_or_other s t) [
    | inl e ↦ ap (λ u. has_place n u) e ∙ ap is_some (at_key m n t (Some true) up)
    | inr ne ↦ ap is_some (at_other m n t s (Some true) up ne) ∙ is
  ];
  others = λ s apart. ap (λ o. unwrap_or o false) (at_other m n t s (Some true) up apart);
}
