-- Which agents are listed.
use Rattle.std.proofs.Common.{◌≡◌, ◌⊎◌, ℕ, Bool, true, false, List, [], ◌∷◌, ◌++◌, Option, Some, None, Contains, inl, inr, refl, ap, sym, ◌∙◌, subst, append_assoc}
use Rattle.std.specs.List.{AllByRecursion}
use Rattle.std.specs.List.Sorted.{IsStrictlySortedBy}
use Rattle.std.specs.Map.{keys_of}
use Rattle.std.specs.Ordering.{nat_cmp, is_eq}
use Rattle.std.specs.declared.cmp.Ordering.TheVariants.{Less}
use Rattle.std.specs.Cmp.Lexicographic.{slice_cmp}
use Rattle.std.specs.Str.{bytes_eq}
use Rattle.std.proofs.lemmas.Map.Text.{is_eq-slice_cmp}
use Rattle.std.proofs.lemmas.Bool.{cond-true, cond-false, both_ways}
use Rattle.std.proofs.lemmas.Option.{same_Some}
use Rattle.kl_registrar.specs.declared.record.RegRecord.{RegRecord}
use Rattle.kl_registrar.specs.Calls.{Register, Activate, Remove, Log, own}
use Rattle.kl_registrar.specs.Records.{registered, Matches, IsActive, kept_of, Keeps}
use Rattle.kl_registrar.specs.Answers.{Lists}
use Rattle.kl_registrar.specs.Inner.Listing.{with_one, actives}
use Rattle.kl_registrar.proofs.Answering.{none_registered, one_active}
use Rattle.kl_registrar.proofs.Keeping.{Entries}
use Rattle.kl_registrar.proofs.Members.{none_of, first_of, later_of, cases_of}
use Rattle.kl_registrar.proofs.Names.{same_or_not, same_self}

pub listed_same : (ids : List (List ℕ)) (e : List ℕ × RegRecord) (es all : Entries) → e.1.active ≡ false → ids ++ actives (e ∷ es) ≡ actives all
    → ids ++ actives es ≡ actives all
listed_same ids e es all not was =
    ap (λ (l : List (List ℕ)). ids ++ l) (sym (cond-false e.1.active (e.0 ∷ actives es) (actives es) not)) ∙ was

split : (b : Bool) → (b ≡ true) ⊎ (b ≡ false)
split true = inl refl
split false = inr refl

-- ---- in order

abbrev below : List ℕ → List ℕ → Type 0
below k other = slice_cmp nat_cmp k other ≡ Less

all_one : (P : List ℕ → Type 0) (b : Bool) (k : List ℕ) (ks : List (List ℕ)) → P k → AllByRecursion P ks → AllByRecursion P (with_one b k ks)
all_one P true k ks one all = (one, all)
all_one P false k ks one all = all

all_active : (P : List ℕ → Type 0) (es : Entries) → AllByRecursion P (keys_of es) → AllByRecursion P (actives es)
all_active P [] all = tt
all_active P (e ∷ es) all = all_one P e.1.active e.0 (actives es) all.0 (all_active P es all.1)

sorted_one : (b : Bool) (k : List ℕ) (ks : List (List ℕ)) → AllByRecursion (below k) ks → IsStrictlySortedBy (slice_cmp nat_cmp) ks
    → IsStrictlySortedBy (slice_cmp nat_cmp) (with_one b k ks)
unfolding IsStrictlySortedBy
sorted_one true k ks first sorted = (first, sorted)
sorted_one false k ks first sorted = sorted

sorted_active : (es : Entries) → IsStrictlySortedBy (slice_cmp nat_cmp) (keys_of es) → IsStrictlySortedBy (slice_cmp nat_cmp) (actives es)
unfolding IsStrictlySortedBy
sorted_active [] sorted = tt
sorted_active (e ∷ es) sorted = sorted_one e.1.active e.0 (actives es) (all_active (below e.0) es sorted.0) (sorted_active es sorted.1)

-- ---- each once

kept_here : (id : List ℕ) (e : List ℕ × RegRecord) (es : Entries) → bytes_eq id e.0 ≡ true → kept_of id (e ∷ es) ≡ Some e.1
kept_here id e es is = cond-true (is_eq (slice_cmp nat_cmp id e.0)) (Some e.1) (kept_of id es) (is_eq-slice_cmp id e.0 ∙ is)

kept_there : (id : List ℕ) (e : List ℕ × RegRecord) (es : Entries) → bytes_eq id e.0 ≡ false → kept_of id (e ∷ es) ≡ kept_of id es
kept_there id e es is = cond-false (is_eq (slice_cmp nat_cmp id e.0)) (Some e.1) (kept_of id es) (is_eq-slice_cmp id e.0 ∙ is)

-- what holds of each key holds of one that is found
key_holds : (P : List ℕ → Type 0) (id : List ℕ) (es : Entries) (r : RegRecord) → AllByRecursion P (keys_of es) → kept_of id es ≡ Some r → P id
key_holds P id [] r all found = cc found
key_holds P id (e ∷ es) r all found = elim (same_or_not id e.0) [
  | inl is ↦ subst P (sym is.1) all.0
  | inr ne ↦ key_holds P id es r all.1 (sym (kept_there id e es ne.0) ∙ found)
]

-- a key is not below itself
not_below : (k id : List ℕ) → below k id → bytes_eq id k ≡ false
not_below k id lt = elim (same_or_not id k) [
  | inl is ↦
      let equal : is_eq (slice_cmp nat_cmp k id) ≡ true = is_eq-slice_cmp k id ∙ ap (λ (x : List ℕ). bytes_eq k x) is.1 ∙ same_self k in
      absurd (both_ways (is_eq (slice_cmp nat_cmp k id)) (ap is_eq lt) equal)
  | inr ne ↦ ne.0
]

record IsKeptActive (id : List ℕ) (es : Entries) : Type 0 where
  kept : RegRecord
  found : kept_of id es ≡ Some kept
  active : kept.active ≡ true

later_kept : (id : List ℕ) (e : List ℕ × RegRecord) (es : Entries) → AllByRecursion (below e.0) (keys_of es) → IsKeptActive id es → IsKeptActive id (e ∷ es)
later_kept id e es first k = record {
  kept = k.kept;
  found = kept_there id e es (not_below e.0 id (key_holds (below e.0) id es k.kept first k.found)) ∙ k.found;
  active = k.active;
}

first_kept : (id : List ℕ) (e : List ℕ × RegRecord) (es : Entries) → e.0 ≡ id → e.1.active ≡ true → IsKeptActive id (e ∷ es)
first_kept id e es is active = record {
  kept = e.1;
  found = kept_here id e es (ap (λ (x : List ℕ). bytes_eq id x) is ∙ same_self id);
  active = active;
}

listed_kept : (es : Entries) (id : List ℕ) → IsStrictlySortedBy (slice_cmp nat_cmp) (keys_of es) → Contains (actives es) id → IsKeptActive id es
unfolding IsStrictlySortedBy
listed_kept [] id sorted has = absurd (none_of id has)
listed_kept (e ∷ es) id sorted has = elim (split e.1.active) [
  | inl active ↦
      let all : actives (e ∷ es) ≡ e.0 ∷ actives es = cond-true e.1.active (e.0 ∷ actives es) (actives es) active in
      elim (cases_of e.0 id (actives es) (subst (λ (l : List (List ℕ)). Contains l id) all has)) [
        | inl first ↦ first_kept id e es first active
        | inr later ↦ later_kept id e es sorted.0 (listed_kept es id sorted.1 later)
      ]
  | inr not ↦
      let all : actives (e ∷ es) ≡ actives es = cond-false e.1.active (e.0 ∷ actives es) (actives es) not in
      later_kept id e es sorted.0 (listed_kept es id sorted.1 (subst (λ (l : List (List ℕ)). Contains l id) all has))
]

with_one-has : (b : Bool) (x y : List ℕ) (xs : List (List ℕ)) → Contains xs y → Contains (with_one b x xs) y
with_one-has true x y xs has = later_of x y xs has
with_one-has false x y xs has = has

kept_listed : (es : Entries) (id : List ℕ) (r : RegRecord) → kept_of id es ≡ Some r → r.active ≡ true → Contains (actives es) id
kept_listed [] id r found active = cc found
kept_listed (e ∷ es) id r found active = elim (same_or_not id e.0) [
  | inl is ↦
      let same : e.1 ≡ r = same_Some e.1 r (sym (kept_here id e es is.0) ∙ found) in
      let on : e.1.active ≡ true = ap (λ (x : RegRecord). x.active) same ∙ active in
      subst (λ (l : List (List ℕ)). Contains l id) (sym (cond-true e.1.active (e.0 ∷ actives es) (actives es) on)) (first_of e.0 id (actives es) (sym is.1))
  | inr ne ↦ with_one-has e.1.active e.0 id (actives es) (kept_listed es id r (sym (kept_there id e es ne.0) ∙ found) active)
]

-- ---- all of it

active_registered : (past : Log) → IsActive past → registered past ≡ None → ⊥
active_registered [] active none = active
active_registered (Register id r ∷ past) active none = active
active_registered (Activate id tag ∷ past) (inl matched) none = subst (Matches id tag) none matched
active_registered (Activate id tag ∷ past) (inr active) none = active_registered past active none
active_registered (Remove id ∷ past) active none = active

active_listed : (es : Entries) (past : Log) (id : List ℕ) (o : Option RegRecord) → Keeps es past → kept_of id es ≡ o → IsActive (own past id) → Contains (actives es) id
active_listed es past id None keeps is active = absurd (active_registered (own past id) active (none_registered es past id keeps is))
active_listed es past id (Some r) keeps is active = kept_listed es id r is ((one_active es past id r keeps is).1 active)

pub lists_active : (es : Entries) (past : Log) → Keeps es past → IsStrictlySortedBy (slice_cmp nat_cmp) (keys_of es)
    → Lists (λ id. IsActive (own past id)) (actives es)
lists_active es past keeps sorted = (
  sorted_active es sorted,
  λ id. (
    λ has. let k = listed_kept es id sorted has in (one_active es past id k.kept keeps k.found).0 k.active,
    λ active. active_listed es past id (kept_of id es) keeps refl active,
  ),
)
