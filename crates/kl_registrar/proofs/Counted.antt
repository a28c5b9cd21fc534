-- How many agents have a record.
use Rattle.std.proofs.Common.{◌≡◌, ◌⊎◌, ℕ, ◌+◌, ◌-◌, Bool, true, false, List, [], ◌∷◌, length, Contains, is_some, if◌then◌else◌, inl, inr, refl, ap, sym, ◌∙◌, subst, arith}
use Rattle.std.specs.List.{AllByRecursion, IsDistinct}
use Rattle.std.specs.Str.{bytes_eq}
use Rattle.std.proofs.lemmas.Bool.{cond-true, cond-false, both_ways}
use Rattle.kl_registrar.specs.Calls.{Call, Register, Activate, Remove, Registration, Log, agent_of, own}
use Rattle.kl_registrar.specs.Records.{registered, has_record, records}
use Rattle.kl_registrar.specs.Counts.{IsCountOf}
use Rattle.kl_registrar.proofs.Names.{same_or_not, own_ours, own_theirs, same_self}
use Rattle.kl_registrar.proofs.Members.{none_of, first_of, later_of, cases_of}

-- ---- what one more call changes

has_ours : (call : Call) (past : Log) (id : List ℕ) → agent_of call ≡ id → has_record (call ∷ past) id ≡ is_some (registered (call ∷ own past id))
has_ours call past id ours = ap (λ (l : Log). is_some (registered l)) (own_ours call past id (ap (λ (k : List ℕ). bytes_eq k id) ours ∙ same_self id))

has_theirs : (call : Call) (past : Log) (id : List ℕ) → bytes_eq (agent_of call) id ≡ false → has_record (call ∷ past) id ≡ has_record past id
has_theirs call past id apart = ap (λ (l : Log). is_some (registered l)) (own_theirs call past id apart)

same_for_all : (call : Call) (past : Log) → is_some (registered (call ∷ own past (agent_of call))) ≡ has_record past (agent_of call)
    → (id : List ℕ) → has_record (call ∷ past) id ≡ has_record past id
same_for_all call past same id = elim (same_or_not (agent_of call) id) [
  | inl e ↦
      has_ours call past id e.1 ∙ ap (λ (k : List ℕ). is_some (registered (call ∷ own past k))) (sym e.1) ∙ same ∙ ap (has_record past) e.1
  | inr ne ↦ has_theirs call past id ne.0
]

-- ---- a name more, and one less

all_apart : (id : List ℕ) (ids : List (List ℕ)) → (Contains ids id → ⊥) → AllByRecursion (λ other. bytes_eq id other ≡ false) ids
all_apart id [] absent = tt
all_apart id (x ∷ xs) absent = (
  elim (same_or_not id x) [
    | inl is ↦ absurd (absent (first_of x id xs (sym is.1)))
    | inr ne ↦ ne.0
  ],
  all_apart id xs (λ has. absent (later_of x id xs has)),
)

abbrev without : List ℕ → List (List ℕ) → List (List ℕ)
without id [] = []
without id (x ∷ xs) = if bytes_eq id x then xs else x ∷ without id xs

less_here : (id x : List ℕ) (xs : List (List ℕ)) → bytes_eq id x ≡ true → without id (x ∷ xs) ≡ xs
less_here id x xs is = cond-true (bytes_eq id x) xs (x ∷ without id xs) is

less_later : (id x : List ℕ) (xs : List (List ℕ)) → bytes_eq id x ≡ false → without id (x ∷ xs) ≡ x ∷ without id xs
less_later id x xs is = cond-false (bytes_eq id x) xs (x ∷ without id xs) is

-- which are left
left_was : (id other : List ℕ) (ids : List (List ℕ)) → Contains (without id ids) other → Contains ids other
left_was id other [] has = has
left_was id other (x ∷ xs) has = elim (same_or_not id x) [
  | inl is ↦ later_of x other xs (subst (λ (l : List (List ℕ)). Contains l other) (less_here id x xs is.0) has)
  | inr ne ↦ elim (cases_of x other (without id xs) (subst (λ (l : List (List ℕ)). Contains l other) (less_later id x xs ne.0) has)) [
    | inl same ↦ first_of x other xs same
    | inr later ↦ later_of x other xs (left_was id other xs later)
  ]
]

was_left : (id other : List ℕ) (ids : List (List ℕ)) → (id ≡ other → ⊥) → Contains ids other → Contains (without id ids) other
was_left id other [] apart has = has
was_left id other (x ∷ xs) apart has = elim (cases_of x other xs has) [
  | inl same ↦ elim (same_or_not id x) [
    | inl is ↦ absurd (apart (is.1 ∙ same))
    | inr ne ↦ subst (λ (l : List (List ℕ)). Contains l other) (sym (less_later id x xs ne.0)) (first_of x other (without id xs) same)
  ]
  | inr later ↦ elim (same_or_not id x) [
    | inl is ↦ subst (λ (l : List (List ℕ)). Contains l other) (sym (less_here id x xs is.0)) later
    | inr ne ↦ subst (λ (l : List (List ℕ)). Contains l other) (sym (less_later id x xs ne.0)) (later_of x other (without id xs) (was_left id other xs apart later))
  ]
]

apart_from : (id x : List ℕ) (xs : List (List ℕ)) → AllByRecursion (λ other. bytes_eq x other ≡ false) xs → Contains xs id → bytes_eq x id ≡ false
apart_from id x [] all has = absurd (none_of id has)
apart_from id x (y ∷ ys) all has = elim (cases_of y id ys has) [
  | inl same ↦ subst (λ (k : List ℕ). bytes_eq x k ≡ false) same all.0
  | inr later ↦ apart_from id x ys all.1 later
]

gone : (id : List ℕ) (ids : List (List ℕ)) → IsDistinct bytes_eq ids → Contains (without id ids) id → ⊥
unfolding IsDistinct
gone id [] distinct has = none_of id has
gone id (x ∷ xs) distinct has = elim (same_or_not id x) [
  | inl is ↦
      let later : Contains xs id = subst (λ (l : List (List ℕ)). Contains l id) (less_here id x xs is.0) has in
      both_ways (bytes_eq x id) (apart_from id x xs distinct.0 later) (ap (λ (k : List ℕ). bytes_eq k id) (sym is.1) ∙ same_self id)
  | inr ne ↦ elim (cases_of x id (without id xs) (subst (λ (l : List (List ℕ)). Contains l id) (less_later id x xs ne.0) has)) [
    | inl same ↦ ne.1 (sym same)
    | inr later ↦ gone id xs distinct.1 later
  ]
]

all_left : (P : List ℕ → Type 0) (id : List ℕ) (ids : List (List ℕ)) → AllByRecursion P ids → AllByRecursion P (without id ids)
all_left P id [] all = tt
all_left P id (x ∷ xs) all = elim (same_or_not id x) [
  | inl is ↦ subst (AllByRecursion P) (sym (less_here id x xs is.0)) all.1
  | inr ne ↦ subst (AllByRecursion P) (sym (less_later id x xs ne.0)) (all.0, all_left P id xs all.1)
]

distinct_left : (id : List ℕ) (ids : List (List ℕ)) → IsDistinct bytes_eq ids → IsDistinct bytes_eq (without id ids)
unfolding IsDistinct
distinct_left id [] distinct = tt
distinct_left id (x ∷ xs) distinct = elim (same_or_not id x) [
  | inl is ↦ subst (IsDistinct bytes_eq) (sym (less_here id x xs is.0)) distinct.1
  | inr ne ↦
      subst (IsDistinct bytes_eq) (sym (less_later id x xs ne.0))
      (all_left (λ other. bytes_eq x other ≡ false) id xs distinct.0, distinct_left id xs distinct.1)
]

one_less : (id : List ℕ) (ids : List (List ℕ)) → Contains ids id → length (without id ids) + 1 ≡ length ids
one_less id [] has = absurd (none_of id has)
one_less id (x ∷ xs) has = elim (same_or_not id x) [
  | inl is ↦ let less = ap length (less_here id x xs is.0) in omega (arith, less)
  | inr ne ↦
      let later : Contains xs id = elim (cases_of x id xs has) [ inl same ↦ absurd (ne.1 (sym same)) | inr later ↦ later ] in
      let less = ap length (less_later id x xs ne.0) in
      omega (arith, less, one_less id xs later)
]

-- ---- all of it

abbrev mark : Bool → ℕ → ℕ → ℕ
mark b m n = if b then m else n

split : (b : Bool) → (b ≡ true) ⊎ (b ≡ false)
split true = inl refl
split false = inr refl

-- as many as before, where each agent has a record if it had one
counted_same : (call : Call) (past : Log) (n : ℕ) → ((id : List ℕ) → has_record (call ∷ past) id ≡ has_record past id) → IsCountOf past n → IsCountOf (call ∷ past) n
counted_same call past n same s = record {
  agents = s.agents;
  apart = s.apart;
  each = λ id. (λ has. same id ∙ (s.each id).0 has, λ is. (s.each id).1 (sym (same id) ∙ is));
  many = s.many;
}

-- a first register
counted_more : (id : List ℕ) (r : Registration) (past : Log) (n : ℕ) → has_record past id ≡ false → IsCountOf past n → IsCountOf (Register id r ∷ past) (n + 1)
unfolding IsDistinct
counted_more id r past n none s = record {
  agents = id ∷ s.agents;
  apart = (all_apart id s.agents (λ has. both_ways (has_record past id) none ((s.each id).0 has)), s.apart);
  each = λ other. (
    λ has. elim (same_or_not id other) [
      | inl e ↦ has_ours (Register id r) past other e.1
      | inr ne ↦ elim (cases_of id other s.agents has) [
        | inl same ↦ absurd (ne.1 same)
        | inr later ↦ has_theirs (Register id r) past other ne.0 ∙ (s.each other).0 later
      ]
    ],
    λ is. elim (same_or_not id other) [
      | inl e ↦ first_of id other s.agents e.1
      | inr ne ↦ later_of id other s.agents ((s.each other).1 (sym (has_theirs (Register id r) past other ne.0) ∙ is))
    ],
  );
  many = omega (arith, s.many);
}

-- a remove of a record
counted_less : (id : List ℕ) (past : Log) (n : ℕ) → has_record past id ≡ true → IsCountOf past n → IsCountOf (Remove id ∷ past) (n - 1)
counted_less id past n has s = record {
  agents = without id s.agents;
  apart = distinct_left id s.agents s.apart;
  each = λ other. (
    λ left. elim (same_or_not id other) [
      | inl e ↦ absurd (gone id s.agents s.apart (subst (λ (k : List ℕ). Contains (without id s.agents) k) (sym e.1) left))
      | inr ne ↦ has_theirs (Remove id) past other ne.0 ∙ (s.each other).0 (left_was id other s.agents left)
    ],
    λ is. elim (same_or_not id other) [
      | inl e ↦ absurd (both_ways (has_record (Remove id ∷ past) other) (has_ours (Remove id) past other e.1) is)
      | inr ne ↦ was_left id other s.agents ne.1 ((s.each other).1 (sym (has_theirs (Remove id) past other ne.0) ∙ is))
    ],
  );
  many = omega (arith, s.many, one_less id s.agents ((s.each id).1 has));
}

pub counted : (past : Log) → IsCountOf past (records past)
unfolding IsDistinct
counted [] = record {
  agents = [];
  apart = tt;
  each = λ id. (λ has. absurd (none_of id has), λ is. absurd (both_ways false refl is));
  many = refl;
}
counted (Register id r ∷ past) = elim (split (has_record past id)) [
  | inl has ↦
      let add : mark (has_record past id) 0 1 ≡ 0 = ap (λ b. mark b 0 1) has in
      let n : records past ≡ records past + (if has_record past id then 0 else 1) = omega (arith, add) in
      subst (IsCountOf (Register id r ∷ past)) n (counted_same (Register id r) past (records past) (same_for_all (Register id r) past (sym has)) (counted past))
  | inr not ↦
      let add : mark (has_record past id) 0 1 ≡ 1 = ap (λ b. mark b 0 1) not in
      let n : records past + 1 ≡ records past + (if has_record past id then 0 else 1) = omega (arith, add) in
      subst (IsCountOf (Register id r ∷ past)) n (counted_more id r past (records past) not (counted past))
]
counted (Activate id tag ∷ past) = counted_same (Activate id tag) past (records past) (same_for_all (Activate id tag) past refl) (counted past)
counted (Remove id ∷ past) = elim (split (has_record past id)) [
  | inl has ↦
      let take : mark (has_record past id) 1 0 ≡ 1 = ap (λ b. mark b 1 0) has in
      let n : records past - 1 ≡ records past - (if has_record past id then 1 else 0) = omega (arith, take) in
      subst (IsCountOf (Remove id ∷ past)) n (counted_less id past (records past) has (counted past))
  | inr not ↦
      let take : mark (has_record past id) 1 0 ≡ 0 = ap (λ b. mark b 1 0) not in
      let n : records past ≡ records past - (if has_record past id then 1 else 0) = omega (arith, take) in
      subst (IsCountOf (Remove id ∷ past)) n (counted_same (Remove id) past (records past) (same_for_all (Remove id) past (sym not)) (counted past))
]
