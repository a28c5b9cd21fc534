-- The agent that is due first, of those that are kept.
use Rattle.std.proofs.Common.{◌≡◌, ◌⊎◌, ℕ, ◌<◌, ◌≤◌, Bool, true, false, ◌&&◌, List, [], ◌∷◌, Option, Some, None, inl, inr, refl, ap, sym, ◌∙◌, subst, arith}
use Rattle.std.specs.Prelude.{ltb}
use Rattle.std.specs.List.{AllByRecursion}
use Rattle.std.specs.List.Sorted.{IsStrictlySortedBy}
use Rattle.std.specs.Map.{keys_of, lookup}
use Rattle.std.specs.Ordering.{nat_cmp, is_eq, is_gt, ordering_reverse}
use Rattle.std.specs.declared.cmp.Ordering.TheVariants.{Less}
use Rattle.std.specs.Cmp.Lexicographic.{slice_cmp}
use Rattle.std.specs.Str.{bytes_eq}
use Rattle.std.specs.Option.{option_map}
use Rattle.std.specs.BTreeMap.{BTreeMap, is_at}
use Rattle.std.proofs.lemmas.Bool.{ltb-true, ltb-false, cond-true, cond-false, both_ways, false≢true}
use Rattle.std.proofs.lemmas.Cmp.{nat_list_cmp_total, tied_itself}
use Rattle.std.proofs.lemmas.Map.Text.{is_eq-slice_cmp}
use Rattle.std.proofs.lemmas.Option.{same_Some, none-some}
use Rattle.kl_agents.specs.declared.entry.Entry.{Entry}
use Rattle.kl_agents.specs.declared.entry.Opening.{Opening}
use Rattle.kl_agents.specs.declared.picking.Due.{Due}
use Rattle.kl_agents.specs.Picking.{due_of, waits, is_sooner, sooner, first_due}
use Rattle.kl_agents.proofs.Texts.{same_or_not, eq_yes}

-- ---- of two that are due the first
-- of one that may be due, and what may be due behind it, the first
abbrev pub first_of : Option Due → Option Due → Option Due
first_of None other = other
first_of (Some d) other = Some (sooner d other)

pub by_test : (b : Bool) (P : Type 0) → (b ≡ true → P) → (b ≡ false → P) → P
by_test true P yes' no' = yes' refl
by_test false P yes' no' = no' refl

sooner_head : (d x : Due) (r : Option Due) → x.since < d.since → sooner d (Some (sooner x r)) ≡ sooner x r
sooner_head d x None lt = grind (arith)
sooner_head d x (Some y) lt = grind (arith)

sooner_kept : (d x : Due) (r : Option Due) → d.since ≤ x.since → sooner d (Some (sooner x r)) ≡ sooner d r
sooner_kept d x None le = grind (arith)
sooner_kept d x (Some y) le = grind (arith)

soonest : (d : Due) (r : Option Due) → d.since ≡ 0 → sooner d r ≡ d
soonest d None zero = refl
soonest d (Some x) zero = grind (arith)

module _ (openings : BTreeMap ℕ Opening) (now : ℕ) where
  abbrev pub due_by : List ℕ × Entry → Due
  due_by e = record { agent = e.0; since = due_of e.1 }

  -- ---- the walk
  pub first_changes : (first : Option Due) (e : List ℕ × Entry) (es all : List (List ℕ × Entry)) → is_sooner (due_of e.1) first ≡ true → waits openings now e.1 ≡ true
      → first_of first (first_due openings now (e ∷ es)) ≡ first_due openings now all
      → first_of (Some (record { agent = e.0; since = due_of e.1 })) (first_due openings now es) ≡ first_due openings now all
  first_changes None e es all is waiting was =
      sym (cond-true (waits openings now e.1) (Some (sooner (record { agent = e.0; since = due_of e.1 }) (first_due openings now es))) (first_due openings now es) waiting) ∙ was
  first_changes (Some d) e es all is waiting was =
      sym (ap Some (sooner_head d (record { agent = e.0; since = due_of e.1 }) (first_due openings now es) (ltb-true (due_of e.1) d.since is)))
      ∙ sym (ap (first_of (Some d)) (cond-true (waits openings now e.1) (Some (sooner (record { agent = e.0; since = due_of e.1 }) (first_due openings now es))) (first_due openings now es) waiting))
      ∙ was

  not_waiting : (first : Option Due) (e : List ℕ × Entry) (es all : List (List ℕ × Entry)) → waits openings now e.1 ≡ false
      → first_of first (first_due openings now (e ∷ es)) ≡ first_due openings now all → first_of first (first_due openings now es) ≡ first_due openings now all
  not_waiting first e es all not was =
      sym (ap (first_of first) (cond-false (waits openings now e.1) (Some (sooner (record { agent = e.0; since = due_of e.1 }) (first_due openings now es))) (first_due openings now es) not)) ∙ was

  not_sooner : (first : Option Due) (e : List ℕ × Entry) (es all : List (List ℕ × Entry)) → is_sooner (due_of e.1) first ≡ false → waits openings now e.1 ≡ true
      → first_of first (first_due openings now (e ∷ es)) ≡ first_due openings now all → first_of first (first_due openings now es) ≡ first_due openings now all
  not_sooner None e es all not waiting was = absurd (false≢true (sym not))
  not_sooner (Some d) e es all not waiting was =
      sym (ap Some (sooner_kept d (record { agent = e.0; since = due_of e.1 }) (first_due openings now es) (ltb-false (due_of e.1) d.since not)))
      ∙ sym (ap (first_of (Some d)) (cond-true (waits openings now e.1) (Some (sooner (record { agent = e.0; since = due_of e.1 }) (first_due openings now es))) (first_due openings now es) waiting))
      ∙ was

  pub first_stays : (first : Option Due) (e : List ℕ × Entry) (es all : List (List ℕ × Entry)) → (is_sooner (due_of e.1) first && waits openings now e.1) ≡ false
      → first_of first (first_due openings now (e ∷ es)) ≡ first_due openings now all → first_of first (first_due openings now es) ≡ first_due openings now all
  first_stays first e es all not was =
      by_test (waits openings now e.1) (first_of first (first_due openings now es) ≡ first_due openings now all)
      (λ waiting. by_test (is_sooner (due_of e.1) first) (first_of first (first_due openings now es) ≡ first_due openings now all)
      (λ is. absurd (both_ways (is_sooner (due_of e.1) first && waits openings now e.1) not (ap (λ b. b && waits openings now e.1) is ∙ waiting)))
      (λ is. not_sooner first e es all is waiting was))
      (λ not'. not_waiting first e es all not' was)

  -- of one that is due since moment 0, and of what is left, the one
  pub none_sooner : (first : Option Due) (e : List ℕ × Entry) (es all : List (List ℕ × Entry)) → is_sooner (due_of e.1) first ≡ true → waits openings now e.1 ≡ true → due_of e.1 ≡ 0
      → first_of first (first_due openings now (e ∷ es)) ≡ first_due openings now all → Some e.0 ≡ option_map (λ (due : Due). due.agent) (first_due openings now all)
  none_sooner first e es all is waiting zero was =
      ap (option_map (λ (due : Due). due.agent)) (sym (ap Some (soonest (due_by e) (first_due openings now es) zero)) ∙ first_changes first e es all is waiting was)

  pub none_ahead : (o : Option Due) → first_of o None ≡ o
  none_ahead None = refl
  none_ahead (Some d) = refl

  -- ---- what is found
  kept_here : (a : List ℕ) (e : List ℕ × Entry) (es : List (List ℕ × Entry)) → bytes_eq a e.0 ≡ true → lookup (is_at (slice_cmp nat_cmp a)) (e ∷ es) ≡ Some e.1
  kept_here a e es is = cond-true (is_eq (slice_cmp nat_cmp a e.0)) (Some e.1) (lookup (is_at (slice_cmp nat_cmp a)) es) (is_eq-slice_cmp a e.0 ∙ is)

  kept_there : (a : List ℕ) (e : List ℕ × Entry) (es : List (List ℕ × Entry)) → bytes_eq a e.0 ≡ false
      → lookup (is_at (slice_cmp nat_cmp a)) (e ∷ es) ≡ lookup (is_at (slice_cmp nat_cmp a)) es
  kept_there a e es is = cond-false (is_eq (slice_cmp nat_cmp a e.0)) (Some e.1) (lookup (is_at (slice_cmp nat_cmp a)) es) (is_eq-slice_cmp a e.0 ∙ is)

  pub none_waits : (es : List (List ℕ × Entry)) → first_due openings now es ≡ None → (a : List ℕ) (f : Entry) → lookup (is_at (slice_cmp nat_cmp a)) es ≡ Some f
      → waits openings now f ≡ false
  none_waits [] none a f at = absurd (none-some f at)
  none_waits (e ∷ es) none a f at =
      by_test (waits openings now e.1) (waits openings now f ≡ false)
      (λ waiting. absurd (none-some _ (sym none ∙ cond-true (waits openings now e.1) (Some (sooner (due_by e) (first_due openings now es))) (first_due openings now es) waiting)))
      (λ not. elim (same_or_not a e.0) [
        | inl is ↦ ap (waits openings now) (same_Some f e.1 (sym at ∙ kept_here a e es is.0)) ∙ not
        | inr ne ↦ none_waits es (sym (cond-false (waits openings now e.1) (Some (sooner (due_by e) (first_due openings now es))) (first_due openings now es) not) ∙ none) a f (sym (kept_there a e es ne.0) ∙ at)
      ])

  -- the one that waits, and is due before the others that do
  pub record IsFirst (es : List (List ℕ × Entry)) (d : Due) : Type 0 where
    pub entry : Entry
    pub at : lookup (is_at (slice_cmp nat_cmp d.agent)) es ≡ Some entry
    pub waiting : waits openings now entry ≡ true
    pub since : d.since ≡ due_of entry
    pub ahead : (b : List ℕ) (f : Entry) → lookup (is_at (slice_cmp nat_cmp b)) es ≡ Some f → waits openings now f ≡ true
        → (d.since < due_of f) ⊎ ((d.since ≡ due_of f) × (is_gt (slice_cmp nat_cmp d.agent b) ≡ false))

  -- what holds of each key holds of one that is found
  key_holds : (P : List ℕ → Type 0) (a : List ℕ) (es : List (List ℕ × Entry)) (f : Entry) → AllByRecursion P (keys_of es) → lookup (is_at (slice_cmp nat_cmp a)) es ≡ Some f → P a
  key_holds P a [] f all at = absurd (none-some f at)
  key_holds P a (e ∷ es) f all at = elim (same_or_not a e.0) [
    | inl is ↦ subst P (sym is.1) all.0
    | inr ne ↦ key_holds P a es f all.1 (sym (kept_there a e es ne.0) ∙ at)
  ]

  not_gt : (a b : List ℕ) → slice_cmp nat_cmp a b ≡ Less → is_gt (slice_cmp nat_cmp a b) ≡ false
  not_gt a b less = ap is_gt less

  apart : (a b : List ℕ) → slice_cmp nat_cmp a b ≡ Less → bytes_eq b a ≡ false
  apart a b less =
      sym (is_eq-slice_cmp b a) ∙ ap is_eq (nat_list_cmp_total.antisymm b a) ∙ ap (λ o. is_eq (ordering_reverse o)) less

  first_at_head : (e : List ℕ × Entry) (es : List (List ℕ × Entry)) → AllByRecursion (λ k. slice_cmp nat_cmp e.0 k ≡ Less) (keys_of es) → waits openings now e.1 ≡ true
      → ((b : List ℕ) (f : Entry) → lookup (is_at (slice_cmp nat_cmp b)) es ≡ Some f → waits openings now f ≡ true → due_of e.1 ≤ due_of f) → IsFirst (e ∷ es) (due_by e)
  first_at_head e es below waiting least = record {
    entry = e.1;
    at = kept_here e.0 e es (eq_yes e.0 e.0 refl);
    waiting = waiting;
    since = refl;
    ahead = λ b f at waits'. elim (same_or_not b e.0) [
      | inl is ↦ inr (
        ap due_of (same_Some e.1 f (sym (kept_here b e es is.0) ∙ at)),
        ap (λ k. is_gt (slice_cmp nat_cmp e.0 k)) is.1 ∙ ap is_gt (tied_itself nat_list_cmp_total e.0),
      )
      | inr ne ↦
          let there = sym (kept_there b e es ne.0) ∙ at in
          by_test (ltb (due_of e.1) (due_of f)) ((due_of e.1 < due_of f) ⊎ ((due_of e.1 ≡ due_of f) × (is_gt (slice_cmp nat_cmp e.0 b) ≡ false)))
          (λ less. inl (ltb-true (due_of e.1) (due_of f) less))
          (λ not. inr (
            (let le = ltb-false (due_of e.1) (due_of f) not in let ge = least b f there waits' in omega arith),
            not_gt e.0 b (key_holds (λ k. slice_cmp nat_cmp e.0 k ≡ Less) b es f below there),
          ))
    ];
  }

  first_behind : (e : List ℕ × Entry) (es : List (List ℕ × Entry)) (d : Due) → AllByRecursion (λ k. slice_cmp nat_cmp e.0 k ≡ Less) (keys_of es)
      → (waits openings now e.1 ≡ true → d.since < due_of e.1) → IsFirst es d → IsFirst (e ∷ es) d
  first_behind e es d below later first = record {
    entry = first.entry;
    at = kept_there d.agent e es (apart e.0 d.agent (key_holds (λ k. slice_cmp nat_cmp e.0 k ≡ Less) d.agent es first.entry below first.at)) ∙ first.at;
    waiting = first.waiting;
    since = first.since;
    ahead = λ b f at waits'. elim (same_or_not b e.0) [
      | inl is ↦
          let same = same_Some e.1 f (sym (kept_here b e es is.0) ∙ at) in
          inl (subst (λ (g : Entry). d.since < due_of g) same (later (ap (waits openings now) same ∙ waits')))
      | inr ne ↦ first.ahead b f (sym (kept_there b e es ne.0) ∙ at) waits'
    ];
  }

  pub first_is : (es : List (List ℕ × Entry)) → IsStrictlySortedBy (slice_cmp nat_cmp) (keys_of es) → (d : Due) → first_due openings now es ≡ Some d → IsFirst es d
  unfolding IsStrictlySortedBy
  first_is [] sorted d found = absurd (none-some d found)
  first_is (e ∷ es) sorted d found =
      by_test (waits openings now e.1) (IsFirst (e ∷ es) d)
      (λ waiting. by_rest (first_is es sorted.1) waiting (first_due openings now es) refl
      (sym (cond-true (waits openings now e.1) (Some (sooner (due_by e) (first_due openings now es))) (first_due openings now es) waiting) ∙ found))
      (λ not. first_behind e es d sorted.0 (λ waiting. absurd (both_ways (waits openings now e.1) not waiting))
      (first_is es sorted.1 d (sym (cond-false (waits openings now e.1) (Some (sooner (due_by e) (first_due openings now es))) (first_due openings now es) not) ∙ found))) where
        at_head : waits openings now e.1 ≡ true → due_by e ≡ d → ((b : List ℕ) (f : Entry) → lookup (is_at (slice_cmp nat_cmp b)) es ≡ Some f → waits openings now f ≡ true → due_of e.1 ≤ due_of f)
            → IsFirst (e ∷ es) d
        at_head waiting same least = subst (IsFirst (e ∷ es)) same (first_at_head e es sorted.0 waiting least)

        by_rest : ((y : Due) → first_due openings now es ≡ Some y → IsFirst es y) → waits openings now e.1 ≡ true → (r : Option Due) → first_due openings now es ≡ r → Some (sooner (due_by e) r) ≡ Some d → IsFirst (e ∷ es) d
        by_rest behind waiting None rest same =
            at_head waiting (same_Some (due_by e) d same) (λ b f at waits'. absurd (both_ways (waits openings now f) (none_waits es rest b f at) waits'))
        by_rest behind waiting (Some y) rest same =
            let other = behind y rest in
            let is = same_Some (sooner (due_by e) (Some y)) d same in
            by_test (ltb y.since (due_of e.1)) (IsFirst (e ∷ es) d)
            (λ less. subst (IsFirst (e ∷ es)) (sym (cond-true (ltb y.since (due_of e.1)) y (due_by e) less) ∙ is)
            (first_behind e es y sorted.0 (λ _. ltb-true y.since (due_of e.1) less) other))
            (λ not. at_head waiting (sym (cond-false (ltb y.since (due_of e.1)) y (due_by e) not) ∙ is)
            (λ b f at waits'. let le = ltb-false y.since (due_of e.1) not in
            elim (other.ahead b f at waits') [ inl less ↦ omega arith | inr (eq, _) ↦ omega arith ]))
