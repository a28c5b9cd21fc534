-- Steps of a walk over static PCRs.
use Rattle.std.proofs.Common.{◌≡◌, ◌≢◌, ℕ, ◌+◌, ◌<◌, ◌≤◌, min, List, [], ◌∷◌, ◌++◌, length, take, get_or, Option, Some, None, All, Any, AllPairs, refl, sym, ap, ◌∙◌, subst, arith, inl, inr}
use Rattle.std.specs.Option.{option_map_or}
use Rattle.std.proofs.lemmas.Bool.{cases_lt}
use Rattle.std.proofs.lemmas.List.{take_more, get_or_default, get_or-take, get_or_append_left, length-take, length-append}
use Rattle.std.proofs.lemmas.List.Quantifiers.{all_pairs_push, Any-push}
use Rattle.std.proofs.lemmas.List.Elements.{All-push}
use Rattle.kl_bank.specs.declared.bank.Bank.{Bank}
use Rattle.kl_pcr.specs.declared.statics.Static.{Static}
use Rattle.kl_pcr.specs.Statics.{IsAllowed, IsWrong, IsFirstWrong}

-- each PCR stands once
abbrev Once : List Static → Type 0
Once ss = AllPairs (λ s t. s.pcr ≢ t.pcr) ss

-- one more element of the front
grown : (ss : List Static) (i : ℕ) (s : Static) → i < length ss → s ≡ get_or ss i s → take (i + 1) ss ≡ take i ss ++ s ∷ []
grown ss i s within is = take_more ss i s within ∙ ap (λ (t : Static). take i ss ++ t ∷ []) (sym is)

-- a PCR that none of the front names joins it
pub once_more : (ss : List Static) (i : ℕ) (s : Static) → i < length ss → s ≡ get_or ss i s
    → AllPairs (λ s t. s.pcr ≢ t.pcr) (take i ss) → ¬ (Any (λ t. t.pcr ≡ s.pcr) (take i ss)) → AllPairs (λ s t. s.pcr ≢ t.pcr) (take (i + 1) ss)
once_more ss i s within is once fresh =
    let front = take i ss in
    let R : Static → Static → Type 0 = λ a b. a.pcr ≢ b.pcr in
    let apart : (k : ℕ) (d : Static) → k < length front → R (get_or front k d) s =
    λ k d below same. fresh (k, get_or front k d, below, get_or_default front k (get_or front k d) d below, same) in
    let P : List Static → Type 0 = λ xs. AllPairs R xs in
    subst P (sym (grown ss i s within is)) (all_pairs_push R front s once apart)

-- a PCR that the front names stands twice
pub not_once : (ss : List Static) (i : ℕ) (s : Static) → i < length ss → s ≡ get_or ss i s
    → Any (λ t. t.pcr ≡ s.pcr) (take i ss) → ¬ (AllPairs (λ s t. s.pcr ≢ t.pcr) ss)
not_once ss i s within is (k, t, in_front, there, same) once =
    let below : k < i = omega (arith, length-take i ss, in_front) in
    let reach : k < length ss = omega arith in
    let here : get_or ss k s ≡ t = get_or_default ss k s t reach ∙ sym (get_or-take i ss k t below) ∙ there in
    once k i s below within (ap (λ (x : Static). x.pcr) here ∙ same ∙ ap (λ (x : Static). x.pcr) is)

-- what some element of a list has, some element of a longer one has
Any-longer : (P : Static → Type 0) (xs ys : List Static) → Any P xs → Any P (xs ++ ys)
Any-longer P xs ys (k, x, within, is, holds) =
    (k, x, omega (arith, length-append xs ys, within), get_or_append_left xs ys x k within ∙ is, holds)

-- what holds of some element, weakened
Any-weaker : (P Q : Static → Type 0) → ((x : Static) → P x → Q x) → (xs : List Static) → Any P xs → Any Q xs
Any-weaker P Q weaker xs (k, x, within, is, holds) = (k, x, within, is, weaker x holds)

-- a PCR with an allowed value changes nothing
right_more : (bank : Bank) (mask : ℕ) (values : List ℕ) (xs : List Static) (s : Static) (least : Option ℕ)
    → IsFirstWrong bank mask values xs least → IsAllowed bank mask values s → IsFirstWrong bank mask values (xs ++ s ∷ []) least
right_more bank mask values xs s None before right = All-push (IsAllowed bank mask values) xs s before right
right_more bank mask values xs s (Some n) before right = (
  Any-longer (λ t. IsWrong bank mask values t × (t.pcr ≡ n)) xs (s ∷ []) before.0,
  All-push (λ t. IsWrong bank mask values t → n ≤ t.pcr) xs s before.1 (λ wrong. absurd (wrong right)),
)

-- a PCR with a wrong value is the least where it is below the least so far
wrong_more : (bank : Bank) (mask : ℕ) (values : List ℕ) (xs : List Static) (s : Static) (least : Option ℕ)
    → IsFirstWrong bank mask values xs least → IsWrong bank mask values s
    → IsFirstWrong bank mask values (xs ++ s ∷ []) (Some (option_map_or (λ n. min n s.pcr) least s.pcr))
wrong_more bank mask values xs s None before wrong = (
  Any-push (λ t. IsWrong bank mask values t × (t.pcr ≡ s.pcr)) xs s (wrong, refl),
  All-push (λ t. IsWrong bank mask values t → s.pcr ≤ t.pcr) xs s (λ k d within wrong_too. absurd (wrong_too (before k d within))) (λ _. omega arith),
)
wrong_more bank mask values xs s (Some n) before wrong =
    let below : All (λ t. IsWrong bank mask values t → min n s.pcr ≤ t.pcr) (xs ++ s ∷ []) =
    All-push (λ t. IsWrong bank mask values t → min n s.pcr ≤ t.pcr) xs s
    (λ k d within wrong_too. let least : n ≤ (get_or xs k d).pcr = before.1 k d within wrong_too in omega arith)
    (λ _. omega arith) in
    let found : Any (λ t. IsWrong bank mask values t × (t.pcr ≡ min n s.pcr)) (xs ++ s ∷ []) =
    elim (cases_lt n s.pcr) [
      | inl less ↦ Any-longer (λ t. IsWrong bank mask values t × (t.pcr ≡ min n s.pcr)) xs (s ∷ [])
          (Any-weaker (λ t. IsWrong bank mask values t × (t.pcr ≡ n)) (λ t. IsWrong bank mask values t × (t.pcr ≡ min n s.pcr))
          (λ t h. let same : t.pcr ≡ n = h.1 in (h.0, omega arith)) xs before.0)
      | inr more ↦ Any-push (λ t. IsWrong bank mask values t × (t.pcr ≡ min n s.pcr)) xs s (wrong, omega arith)
    ] in
    (found, below)

-- the two, as a walk meets them
pub first_wrong-right : (bank : Bank) (mask : ℕ) (values : List ℕ) (ss : List Static) (i : ℕ) (s : Static) (least : Option ℕ)
    → i < length ss → s ≡ get_or ss i s → IsFirstWrong bank mask values (take i ss) least → IsAllowed bank mask values s
    → IsFirstWrong bank mask values (take (i + 1) ss) least
first_wrong-right bank mask values ss i s least within is before right =
    let P : List Static → Type 0 = λ xs. IsFirstWrong bank mask values xs least in
    subst P (sym (grown ss i s within is)) (right_more bank mask values (take i ss) s least before right)

pub first_wrong-wrong : (bank : Bank) (mask : ℕ) (values : List ℕ) (ss : List Static) (i : ℕ) (s : Static) (least : Option ℕ)
    → i < length ss → s ≡ get_or ss i s → IsFirstWrong bank mask values (take i ss) least → IsWrong bank mask values s
    → IsFirstWrong bank mask values (take (i + 1) ss) (Some (option_map_or (λ n. min n s.pcr) least s.pcr))
first_wrong-wrong bank mask values ss i s least within is before wrong =
    let after : Option ℕ = Some (option_map_or (λ n. min n s.pcr) least s.pcr) in
    let P : List Static → Type 0 = λ xs. IsFirstWrong bank mask values xs after in
    subst P (sym (grown ss i s within is)) (wrong_more bank mask values (take i ss) s least before wrong)
