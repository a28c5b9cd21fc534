-- Reading selections one after the other, as a loop does.
use Rattle.std.proofs.Common.{◌≡◌, ℕ, zero, suc, ◌+◌, ◌-◌, ◌<◌, ◌≤◌, List, [], ◌∷◌, length, Result, Ok, Err, refl, sym, ap, subst, ◌∙◌, arith}
use Rattle.std.specs.Prelude.{IsOk}
use Rattle.kl_attest.specs.declared.fault.AttestFault.{AttestFault}
use Rattle.kl_attest.specs.Grammar.{Selection}
use Rattle.kl_attest.specs.Inner.Reading.{◌>>=◌, Place, selection_at, listed_at, listed, behind}

abbrev many : Type 0
many = Result (List Selection × Place) AttestFault

abbrev done : List Selection × Place → many
done x = Ok x

ok_is : (p q : Place) → (let a : Result Place AttestFault = Ok p in let b : Result Place AttestFault = Ok q in a ≡ b) → p ≡ q
ok_is p q e = cc

abbrev paired : Selection → List Selection × Place → Result ((Selection × List Selection) × Place) AttestFault
paired s others = Ok ((s, others.0), others.1)

abbrev consed : (Selection × List Selection) × Place → many
consed all = Ok (all.0.0 ∷ all.0.1, all.1)

-- one more selection before those that were read
abbrev with_first : Selection → many → many
with_first s read = (read >>= paired s) >>= consed

length_one : (n : ℕ) (s : Selection) (r : many) → (IsOk r → length (listed r) ≡ n) → IsOk (with_first s r) → length (listed (with_first s r)) ≡ suc n
length_one n s (Ok o) so_far ok = ap suc (so_far refl)
length_one n s (Err e) so_far ok = absurd cc

length_more : (n : ℕ) (first : Result (Selection × Place) AttestFault) → ((q : Place) → IsOk (listed_at n q) → length (listed (listed_at n q)) ≡ n)
    → IsOk ((first >>= λ f. listed_at n f.1 >>= paired f.0) >>= consed) → length (listed ((first >>= λ f. listed_at n f.1 >>= paired f.0) >>= consed)) ≡ suc n
length_more n (Ok f) so_far ok = length_one n f.0 (listed_at n f.1) (so_far f.1) ok
length_more n (Err e) so_far ok = absurd cc

-- as many are listed as were read
pub length-listed : (n : ℕ) (p : Place) → IsOk (listed_at n p) → length (listed (listed_at n p)) ≡ n
unfolding listed_at
length-listed zero p ok = refl
length-listed (suc n) p ok = length_more n (selection_at p) (length-listed n) ok

-- ---- passing selections

behind_more : (s : Selection) (r : many) → behind (with_first s r) ≡ behind r
behind_more s (Ok o) = refl
behind_more s (Err e) = refl

pub goes_on : (count i : ℕ) (p : Place) (s : Selection) (q : Place) (total : Result Place AttestFault) → i < count → selection_at p ≡ Ok (s, q)
    → behind (listed_at (count - i) p) ≡ total → behind (listed_at (count - (i + 1)) q) ≡ total
unfolding listed_at
goes_on count i p s q total lt h so_far =
    let k : count - i ≡ suc (count - (i + 1)) = omega arith in
    let one : behind (listed_at (count - i) p) ≡ behind (listed_at (count - (i + 1)) q) = rw (k, h) (behind_more s (listed_at (count - (i + 1)) q)) in
    sym one ∙ so_far

pub ends : (e : AttestFault) (count i : ℕ) (p : Place) (total : Result Place AttestFault) → i < count → selection_at p ≡ Err e
    → behind (listed_at (count - i) p) ≡ total → total ≡ Err e
unfolding listed_at
ends e count i p total lt h so_far =
    let k : count - i ≡ suc (count - (i + 1)) = omega arith in
    let one : behind (listed_at (count - i) p) ≡ Err e = rw (k, h) refl in
    sym so_far ∙ one

pub is_done : (count i : ℕ) (p : Place) (total : Result Place AttestFault) → count ≤ i → behind (listed_at (count - i) p) ≡ total → total ≡ Ok p
unfolding listed_at
is_done count i p total le so_far =
    let k : count - i ≡ 0 = omega arith in
    let one : behind (listed_at (count - i) p) ≡ Ok p = rw k refl in
    sym so_far ∙ one

-- what was passed can be read again
pub passed : (r : many) (q : Place) → behind r ≡ Ok q → IsOk r × (r ≡ Ok (listed r, q))
passed (Ok o) q h = (refl, ap (λ (p : Place). done (o.0, p)) (ok_is o.1 q h))
passed (Err e) q h = absurd cc

-- ---- reading again what was passed

pub record Goes (count i : ℕ) (p : Place) (s : Selection) (q : Place) : Type 0 where
  pub ok : IsOk (listed_at (count - (i + 1)) q)
  pub first : listed (listed_at (count - i) p) ≡ s ∷ listed (listed_at (count - (i + 1)) q)

ok_rest : (s : Selection) (r : many) → IsOk (with_first s r) → IsOk r × (listed (with_first s r) ≡ s ∷ listed r)
ok_rest s (Ok o) ok = (refl, refl)
ok_rest s (Err e) ok = absurd cc

pub goes : (count i : ℕ) (p : Place) (s : Selection) (q : Place) → i < count → selection_at p ≡ Ok (s, q) → IsOk (listed_at (count - i) p) → Goes count i p s q
unfolding listed_at
goes count i p s q lt h ok =
    let k : count - i ≡ suc (count - (i + 1)) = omega arith in
    let one : listed_at (count - i) p ≡ with_first s (listed_at (count - (i + 1)) q) = rw (k, h) refl in
    let two = ok_rest s (listed_at (count - (i + 1)) q) (subst (λ (r : many). IsOk r) one ok) in
    record { ok = two.0; first = ap listed one ∙ two.1 }

pub no_fault : (e : AttestFault) (count i : ℕ) (p : Place) → i < count → selection_at p ≡ Err e → IsOk (listed_at (count - i) p) → ⊥
unfolding listed_at
no_fault e count i p lt h ok =
    let k : count - i ≡ suc (count - (i + 1)) = omega arith in
    let one : listed_at (count - i) p ≡ Err e = rw (k, h) refl in
    let bad : IsOk {T = List Selection × Place} {E = AttestFault} (Err e) = subst (λ (r : many). IsOk r) one ok in
    cc

pub none_left : (count i : ℕ) (p : Place) → count ≤ i → listed (listed_at (count - i) p) ≡ []
unfolding listed_at
none_left count i p le =
    let k : count - i ≡ 0 = omega arith in
    rw k refl
