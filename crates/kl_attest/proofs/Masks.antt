-- A mask is the number of the first three bytes, the lowest first.
use Rattle.std.proofs.Common.{◌≡◌, ℕ, zero, suc, ◌+◌, ◌-◌, ◌*◌, ◌/◌, ◌%◌, ◌^◌, ◌<◌, ◌≤◌, Bool, true, false, cond, eqb, List, [], ◌∷◌, ◌++◌, length, get_or, take, drop, refl, sym, ap, subst, ◌∙◌, arith, inl, inr}
use Rattle.std.specs.Prelude.{sum_by}
use Rattle.std.specs.List.{range_with_len}
use Rattle.std.specs.Int.{w32, bit_at, to_le_bytes}
use Rattle.std.proofs.lemmas.Bool.{cases_eq, cases_lt}
use Rattle.std.proofs.lemmas.Nat.{mod-pow-add, pow-add}
use Rattle.std.proofs.lemmas.List.{get_or_past, get_or-drop, map-id}
use Rattle.std.proofs.lemmas.List.FromFn.{sum_by-map-range_with_len_more}
use Rattle.std.proofs.lemmas.List.Sums.{sum_by-append}
use Rattle.std.proofs.lemmas.List.Elements.{All-nil}
use Rattle.kl_base.specs.Bytes.{IsBytes}
use Rattle.kl_attest.specs.Grammar.{Selection}
use Rattle.kl_attest.specs.Pcrs.{has_pcr, is_zero, mask_of, AreBelow24, IsEmptySelection, IsLone, OneSet}
use Rattle.kl_attest.proofs.Bits.{has_pcr-at, zero_at, not_zero_at, none_in, pcr_of, zero_of}

abbrev worth : List ℕ → ℕ → ℕ
worth select n = cond (has_pcr select n) (2 ^ n) 0

sum_more : (f : ℕ → ℕ) (a n : ℕ) → sum_by f (range_with_len a (n + 1)) ≡ sum_by f (range_with_len a n) + f (a + n)
sum_more f a n =
    sym (ap (sum_by f) (map-id (range_with_len a (n + 1)))) ∙ sum_by-map-range_with_len_more f (λ x. x) a n (a + n) refl
    ∙ ap (λ (xs : List ℕ). sum_by f xs + f (a + n)) (map-id (range_with_len a n))

bit_worth : (x w : ℕ) → x < 2 → cond (eqb x 1) w 0 ≡ x * w
bit_worth x w lt =
    elim (cases_eq x 1) [
      | inl one ↦ rw one (omega arith)
      | inr other ↦ let none : x ≡ 0 = omega arith in rw none (omega arith)
    ]

-- the PCRs of the lowest k bits of byte i
bits_sum : (select : List ℕ) (i k : ℕ) → k ≤ 8 → sum_by (worth select) (range_with_len (i * 8) k) ≡ get_or select i 0 % 2 ^ k * 2 ^ (i * 8)
bits_sum select i zero le =
    let none : get_or select i 0 % 1 ≡ 0 = omega arith in
    rw none (omega arith)
bits_sum select i (suc k) le =
    let b : ℕ = get_or select i 0 in
    let bit : ℕ = bit_at b k in
    let so_far = bits_sum select i k (omega arith) in
    let here : worth select (i * 8 + k) ≡ bit * (2 ^ (i * 8) * 2 ^ k) =
    ap (λ (has : Bool). cond has (2 ^ (i * 8 + k)) 0) (has_pcr-at select i k (omega arith)) ∙ bit_worth bit (2 ^ (i * 8 + k)) (omega arith) ∙ ap (λ (w : ℕ). bit * w) (pow-add 2 (i * 8) k) in
    let one_more : k + 1 ≡ 1 + k = omega arith in
    let bits : b % 2 ^ (k + 1) ≡ bit * 2 ^ k + b % 2 ^ k = ap (λ (e : ℕ). b % 2 ^ e) one_more ∙ mod-pow-add b 1 k in
    let next : k + 1 ≡ suc k = omega arith in
    subst (λ (m : ℕ). sum_by (worth select) (range_with_len (i * 8) m) ≡ b % 2 ^ m * 2 ^ (i * 8)) next (sum_more (worth select) (i * 8) k ∙ rw (so_far, here, bits) (omega arith))

three_parts : (f : ℕ → ℕ) → sum_by f (range_with_len 0 24) ≡ sum_by f (range_with_len 0 8) + (sum_by f (range_with_len 8 8) + sum_by f (range_with_len 16 8))
three_parts f = sum_by-append f (range_with_len 0 8) (range_with_len 8 8 ++ range_with_len 16 8) ∙ ap (λ (k : ℕ). sum_by f (range_with_len 0 8) + k) (sum_by-append f (range_with_len 8 8) (range_with_len 16 8))

-- the mask is the number that the first three bytes make
pub mask_is : (select : List ℕ) → IsBytes select → mask_of select ≡ get_or select 0 0 + get_or select 1 0 * 256 + get_or select 2 0 * 65536
unfolding mask_of
mask_is select fits = omega (arith, three_parts (worth select), bits_sum select 0 8 (omega arith), bits_sum select 1 8 (omega arith), bits_sum select 2 8 (omega arith), fits 0, fits 1, fits 2)

-- ---- PCRs from 24 on

pub below_from : (select : List ℕ) → ((i : ℕ) → 3 ≤ i → get_or select i 0 ≡ 0) → AreBelow24 select
below_from select none n has =
    elim (cases_lt n 24) [
      | inl lt ↦ lt
      | inr le ↦
          let high : 3 ≤ n / 8 = omega arith in
          let out : has_pcr select n ≡ false = none_in select n (none (n / 8) high) in
          let bad : true ≡ false = sym has ∙ out in
          cc
    ]

pub below_short : (select : List ℕ) → length select ≤ 3 → AreBelow24 select
below_short select short = below_from select (λ i le. get_or_past select i 0 (omega arith))

pub below_zero : (select : List ℕ) → is_zero (drop 3 select) ≡ true → AreBelow24 select
below_zero select e = below_from select (λ i le.
    let place : 3 + (i - 3) ≡ i = omega arith in
    ap (λ (k : ℕ). get_or select k 0) (sym place) ∙ sym (get_or-drop 3 select (i - 3) 0) ∙ zero_at (drop 3 select) e (i - 3))

pub above : (select : List ℕ) → IsBytes select → is_zero (drop 3 select) ≡ false → AreBelow24 select → ⊥
above select fits e below =
    let z = not_zero_at (drop 3 select) e in
    let some : 0 < get_or select (3 + z.0) 0 = subst (λ (b : ℕ). 0 < b) (get_or-drop 3 select z.0 0) z.1 in
    let p = pcr_of select (3 + z.0) fits some in
    let small : (3 + z.0) * 8 + p.0 < 24 = below ((3 + z.0) * 8 + p.0) p.2 in
    omega arith

-- ---- the mask that is written

abbrev pub three_of : ℕ → List ℕ
three_of m = take 3 (to_le_bytes w32 m)

pub three_fit : (m i : ℕ) → get_or (three_of m) i 0 < 256
three_fit m zero = omega arith
three_fit m (suc zero) = omega arith
three_fit m (suc (suc zero)) = omega arith
three_fit m (suc (suc (suc i))) = omega arith

three_sum : (m : ℕ) → m < 2 ^ 24 → m ≡ m % 256 + m / 256 % 256 * 256 + m / 65536 % 256 * 65536
three_sum m lt = omega arith

no_mask : (m a b c : ℕ) → 0 < m → m ≡ a + b * 256 + c * 65536 → a ≡ 0 → b ≡ 0 → c ≡ 0 → ⊥
no_mask m a b c some e p q r = omega arith

written : (alg m : ℕ) → m < 2 ^ 24 → 0 < m → IsEmptySelection (record { alg = alg; select = three_of m }) → ⊥
written alg m lt some empty =
    let s : Selection = record { alg = alg; select = three_of m } in
    let zero_in : is_zero (three_of m) ≡ true = zero_of s (three_fit m) empty in
    no_mask m (m % 256) (m / 256 % 256) (m / 65536 % 256) some (three_sum m lt) (zero_at (three_of m) zero_in 0) (zero_at (three_of m) zero_in 1) (zero_at (three_of m) zero_in 2)

-- one selection with the three bytes of a mask has that mask
pub mask_set : (alg m : ℕ) → m < 2 ^ 24 → 0 < m → OneSet (record { alg = alg; select = three_of m } ∷ []) alg m
mask_set alg m lt some =
    let s : Selection = record { alg = alg; select = three_of m } in
    let alone : IsLone (s ∷ []) s = record { before = []; after = []; parts = refl; before_empty = All-nil IsEmptySelection; after_empty = All-nil IsEmptySelection; chosen = written alg m lt some } in
    record { one = s; lone = alone; alg_is = refl; below = below_short (three_of m) (omega arith); mask_is = three_sum m lt ∙ sym (mask_is (three_of m) (three_fit m)) }
