-- The bits of a byte, and the PCRs that they are.
use Rattle.std.proofs.Common.{◌≡◌, ℕ, zero, suc, ◌+◌, ◌*◌, ◌/◌, ◌%◌, ◌<◌, Bool, true, false, eqb, List, [], ◌∷◌, get_or, refl, sym, ◌∙◌, arith, inl, inr}
use Rattle.std.specs.Int.{w8, bit_at, trailing_zeros}
use Rattle.std.proofs.lemmas.Bool.{cases_eq, eqb-true, eq-eqb, and_parts}
use Rattle.std.proofs.lemmas.List.{get_or_past}
use Rattle.std.proofs.lemmas.Nat.{div-mul-add, mod-mul-add}
use Rattle.std.proofs.lemmas.Nat.Bits.{bit_at-zero, bit_at-trailing_zeros}
use Rattle.kl_base.specs.Bytes.{IsBytes}
use Rattle.kl_attest.specs.Grammar.{Selection}
use Rattle.kl_attest.specs.Pcrs.{has_pcr, is_zero, IsEmptySelection}

-- a byte that is not 0 has a bit
pub set_bit : (b : ℕ) → 0 < b → b < 256 → (k : ℕ) × (k < 8) × (bit_at b k ≡ 1)
set_bit b some lt =
    let t = bit_at-trailing_zeros w8 b some lt in
    (trailing_zeros w8 b, t.0, t.1)

-- bit k of byte i is PCR 8 * i + k
pub has_pcr-at : (select : List ℕ) (i k : ℕ) → k < 8 → has_pcr select (i * 8 + k) ≡ eqb (bit_at (get_or select i 0) k) 1
has_pcr-at select i k lt =
    let byte : (i * 8 + k) / 8 ≡ i = div-mul-add i 8 k lt in
    let bit : (i * 8 + k) % 8 ≡ k = mod-mul-add i 8 k lt in
    rw (byte, bit) refl

pub none_in : (select : List ℕ) (n : ℕ) → get_or select (n / 8) 0 ≡ 0 → has_pcr select n ≡ false
none_in select n h = rw (h, bit_at-zero (n % 8)) refl

-- ---- bytes that are all 0

pub zero_at : (bytes : List ℕ) → is_zero bytes ≡ true → (i : ℕ) → get_or bytes i 0 ≡ 0
zero_at [] e i = get_or_past [] i 0 (omega arith)
zero_at (b ∷ bytes) e zero = eqb-true b 0 (and_parts (eqb b 0) (is_zero bytes) e).0
zero_at (b ∷ bytes) e (suc i) = zero_at bytes (and_parts (eqb b 0) (is_zero bytes) e).1 i

pub not_zero_at : (bytes : List ℕ) → is_zero bytes ≡ false → (i : ℕ) × (0 < get_or bytes i 0)
not_zero_at [] e = absurd cc
not_zero_at (b ∷ bytes) e =
    elim (cases_eq b 0) [
      | inl none ↦
          let same : eqb b 0 ≡ true = eq-eqb b 0 none in
          let others = not_zero_at bytes (rw same at e) in
          (suc others.0, others.1)
      | inr some ↦ (0, omega arith)
    ]

pub empty_of : (s : Selection) → is_zero s.select ≡ true → IsEmptySelection s
empty_of s e = λ n. none_in s.select n (zero_at s.select e (n / 8))

-- a byte that is not 0 has a PCR
pub pcr_of : (select : List ℕ) (i : ℕ) → IsBytes select → 0 < get_or select i 0 → (k : ℕ) × (k < 8) × (has_pcr select (i * 8 + k) ≡ true)
pcr_of select i fits some =
    let bit = set_bit (get_or select i 0) some (fits i) in
    (bit.0, bit.1, has_pcr-at select i bit.0 bit.1 ∙ rw bit.2 refl)

pub chosen_of : (s : Selection) → IsBytes s.select → is_zero s.select ≡ false → IsEmptySelection s → ⊥
chosen_of s fits e empty =
    let z = not_zero_at s.select e in
    let p = pcr_of s.select z.0 fits z.1 in
    let none : has_pcr s.select (z.0 * 8 + p.0) ≡ false = empty (z.0 * 8 + p.0) in
    let some : has_pcr s.select (z.0 * 8 + p.0) ≡ true = p.2 in
    let bad : true ≡ false = sym some ∙ none in
    cc

zero_by : (s : Selection) (b : Bool) → IsBytes s.select → IsEmptySelection s → is_zero s.select ≡ b → is_zero s.select ≡ true
zero_by s true fits empty e = e
zero_by s false fits empty e = absurd (chosen_of s fits e empty)

pub zero_of : (s : Selection) → IsBytes s.select → IsEmptySelection s → is_zero s.select ≡ true
zero_of s fits empty = zero_by s (is_zero s.select) fits empty refl
