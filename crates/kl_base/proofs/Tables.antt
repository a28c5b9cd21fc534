-- The table of digits, looked up at each byte.
use Rattle.std.proofs.Common.{◌≡◌, ℕ, zero, suc, ◌<◌, ◌≤◌, ◌%◌, Bool, true, false, cond, Option, Some, None, get_or, refl, sym, ap, ◌∙◌, arith, inl, inr, nat_eq, nat_lt}
use Rattle.std.proofs.lemmas.Bool.{and_parts, cases_lt, eqb-true, ltb-true, ltb-false, lt-ltb, le-ltb, not-true}
use Rattle.std.proofs.lemmas.Bool.Decides.{Decides-eqb}
use Rattle.std.specs.Option.{option_eq}
use Rattle.std.specs.Prelude.{slice_index, ◌==◌, ◌&&◌, ◌⊎◌, not}
use Rattle.hex.specs.Hex.{hex_digit_value, lower_digits}
use Rattle.kl_base.specs.Digits.{is_lower_digit}
use Rattle.kl_base.specs.declared.digits.TheConstants.{DIGITS}

-- the test of the first n numbers
abbrev all_below : (ℕ → Bool) → ℕ → Bool
all_below p zero = true
all_below p (suc n) = p n && all_below p n

all_below-at : (p : ℕ → Bool) (n k : ℕ) → all_below p n ≡ true → k < n → p k ≡ true
all_below-at p zero k h lt = absurd (omega arith)
all_below-at p (suc n) k h lt =
    let parts = and_parts (p n) (all_below p n) h in
    elim (cases_lt k n) [
      | inl below ↦ all_below-at p n k parts.1 below
      | inr top ↦
          let e : k ≡ n = omega arith in
          rw e parts.0
    ]

abbrev at : ℕ → ℕ
at byte = get_or DIGITS byte 0

cond_cases : (t x y : Bool) → cond t x y ≡ true → ((t ≡ true) × (x ≡ true)) ⊎ ((t ≡ false) × (y ≡ true))
cond_cases true x y h = inl (refl, h)
cond_cases false x y h = inr (refl, h)

-- ---- in lower case

abbrev is_lower_right : ℕ → Bool
is_lower_right b = cond (nat_lt (at b) 16) (slice_index lower_digits (at b) == b) (not (is_lower_digit b))

lower_right : (b : ℕ) → b < 256 → is_lower_right b ≡ true
lower_right b lt = all_below-at is_lower_right 256 b refl lt

pub lower_value : (b : ℕ) → b < 256 → at b < 16 → slice_index lower_digits (at b) ≡ b
lower_value b lt small =
    elim (cond_cases (nat_lt (at b) 16) (slice_index lower_digits (at b) == b) (not (is_lower_digit b)) (lower_right b lt)) [
      | inl h ↦ eqb-true _ b h.1
      | inr h ↦ absurd (omega (arith, ltb-false (at b) 16 h.0))
    ]

pub lower_refused : (b : ℕ) → b < 256 → 16 ≤ at b → is_lower_digit b ≡ false
lower_refused b lt large =
    elim (cond_cases (nat_lt (at b) 16) (slice_index lower_digits (at b) == b) (not (is_lower_digit b)) (lower_right b lt)) [
      | inl h ↦ absurd (omega (arith, ltb-true (at b) 16 h.0))
      | inr h ↦ not-true (is_lower_digit b) h.1
    ]

-- ---- in either case

abbrev by_table : ℕ → Option ℕ
by_table b = cond (nat_lt (at b) 32) (Some (at b % 16)) None

abbrev is_right : ℕ → Bool
is_right b = option_eq nat_eq (hex_digit_value b) (by_table b)

same_option : (a b : Option ℕ) → option_eq nat_eq a b ≡ true → a ≡ b
same_option None None h = refl
same_option None (Some y) h = cc h
same_option (Some x) None h = cc h
same_option (Some x) (Some y) h = ap Some ((Decides-eqb x y).0 h)

right : (b : ℕ) → b < 256 → hex_digit_value b ≡ by_table b
right b lt = same_option (hex_digit_value b) (by_table b) (all_below-at is_right 256 b refl lt)

pub digit_by : (b : ℕ) → b < 256 → at b < 32 → Some (at b % 16) ≡ hex_digit_value b
digit_by b lt small = sym (right b lt ∙ ap (λ t. cond t (Some (at b % 16)) None) (lt-ltb (at b) 32 small))

pub none_by : (b : ℕ) → b < 256 → 32 ≤ at b → None ≡ hex_digit_value b
none_by b lt large = sym (right b lt ∙ ap (λ t. cond t (Some (at b % 16)) None) (le-ltb (at b) 32 large))
