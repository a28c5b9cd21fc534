-- A number is read as it is written.
use Rattle.std.proofs.Common.{◌≡◌, ◌≢◌, ℕ, zero, suc, ◌<◌, ◌≤◌, ◌^◌, List, length, get_or, Result, Ok, Err, sym, ap, subst, ◌∙◌, arith, lit<}
use Rattle.std.specs.Prelude.{IfSome, IfNone}
use Rattle.std.specs.Fmt.{decimal}
use Rattle.std.specs.Str.Parse.{AllDigits, digits_value, ParsesUnsigned}
use Rattle.std.specs.Result.{result_ok}
use Rattle.std.proofs.lemmas.Str.Parse.{IsNumeralModel, numerals_by_value, tells_digits, parse_plain, digit_at}
use Rattle.std.proofs.lemmas.Fmt.{parse-decimal, decimal-digits_value, decimal_digit, decimal_nonempty, digits_decimal, first_decimal}
use Rattle.kl_script.specs.Words.{HasNo, IsNumber}

own : IsNumeralModel (AllDigits 10) (digits_value 10)
own = numerals_by_value (AllDigits 10) tells_digits

-- a text that does not begin with a plus, nor with a zero before more, is read as a number
pub number_found : {E : Type 0} (bs : List ℕ) (r : Result ℕ E) → ParsesUnsigned 64 10 bs r → get_or bs 0 0 ≢ 43 → (get_or bs 0 0 ≡ 48 → length bs ≤ 1) → IfSome (result_ok r) (λ n. IsNumber bs n)
number_found {E} bs (Ok n) h plus lone =
    let p = parse_plain own {E = E} 64 bs (Ok n) h plus in
    let value : n ≡ digits_value 10 bs = p.1 in
    let one : get_or bs 0 0 ≡ 48 → length bs ≡ 1 = λ e. omega (arith, lone e, p.0.1) in
    (subst (λ (v : ℕ). v < 2 ^ 64) (sym value) p.0.2, sym (ap decimal value ∙ decimal-digits_value own bs p.0.0 p.0.1 one p.0.2))
number_found {E} bs (Err e) h plus lone = tt

pub number_none : {E : Type 0} (bs : List ℕ) (r : Result ℕ E) → ParsesUnsigned 64 10 bs r → IfNone (result_ok r) ((n : ℕ) → ¬ (IsNumber bs n))
number_none {E} bs (Ok n) h = tt
number_none {E} bs (Err e) h = λ n number.
    let read : Err e ≡ Ok n = parse-decimal {E = E} 64 n bs (Err e) number.0 number.0 number.1 h in absurd cc

-- the first digit of a number
first_digit : (bs : List ℕ) (n : ℕ) → IsNumber bs n → (48 ≤ get_or bs 0 0) × (get_or bs 0 0 ≤ 57)
first_digit bs n number =
    let digits : AllDigits 10 bs = subst (AllDigits 10) (sym number.1) (digits_decimal own n number.0) in
    let some : 0 < length bs = subst (λ (b : List ℕ). 0 < length b) (sym number.1) (decimal_nonempty n number.0) in
    let at = digit_at bs 0 digits some in
    (at.0, at.1)

pub plus_is_none : (bs : List ℕ) (n : ℕ) → get_or bs 0 0 ≡ 43 → ¬ (IsNumber bs n)
plus_is_none bs n e number = omega (arith, (first_digit bs n number).0)

-- a zero in front is the whole number
pub zero_is_none : (bs : List ℕ) (n : ℕ) → get_or bs 0 0 ≡ 48 → 1 < length bs → ¬ (IsNumber bs n)
zero_is_none bs zero e long number = omega (arith, ap length number.1, ap length (decimal_digit 0 (lit< tt)))
zero_is_none bs (suc n) e long number =
    omega (arith, e, subst (λ (b : List ℕ). 48 < get_or b 0 0) (sym number.1) (first_decimal (suc n) (omega arith) number.0))

-- no byte of a number is other than a digit
pub decimal_has_no : (b n : ℕ) → n < 2 ^ 64 → 57 < b → HasNo b (decimal n)
decimal_has_no b n lt past i inside e = omega (arith, e, (digit_at (decimal n) i (digits_decimal own n lt) inside).1)

pub decimal_has_no_space : (n : ℕ) → n < 2 ^ 64 → HasNo 32 (decimal n)
decimal_has_no_space n lt i inside e = omega (arith, e, (digit_at (decimal n) i (digits_decimal own n lt) inside).0)
