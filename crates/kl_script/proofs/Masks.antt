-- What is no mask.
use Rattle.std.proofs.Common.{◌≡◌, ◌≢◌, ℕ, ◌<◌, ◌≤◌, ◌^◌, List, ◌∷◌, length, get_or, Result, Ok, Err, sym, subst, arith, lit<}
use Rattle.std.proofs.Math.Nat.{pow-le-pow_right}
use Rattle.std.specs.Prelude.{IfNone}
use Rattle.std.specs.Str.Parse.{AllDigits, digits_value, ParsesUnsigned}
use Rattle.std.specs.Result.{result_ok}
use Rattle.std.proofs.lemmas.Str.Parse.{without_leading_plus_none}
use Rattle.std.proofs.lemmas.Int.Digits.{digits_value-lt}
use Rattle.kl_script.specs.Digits.{IsMask}
use Rattle.kl_script.proofs.Splitting.{tails}

-- six digits are below 2 ^ 32
below : (digits : List ℕ) → AllDigits 16 digits → length digits ≤ 6 → digits_value 16 digits < 2 ^ 32
below digits all short =
    let most : 16 ^ length digits ≤ 16 ^ 6 = pow-le-pow_right (lit< tt) short in
    omega (arith, digits_value-lt 16 digits all, most)

pub mask_none : {E : Type 0} (digits : List ℕ) (r : Result ℕ E) → ParsesUnsigned 32 16 digits r → get_or digits 0 0 ≢ 43 → IfNone (result_ok r) ((mask : ℕ) → ¬ (IsMask (48 ∷ 120 ∷ digits) mask))
mask_none {E} digits (Ok n) h plus = tt
mask_none {E} digits (Err e) h plus = λ mask (others, same, some, short, all, value).
    let whole : digits ≡ others = tails (tails same) in
    let bare = rw (without_leading_plus_none digits plus) at h in
    bare ((subst (λ (d : List ℕ). 0 < length d) (sym whole) some, subst (AllDigits 16) (sym whole) all), subst (λ (d : List ℕ). digits_value 16 d < 2 ^ 32) (sym whole) (below others all short))
