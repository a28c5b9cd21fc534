-- The hexadecimal digits of drawn bytes are a nonce.
use Rattle.std.proofs.Common.{◌≡◌, ℕ, ◌<◌, ◌/◌, ◌%◌, true, List, [], ◌∷◌, length, slice_index}
use Rattle.std.proofs.Common.{suc, Result, Ok, Err, refl, arith}
use Rattle.std.specs.Result.{IsOk, OnOk}
use Rattle.std.specs.List.{AllPass}
use Rattle.std.specs.Char.{is_ascii_alphanumeric}
use Rattle.std.proofs.lemmas.List.Elements.{All-nil, All-cons, All-get_or}
use Rattle.std.proofs.lemmas.List.Sums.{AllPass-from_list_all}
use Rattle.hex.specs.Hex.{lower_digits, encode_with, encode_lower, IsBytes}
use Rattle.hex.proofs.HexLemmas.{length-encode_with}
use Rattle.kl_states.specs.Names.{IsNonce}

abbrev Passes : ℕ → Type 0
Passes digit = is_ascii_alphanumeric digit ≡ true

digit_passes : (d : ℕ) → d < 16 → Passes (slice_index lower_digits d)
digit_passes d less = All-get_or Passes lower_digits d 0 less (AllPass-from_list_all is_ascii_alphanumeric lower_digits refl)

digits_pass : (bytes : List ℕ) → IsBytes bytes → AllPass is_ascii_alphanumeric (encode_lower bytes)
unfolding encode_with
digits_pass [] fits = All-nil Passes
digits_pass (b ∷ rest) fits =
    let less : b < 256 = fits 0 in
    let low = slice_index lower_digits (b % 16) in
    All-cons Passes (slice_index lower_digits (b / 16)) (low ∷ encode_lower rest) (digit_passes (b / 16) (omega arith))
    (All-cons Passes low (encode_lower rest) (digit_passes (b % 16) (omega arith)) (digits_pass rest (λ i. fits (suc i))))

pub is_nonce : (drawn : List ℕ) → length drawn ≡ 16 → IsBytes drawn → IsNonce (encode_lower drawn)
is_nonce drawn counted fits =
    let twice = length-encode_with lower_digits drawn in
    record { some = omega arith; fits = omega arith; each = digits_pass drawn fits }

pub at_ok : {T E : Type 0} (r : Result T E) (P : Type 0) → IsOk r → OnOk r P → P
at_ok (Ok x) P ok holds = holds
at_ok (Err e) P ok holds = cc ok
