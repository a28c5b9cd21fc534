-- Hexadecimal text: that it is digits, that it gives its bytes back, and how a reader lengthens it.
use Rattle.std.proofs.Common.{◌≡◌, ℕ, zero, suc, ◌+◌, ◌*◌, ◌/◌, ◌%◌, ◌<◌, ◌≤◌, true, List, [], ◌∷◌, ◌++◌, length, get_or, take, set, Result, Ok, refl, sym, ap, ◌∙◌, append_assoc, arith}
use Rattle.std.proofs.lemmas.List.{take_more, take_more_set}
use Rattle.std.proofs.lemmas.List.Elements.{All-cons, All-nil}
use Rattle.std.proofs.lemmas.List.Sums.{AllPass-from_list_all}
use Rattle.std.specs.Prelude.{slice_index}
use Rattle.std.specs.List.{AllPass}
use Rattle.hex.specs.Hex.{encode_with, encode_lower, lower_digits, decode_of}
use Rattle.hex.specs.declared.error.FromHexError.{FromHexError}
use Rattle.hex.proofs.HexLemmas.{length-encode_with, decode_of-encode_lower}
use Rattle.kl_base.specs.Bytes.{IsBytes}
use Rattle.kl_base.specs.Digits.{is_lower_digit}
use Rattle.kl_entry.specs.Lines.{IsHashText, IsDigestText}

-- ---- the sixteen digits

pub digit_is : (d : ℕ) → d < 16 → is_lower_digit (slice_index lower_digits d) ≡ true
digit_is d lt = AllPass-from_list_all is_lower_digit lower_digits refl d 0 lt

abbrev decoded : List ℕ → Result (List ℕ) FromHexError
decoded bytes = Ok bytes

ok_is : (x y : List ℕ) → decoded x ≡ decoded y → x ≡ y
ok_is x y e = cc

-- ---- the text of bytes

digits_are : (xs : List ℕ) → IsBytes xs → AllPass is_lower_digit (encode_lower xs)
unfolding encode_with
digits_are [] h = All-nil (λ c. is_lower_digit c ≡ true)
digits_are (x ∷ xs) h =
    let fits : x < 256 = h 0 in
    let high : x / 16 < 16 = omega arith in
    let low : x % 16 < 16 = omega arith in
    All-cons (λ c. is_lower_digit c ≡ true) (slice_index lower_digits (x / 16)) (slice_index lower_digits (x % 16) ∷ encode_lower xs) (digit_is (x / 16) high)
    (All-cons (λ c. is_lower_digit c ≡ true) (slice_index lower_digits (x % 16)) (encode_lower xs) (digit_is (x % 16) low) (digits_are xs (λ i. h (suc i))))

pub hash_text : (hash : List ℕ) → length hash ≡ 20 → IsBytes hash → IsHashText (encode_lower hash)
hash_text hash len bytes = record { len = omega (arith, length-encode_with lower_digits hash); digits = digits_are hash bytes }

pub digest_text : (digest : List ℕ) → length digest ≤ 64 → IsBytes digest → IsDigestText (encode_lower digest)
digest_text digest len bytes =
    let twice = length-encode_with lower_digits digest in
    record { even = omega arith; short = omega arith; digits = digits_are digest bytes }

pub same_bytes : (xs ys : List ℕ) → IsBytes xs → IsBytes ys → encode_lower xs ≡ encode_lower ys → xs ≡ ys
same_bytes xs ys hx hy e =
    let both : decoded xs ≡ decoded ys = sym (decode_of-encode_lower xs hx) ∙ ap decode_of e ∙ decode_of-encode_lower ys hy in
    ok_is xs ys both

-- ---- one byte more

encode_push : (xs : List ℕ) (v : ℕ) → encode_lower (xs ++ v ∷ []) ≡ encode_lower xs ++ slice_index lower_digits (v / 16) ∷ slice_index lower_digits (v % 16) ∷ []
unfolding encode_with
encode_push [] v = refl
encode_push (x ∷ xs) v = ap (λ (r : List ℕ). slice_index lower_digits (x / 16) ∷ slice_index lower_digits (x % 16) ∷ r) (encode_push xs v)

-- a byte that is written among bytes
pub IsBytes-set : (xs : List ℕ) (i v : ℕ) → v < 256 → IsBytes xs → IsBytes (set xs i v)
IsBytes-set [] i v lt h k = h k
IsBytes-set (x ∷ xs) zero v lt h zero = lt
IsBytes-set (x ∷ xs) zero v lt h (suc k) = h (suc k)
IsBytes-set (x ∷ xs) (suc i) v lt h zero = h zero
IsBytes-set (x ∷ xs) (suc i) v lt h (suc k) = IsBytes-set xs i v lt (λ j. h (suc j)) k

-- Two digits more are one byte more.
pub pair_read : (text bytes : List ℕ) (i high low : ℕ) → take (2 * i) text ≡ encode_lower (take i bytes) → 2 * i + 1 < length text → i < length bytes → high < 16 → low < 16
    → slice_index lower_digits high ≡ get_or text (2 * i) 0 → slice_index lower_digits low ≡ get_or text (2 * i + 1) 0
    → take (2 * (i + 1)) text ≡ encode_lower (take (i + 1) (set bytes i (high * 16 + low)))
pair_read text bytes i high low so_far in_text in_bytes h l is_high is_low =
    let front : take (i + 1) (set bytes i (high * 16 + low)) ≡ take i bytes ++ (high * 16 + low) ∷ [] = take_more_set bytes i (high * 16 + low) in_bytes in
    let hq : (high * 16 + low) / 16 ≡ high = omega arith in
    let lq : (high * 16 + low) % 16 ≡ low = omega arith in
    let twice : 2 * (i + 1) ≡ 2 * i + 1 + 1 = omega arith in
    let back : take (2 * (i + 1)) text ≡ take (2 * i) text ++ get_or text (2 * i) 0 ∷ get_or text (2 * i + 1) 0 ∷ [] =
    ap (λ (k : ℕ). take k text) twice ∙ take_more text (2 * i + 1) 0 in_text
    ∙ ap (λ (x : List ℕ). x ++ get_or text (2 * i + 1) 0 ∷ []) (take_more text (2 * i) 0 (omega arith))
    ∙ append_assoc (take (2 * i) text) (get_or text (2 * i) 0 ∷ []) (get_or text (2 * i + 1) 0 ∷ []) in
    back ∙ rw (so_far, ← is_high, ← is_low, front, encode_push, hq, lq) refl

pub encode_none : encode_lower [] ≡ []
unfolding encode_with
encode_none = refl
