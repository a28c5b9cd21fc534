-- Digits that are decoded pair by pair.
use Rattle.std.proofs.Common.{◌≡◌, ◌≢◌, ℕ, ◌+◌, ◌*◌, ◌<◌, Option, Some, None, Result, Ok, Err, List, [], ◌∷◌, ◌++◌, length, take, get_or, refl, sym, ap, ◌∙◌, arith, append_assoc, IfNone}
use Rattle.std.proofs.Math.ListN.{set}
use Rattle.std.proofs.lemmas.List.{take_more, take_more_set}
use Rattle.std.specs.Option.{is_some}
use Rattle.std.specs.Result.{result_unwrap_or}
use Rattle.hex.specs.Hex.{decode_of, decode_pairs, pair_value, hex_digit_value, ◌>>=◌}
use Rattle.hex.proofs.HexLemmas.{decode_of-ok}
use Rattle.hex.specs.declared.error.FromHexError.{FromHexError}

bind_ok : {A B : Type 0} (r : Result A FromHexError) (f : A → Result B FromHexError) (y : B) → (r >>= f) ≡ Ok y → (x : A) × (r ≡ Ok x) × (f x ≡ Ok y)
bind_ok (Ok x) f y h = (x, refl, h)
bind_ok (Err e) f y h = cc h

-- a pair of digits behind pairs of digits
pub decoded_push : (k : ℕ) (digits bytes : List ℕ) (high low a b : ℕ) → decode_pairs k digits ≡ Ok bytes
    → hex_digit_value high ≡ Some a → hex_digit_value low ≡ Some b
    → decode_pairs k (digits ++ high ∷ low ∷ []) ≡ Ok (bytes ++ (a * 16 + b) ∷ [])
unfolding decode_pairs
decoded_push k [] bytes high low a b h p q =
    let none : [] ≡ bytes = ap (λ (r : Result (List ℕ) FromHexError). result_unwrap_or r []) h in
    rw (← none) (rw (p, q) refl)
decoded_push k (x ∷ []) bytes high low a b h p q = cc h
decoded_push k (x ∷ y ∷ rest) bytes high low a b h p q =
    let first = bind_ok (pair_value x y k) (λ byte. decode_pairs (k + 2) rest >>= (λ more. Ok (byte ∷ more))) bytes h in
    let others = bind_ok (decode_pairs (k + 2) rest) (λ more. Ok (first.0 ∷ more)) bytes first.2 in
    let whole : first.0 ∷ others.0 ≡ bytes = ap (λ (r : Result (List ℕ) FromHexError). result_unwrap_or r []) others.2 in
    let next = decoded_push (k + 2) rest others.0 high low a b others.1 p q in
    ap (λ r. r >>= (λ byte. decode_pairs (k + 2) (rest ++ high ∷ low ∷ []) >>= (λ more. Ok (byte ∷ more)))) first.1
    ∙ ap (λ r. r >>= (λ more. Ok (first.0 ∷ more))) next
    ∙ ap (λ all. Ok (all ++ (a * 16 + b) ∷ [])) whole

-- where i pairs are decoded into a room
abbrev pub IsDecoded : List ℕ → List ℕ → ℕ → Type 0
IsDecoded digits room i = decode_pairs 0 (take (2 * i) digits) ≡ Ok (take i room)

pub decoded_none : (digits room : List ℕ) → IsDecoded digits room 0
unfolding decode_pairs
decoded_none digits room = refl

-- one more
pub decoded_more : (digits room : List ℕ) (i a b : ℕ) → 2 * i + 1 < length digits → i < length room → IsDecoded digits room i
    → hex_digit_value (get_or digits (2 * i) 0) ≡ Some a → hex_digit_value (get_or digits (2 * i + 1) 0) ≡ Some b
    → IsDecoded digits (set room i (a * 16 + b)) (i + 1)
decoded_more digits room i a b inside fits h p q =
    let two : 2 * (i + 1) ≡ 2 * i + 1 + 1 = omega arith in
    let front : take (2 * (i + 1)) digits ≡ take (2 * i) digits ++ get_or digits (2 * i) 0 ∷ get_or digits (2 * i + 1) 0 ∷ [] =
    ap (λ n. take n digits) two
    ∙ take_more digits (2 * i + 1) 0 inside
    ∙ ap (λ f. f ++ get_or digits (2 * i + 1) 0 ∷ []) (take_more digits (2 * i) 0 (omega arith))
    ∙ append_assoc (take (2 * i) digits) (get_or digits (2 * i) 0 ∷ []) (get_or digits (2 * i + 1) 0 ∷ []) in
    ap (decode_pairs 0) front
    ∙ decoded_push 0 (take (2 * i) digits) (take i room) (get_or digits (2 * i) 0) (get_or digits (2 * i + 1) 0) a b h p q
    ∙ ap Ok (sym (take_more_set room i (a * 16 + b) fits))

-- digits that decode have each a value
pub no_digit : (digits digest : List ℕ) (k : ℕ) → k < length digits → hex_digit_value (get_or digits k 0) ≡ None → decode_of digits ≢ Ok digest
no_digit digits digest k inside none h = cc (sym ((decode_of-ok digits digest h).1 k 0 inside) ∙ ap is_some none)

-- the first return of a `?` on a digit
pub no_digit_at : {T : Type 0} (o : Option T) (digits : List ℕ) (k : ℕ) → k < length digits → None ≡ hex_digit_value (get_or digits k 0)
    → IfNone o ((digest : List ℕ) → decode_of digits ≢ Ok digest)
no_digit_at None digits k inside none = λ digest. no_digit digits digest k inside (sym none)
no_digit_at (Some x) digits k inside none = tt
