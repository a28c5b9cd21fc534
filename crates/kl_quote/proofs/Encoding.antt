-- Base64 has no colon, and stands for one list of bytes.
use Rattle.std.proofs.Common.{◌≡◌, ◌≢◌, ℕ, ◌+◌, ◌*◌, ◌/◌, ◌%◌, ◌==◌, cond, Bool, true, not, List, [], ◌∷◌, length, slice_index, replicate, refl, sym, ap, ◌∙◌, arith, inl, inr}
use Rattle.std.specs.List.{list_all}
use Rattle.std.proofs.lemmas.List.{get_or_past}
use Rattle.std.proofs.lemmas.List.Sums.{AllPass-from_list_all}
use Rattle.std.proofs.lemmas.List.Folds.{sum_by-replicate}
use Rattle.std.proofs.lemmas.Bool.{cases_lt}
use Rattle.base64.specs.Engines.{standard}
use Rattle.base64.specs.GeneralPurpose.{IsBytes, decode_of, engine_symbols}
use Rattle.base64.specs.Rfc4648.{encode_symbols, padding_len}
use Rattle.base64.proofs.EngineFacts.{decode_of-encode_of}
use Rattle.kl_quote.specs.QuoteText.{base64, colons}
use Rattle.kl_quote.proofs.Colons.{colons-append, colons_other}

abbrev symbols : List ℕ
symbols = engine_symbols standard

abbrev is_other : ℕ → Bool
is_other b = not (b == 58)

-- each symbol of the alphabet passes the test
others : list_all is_other symbols ≡ true
others = refl

not_colon : (b : ℕ) → is_other b ≡ true → b ≢ 58
not_colon b h e =
    let bad : is_other 58 ≡ true = rw e at h in
    cc

symbol_other : (i : ℕ) → slice_index symbols i ≢ 58
symbol_other i = elim (cases_lt i 64) [
  | inl below ↦ not_colon (slice_index symbols i) (AllPass-from_list_all is_other symbols others i 0 below)
  | inr past ↦ λ e. (let zero_there : slice_index symbols i ≡ 0 = get_or_past symbols i 0 past in absurd (omega arith))
]

-- a symbol of the table is no colon
symbol_passed : (t : List ℕ) → ((i : ℕ) → slice_index t i ≢ 58) → (i : ℕ) (xs : List ℕ) → colons (slice_index t i ∷ xs) ≡ colons xs
symbol_passed t each i xs = colons_other (slice_index t i) xs (each i)

colons-encode_symbols : (t m : List ℕ) → ((i : ℕ) → slice_index t i ≢ 58) → colons (encode_symbols t m) ≡ 0
unfolding encode_symbols
colons-encode_symbols t [] each = refl
colons-encode_symbols t (a ∷ []) each =
    let y : ℕ = a % 4 * 16 in
    symbol_passed t each (a / 4) (slice_index t y ∷ []) ∙ symbol_passed t each y []
colons-encode_symbols t (a ∷ b ∷ []) each =
    let y : ℕ = a % 4 * 16 + b / 16 in
    let z : ℕ = b % 16 * 4 in
    symbol_passed t each (a / 4) (slice_index t y ∷ slice_index t z ∷ [])
    ∙ symbol_passed t each y (slice_index t z ∷ []) ∙ symbol_passed t each z []
colons-encode_symbols t (a ∷ b ∷ c ∷ rest) each =
    let x : ℕ = a % 4 * 16 + b / 16 in
    let y : ℕ = b % 16 * 4 + c / 64 in
    let z : ℕ = c % 64 in
    let after : List ℕ = encode_symbols t rest in
    symbol_passed t each (a / 4) (slice_index t x ∷ slice_index t y ∷ slice_index t z ∷ after)
    ∙ symbol_passed t each x (slice_index t y ∷ slice_index t z ∷ after)
    ∙ symbol_passed t each y (slice_index t z ∷ after) ∙ symbol_passed t each z after
    ∙ colons-encode_symbols t rest each

colons-padding : (n : ℕ) → colons (replicate n 61) ≡ 0
colons-padding n = sum_by-replicate (λ b. cond (b == 58) 1 0) n 61 ∙ omega arith

pub colons-base64 : (m : List ℕ) → colons (base64 m) ≡ 0
colons-base64 m =
    let front = colons-encode_symbols symbols m symbol_other in
    let padding = colons-padding (padding_len (length m)) in
    colons-append (encode_symbols symbols m) (replicate (padding_len (length m)) 61)
    ∙ rw (front, padding) refl

-- bytes from their base64
pub base64_unique : (a b : List ℕ) → IsBytes a → IsBytes b → base64 a ≡ base64 b → a ≡ b
base64_unique a b a_bytes b_bytes e =
    let same = sym (decode_of-encode_of standard a refl a_bytes) ∙ ap (λ (text : List ℕ). decode_of standard text) e
    ∙ decode_of-encode_of standard b refl b_bytes in
    cc same
