-- How texts and numbers stand in a line of a script.
use Rattle.std.specs.Prelude.{◌≡◌, ◌≢◌, ◌⊎◌, ℕ, ◌<◌, ◌==◌, ◌^◌, List, [], ◌∷◌, ◌++◌, length, slice_index, codes, flat_map, if◌then◌else◌}
use Rattle.std.specs.List.{join_with_byte, AllByRecursion}
use Rattle.std.specs.Fmt.{decimal}

-- the byte stands nowhere in the text
abbrev pub HasNo : ℕ → List ℕ → Type 0
HasNo byte text = (i : ℕ) → i < length text → slice_index text i ≢ byte

-- the text is so many words, each before one space, and the rest
pub record IsSplit (text : List ℕ) (count : ℕ) (words : List (List ℕ)) (rest : List ℕ) : Type 0 where
  pub counted : length words ≡ count
  pub spaceless : AllByRecursion (HasNo 32) words
  pub joined : text ≡ join_with_byte 32 (words ++ rest ∷ [])

-- behind a backslash `s` stands for a space, `n` for a newline, and a backslash for itself
abbrev pub StandsFor : ℕ → ℕ → Type 0
StandsFor letter byte = ((letter ≡ 115) × (byte ≡ 32)) ⊎ (((letter ≡ 110) × (byte ≡ 10)) ⊎ ((letter ≡ 92) × (byte ≡ 92)))

-- a byte that is no backslash spells itself, and a backslash and its letter spell what the letter stands for
abbrev pub SpellsByte : List ℕ → ℕ → Type 0
SpellsByte spelling byte = ((byte ≢ 92) × (spelling ≡ byte ∷ [])) ⊎ ((letter : ℕ) × StandsFor letter byte × (spelling ≡ 92 ∷ letter ∷ []))

-- what is written spells the text, byte by byte
abbrev pub IsEscaped : List ℕ → List ℕ → Type 0
IsEscaped written [] = written ≡ []
IsEscaped written (byte ∷ text) = (spelling : List ℕ) × (rest : List ℕ) × (written ≡ spelling ++ rest) × SpellsByte spelling byte × IsEscaped rest text

-- a field has no space: it spells a text that is not empty, or it is `\0`, the empty text
abbrev pub IsField : List ℕ → List ℕ → Type 0
IsField written text = HasNo 32 written × (((text ≢ []) × IsEscaped written text) ⊎ ((text ≡ []) × (written ≡ codes "\\0")))

-- how a byte is written in a field
abbrev pub spelling_of : ℕ → List ℕ
spelling_of byte =
    if byte == 32 then codes "\\s" else (if byte == 10 then codes "\\n" else (if byte == 92 then codes "\\\\" else byte ∷ []))

-- the field as which a text is written: of those that spell it the one without a newline
abbrev pub field_of : List ℕ → List ℕ
field_of [] = codes "\\0"
field_of (byte ∷ text) = flat_map spelling_of (byte ∷ text)

-- the decimal text of a number below 2 ^ 64, without a sign or a leading zero; that of zero is `0`
abbrev pub IsNumber : List ℕ → ℕ → Type 0
IsNumber written n = (n < 2 ^ 64) × (written ≡ decimal n)
