-- The text of a quote: `r`, and the attestation structure, its signature and the PCR values that it
-- covers, each in base64 with the standard alphabet and padding (RFC 4648, section 4) and parted by
-- colons. Each part has its one canonical text, and an empty part stands for no bytes.
use Rattle.std.specs.Prelude.{◌≡◌, ℕ, zero, suc, ◌==◌, List, [], ◌∷◌, ◌++◌, codes}
use Rattle.std.specs.List.{count_by}
use Rattle.std.specs.declared.result.Result.{Result}
use Rattle.std.specs.declared.result.Result.TheVariants.{Ok, Err}
use Rattle.base64.specs.Engines.{standard}
use Rattle.base64.specs.GeneralPurpose.{encode_of}
use Rattle.kl_base.specs.Bytes.{IsBytes}
use Rattle.kl_quote.specs.declared.quote.Quote.{Quote}
use Rattle.kl_quote.specs.declared.quote.QuoteFault.{QuoteFault}
use Rattle.kl_quote.specs.declared.quote.QuoteFault.TheVariants.{Form, Memory}

-- ---- The text

-- the base64 of some bytes
abbrev pub base64 : List ℕ → List ℕ
base64 bytes = encode_of standard bytes

-- three parts behind an `r`, parted by colons
abbrev pub text_of_parts : List ℕ → List ℕ → List ℕ → List ℕ
text_of_parts first second third =
    codes "r" ++ first ++ codes ":" ++ second ++ codes ":" ++ third

-- the text of a quote
abbrev pub quote_text : List ℕ → List ℕ → List ℕ → List ℕ
quote_text attest signature values = text_of_parts (base64 attest) (base64 signature) (base64 values)

-- the text is the quote of these three
pub record IsQuoteText (text attest signature values : List ℕ) : Type 0 where
  pub attest_bytes : IsBytes attest
  pub signature_bytes : IsBytes signature
  pub value_bytes : IsBytes values
  pub spelled : text ≡ quote_text attest signature values

-- ---- What is no quote

-- how many colons a text has
abbrev pub colons : List ℕ → ℕ
colons text = count_by (λ b. b == 58) text

-- the text begins with `r` and has exactly two colons
abbrev pub HasForm : List ℕ → Type 0
HasForm text = (rest : List ℕ) × (text ≡ codes "r" ++ rest) × (colons text ≡ 2)

-- the three parts of a text that has the form
pub record AreParts (text first second third : List ℕ) : Type 0 where
  pub joined : text ≡ text_of_parts first second third
  pub first_whole : colons first ≡ 0
  pub second_whole : colons second ≡ 0
  pub third_whole : colons third ≡ 0

-- the part is the base64 of these bytes
abbrev pub IsBase64Of : List ℕ → List ℕ → Type 0
IsBase64Of part bytes = IsBytes bytes × (part ≡ base64 bytes)

-- the part is the base64 of some bytes
abbrev pub IsBase64 : List ℕ → Type 0
IsBase64 part = (bytes : List ℕ) × IsBase64Of part bytes

-- the part at this place, counted from 0, is no base64, and each before it is
abbrev pub IsFirstBad : List (List ℕ) → ℕ → Type 0
IsFirstBad [] place = ⊥
IsFirstBad (part ∷ parts) zero = ¬ IsBase64 part
IsFirstBad (part ∷ parts) (suc place) = IsBase64 part × IsFirstBad parts place

-- the fault of a text: 0 where it lacks the form, and else the number, from 1 on, of the first part that is no base64
abbrev pub IsFormFault : List ℕ → ℕ → Type 0
IsFormFault text zero = ¬ HasForm text
IsFormFault text (suc place) =
    (first : List ℕ) × (second : List ℕ) × (third : List ℕ)
    × AreParts text first second third × IsFirstBad (first ∷ second ∷ third ∷ []) place

-- ---- What reading answers

-- these three are what was read, unless memory ran out
abbrev pub ReadsAs : Result Quote QuoteFault → List ℕ → List ℕ → List ℕ → Type 0
ReadsAs (Ok q) attest signature values =
    (q.attest ≡ attest) × (q.signature ≡ signature) × (q.pcrs ≡ values)
ReadsAs (Err Memory) attest signature values = Unit {0}
ReadsAs (Err (Form part)) attest signature values = ⊥

-- a text with this fault was answered by it, unless memory ran out
abbrev pub FailsAs : Result Quote QuoteFault → ℕ → Type 0
FailsAs (Ok q) part = ⊥
FailsAs (Err Memory) part = Unit {0}
FailsAs (Err (Form found)) part = found ≡ part
