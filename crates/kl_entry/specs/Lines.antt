-- The lines of a measurement list in the template `ima-ng`, as the kernel's
-- ascii_runtime_measurements has them, and which entry a line spells.
use Rattle.std.specs.Prelude.{◌≡◌, ◌≢◌, ℕ, ◌<◌, ◌≤◌, ◌%◌, ◌==◌, ◌||◌, ◌&&◌, nat_le, Bool, List, [], ◌∷◌, ◌++◌, length, codes, All, Contains, if◌then◌else◌, ◌⊎◌}
use Rattle.std.specs.List.{AllPass, AllZip, join_with_byte}
use Rattle.hex.specs.Hex.{encode_lower}
use Rattle.kl_base.specs.Bytes.{IsBytes}
use Rattle.kl_base.specs.Digits.{is_lower_digit}
use Rattle.kl_entry.specs.declared.fault.LineFault.{LineFault}
use Rattle.kl_entry.specs.declared.fault.LineFault.TheVariants.{TooLong, Pcr, HashText, Template, Digest, Path}
use Rattle.kl_entry.specs.Entries.{EntryFields}

-- ---- A text is cut at each newline, byte 10. A last piece that is not empty is a line too.

-- a byte at the front of the first line
abbrev pub onto_first : ℕ → List (List ℕ) → List (List ℕ)
onto_first b [] = (b ∷ []) ∷ []
onto_first b (line ∷ more) = (b ∷ line) ∷ more

unfoldable pub lines_of : List ℕ → List (List ℕ)
lines_of [] = []
lines_of (b ∷ bs) = if b == 10 then [] ∷ lines_of bs else onto_first b (lines_of bs)

-- The lines with a newline between each two are the text, up to a newline at its end.
abbrev pub RejoinsTo : List (List ℕ) → List ℕ → Type 0
RejoinsTo lines text = (join_with_byte 10 lines ≡ text) ⊎ (join_with_byte 10 lines ++ 10 ∷ [] ≡ text)

-- The item at this place, counted from 0, is the first that fails, and those before it are good.
pub record IsFirstFailing {A : Type 0} (Good Fails : A → Type 0) (items : List A) (place : ℕ) : Type 0 where
  pub before : List A
  pub item : A
  pub after : List A
  pub cut : items ≡ before ++ item ∷ after
  pub counted : length before ≡ place
  pub good : All Good before
  pub fails : Fails item

-- ---- The parts of a line.

-- a byte of an algorithm's name, of a-z0-9_-
abbrev pub is_name_byte : ℕ → Bool
is_name_byte c = (nat_le 97 c && nat_le c 122) || (nat_le 48 c && nat_le c 57) || (c == 95) || (c == 45)

-- the text of a template hash: 40 digits
pub record IsHashText (text : List ℕ) : Type 0 where
  pub len : length text ≡ 40
  pub digits : AllPass is_lower_digit text

-- the name of an algorithm: 1 to 32 bytes
pub record IsName (name : List ℕ) : Type 0 where
  pub some : 1 ≤ length name
  pub short : length name ≤ 32
  pub bytes : AllPass is_name_byte name

-- the text of a file's digest: an even number of digits from 0 to 128
pub record IsDigestText (text : List ℕ) : Type 0 where
  pub even : length text % 2 ≡ 0
  pub short : length text ≤ 128
  pub digits : AllPass is_lower_digit text

-- the byte stands nowhere in the text
abbrev pub HasNo : ℕ → List ℕ → Type 0
HasNo byte text = ¬ (Contains text byte)

-- a path: not empty, and without a newline
pub record IsPath (path : List ℕ) : Type 0 where
  pub some : path ≢ []
  pub one_line : HasNo 10 path

-- ---- What a line spells.

-- the one line of an entry
unfoldable pub line_of : EntryFields → List ℕ
line_of e = codes "10 " ++ encode_lower e.hash ++ codes " ima-ng " ++ e.alg ++ codes ":" ++ encode_lower e.digest ++ codes " " ++ e.path

-- what a line can spell
pub record IsEntry (e : EntryFields) : Type 0 where
  pub hash : length e.hash ≡ 20
  pub hash_bytes : IsBytes e.hash
  pub alg : IsName e.alg
  pub digest : length e.digest ≤ 64
  pub digest_bytes : IsBytes e.digest
  pub path : IsPath e.path
  pub short : length (line_of e) ≤ 8192

abbrev pub Spells : List ℕ → EntryFields → Type 0
Spells line e = IsEntry e × (line ≡ line_of e)

-- The lines of the text spell these entries, each its own, in order.
abbrev pub AreEntries : List ℕ → List EntryFields → Type 0
AreEntries text entries = AllZip Spells (lines_of text) entries

-- ---- Why a line spells none: the beginnings of a line, each a part longer than the one before, and
-- what follows them. 32 is a space and 58 a colon.

abbrev pub AfterPcr : List ℕ → List ℕ → Type 0
AfterPcr line rest = line ≡ codes "10 " ++ rest

abbrev pub AfterHash : List ℕ → List ℕ → Type 0
AfterHash line rest = (text : List ℕ) × IsHashText text × AfterPcr line (text ++ 32 ∷ rest)

abbrev pub AfterTemplate : List ℕ → List ℕ → Type 0
AfterTemplate line rest = AfterHash line (codes "ima-ng " ++ rest)

abbrev pub AfterDigest : List ℕ → List ℕ → Type 0
AfterDigest line rest = (name : List ℕ) × (text : List ℕ) × IsName name × IsDigestText text × AfterTemplate line (name ++ 58 ∷ (text ++ 32 ∷ rest))

-- the line passes the test of which this fault tells
abbrev pub PassesTest : LineFault → List ℕ → Type 0
PassesTest TooLong line = length line ≤ 8192
PassesTest Pcr line = (rest : List ℕ) × AfterPcr line rest
PassesTest HashText line = (rest : List ℕ) × AfterHash line rest
PassesTest Template line = (rest : List ℕ) × AfterTemplate line rest
PassesTest Digest line = (rest : List ℕ) × AfterDigest line rest
PassesTest Path line = (rest : List ℕ) × AfterDigest line rest × IsPath rest

-- the place of a test in their order
abbrev pub order : LineFault → ℕ
order TooLong = 0
order Pcr = 1
order HashText = 2
order Template = 3
order Digest = 4
order Path = 5

-- The fault of a line is the first test that fails.
pub record IsLineFault (line : List ℕ) (fault : LineFault) : Type 0 where
  pub earlier : (f : LineFault) → order f < order fault → PassesTest f line
  pub fails : ¬ (PassesTest fault line)
