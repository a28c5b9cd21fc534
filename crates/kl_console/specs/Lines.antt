-- Lines of a stream of bytes, each ended by a newline, which the last one may lack.
use Rattle.std.specs.Prelude.{◌≡◌, ◌≢◌, ◌⊎◌, ℕ, ◌+◌, ◌≤◌, ◌<◌, List, [], ◌∷◌, ◌++◌, length, Option}
use Rattle.std.specs.Io.KnownBytes.{IsAtEnd}
use Rattle.kl_entry.specs.Lines.{HasNo}

-- the most bytes that a line may have, its newline not counted
abbrev pub line_limit : ℕ
line_limit = 16777216

-- the most bytes that a script may have, all newlines counted
abbrev pub script_limit : ℕ
script_limit = 1099511627776

-- a line, without its newline
pub record IsLine (line : List ℕ) : Type 0 where
  pub whole : HasNo 10 line
  pub short : length line ≤ line_limit

-- bytes that begin a line which passes the limit
pub record IsTooLong (bytes : List ℕ) : Type 0 where
  pub whole : HasNo 10 bytes
  pub long : line_limit < length bytes

-- lines, each with its newline
abbrev pub ended : List (List ℕ) → List ℕ
ended [] = []
ended (line ∷ lines) = line ++ 10 ∷ ended lines

-- Behind so many bytes of a script, these begin with a line and its newline, and then come more.
pub record IsEndedLine (offset : ℕ) (bytes line more : List ℕ) : Type 0 where
  pub parts : bytes ≡ line ++ 10 ∷ more
  pub is_line : IsLine line
  pub fits : offset + length line + 1 ≤ script_limit

-- Behind so many bytes of a script, these are of one line, and pass no limit.
pub record IsPart (offset : ℕ) (part : List ℕ) : Type 0 where
  pub is_line : IsLine part
  pub fits : offset + length part ≤ script_limit

-- Behind so many bytes of a script, this is its last line, which lacks its newline.
pub record IsLastLine (offset : ℕ) (left : Option (List ℕ)) (line : List ℕ) : Type 0 where
  pub some : line ≢ []
  pub part : IsPart offset line
  pub at_end : IsAtEnd left

-- Behind so many bytes of a script this line comes, with which these bytes begin; behind them this is left of the script.
abbrev pub Comes : ℕ → Option (List ℕ) → List ℕ → List ℕ → Type 0
Comes offset left bytes line = ((more : List ℕ) × IsEndedLine offset bytes line more) ⊎ ((bytes ≡ line) × IsLastLine offset left line)

-- the bytes begin with more of a line than a line may have
abbrev pub PassesLine : List ℕ → Type 0
PassesLine bytes = (long : List ℕ) × (more : List ℕ) × (bytes ≡ long ++ more) × IsTooLong long

-- Behind so many bytes of a script, these begin with a part of a line behind which a byte more, be it its newline, is one too many.
abbrev pub PassesScript : ℕ → List ℕ → Type 0
PassesScript offset bytes =
    (part : List ℕ) × (byte : ℕ) × (more : List ℕ) × (bytes ≡ part ++ byte ∷ more) × HasNo 10 part × (script_limit ≤ offset + length part)

-- the next line passes the limit of a line, or the script passes its own in it
abbrev pub IsOverLimit : ℕ → List ℕ → Type 0
IsOverLimit offset bytes = PassesLine bytes ⊎ PassesScript offset bytes
