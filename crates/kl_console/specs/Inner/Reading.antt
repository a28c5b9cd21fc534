-- What a reader of lines holds, and what it finds.
use Rattle.std.specs.Prelude.{◌≡◌, ◌⊎◌, ℕ, ◌+◌, ◌<◌, ◌≤◌, Bool, true, false, List, [], ◌∷◌, ◌++◌, length, take, drop, ⊤, Option, Result, Ok, Err}
use Rattle.std.specs.Io.KnownBytes.{Consumes, IsAtEnd}
use Rattle.kl_entry.specs.Lines.{HasNo}
use Rattle.kl_io.specs.Told.{SourceTold}
use Rattle.kl_console.specs.Lines.{line_limit, script_limit, IsPart, IsEndedLine, IsLastLine, IsOverLimit}
use Rattle.kl_console.specs.declared.line_reader.Found.{Found}
use Rattle.kl_console.specs.declared.line_reader.Found.TheVariants.{Line, Last, End, TooLong}
use Rattle.kl_console.specs.declared.line_reader.ReadError.{ReadError}
use Rattle.kl_console.specs.declared.line_reader.ReadError.TheVariants.{Failed, Memory}

pub record Reading : Type 0 where
  -- the line that it reads
  pub line : List ℕ
  -- the bytes after it that the source has given already
  pub ahead : List ℕ
  -- how many bytes the lines take that were read to their newline
  pub passed : ℕ

-- the bytes that it holds: a newline stands between them where the line is whole
abbrev pub held_bytes : Bool → Reading → List ℕ
held_bytes true r = r.line ++ 10 ∷ r.ahead
held_bytes false r = r.line ++ r.ahead

-- how many bytes of a newline there are
abbrev pub newline_size : Bool → ℕ
newline_size true = 1
newline_size false = 0

-- the line passes its limit, or the script does in it
abbrev pub IsOver : Bool → Reading → Type 0
IsOver whole r = (line_limit < length r.line) ⊎ (script_limit < r.passed + length r.line + newline_size whole)

-- neither does
abbrev pub Fits : Bool → Reading → Type 0
Fits whole r = (length r.line ≤ line_limit) × (r.passed + length r.line + newline_size whole ≤ script_limit)

-- where the first newline stands
pub record IsNewlineAt (bytes : List ℕ) (at : ℕ) : Type 0 where
  pub inside : at < length bytes
  pub before : HasNo 10 (take at bytes)
  pub parts : bytes ≡ take at bytes ++ 10 ∷ drop (at + 1) bytes

-- what was found behind so many bytes of a script, where these are next and then what is left
abbrev pub Finds : ℕ → Option (List ℕ) → List ℕ → Reading → Result Found ReadError → Type 0
Finds offset left bytes r (Ok Line) = IsEndedLine offset bytes r.line r.ahead × (r.passed ≡ offset + length r.line + 1)
Finds offset left bytes r (Ok Last) = (bytes ≡ r.line) × IsLastLine offset left r.line
Finds offset left bytes r (Ok End) = (bytes ≡ []) × IsAtEnd left
Finds offset left bytes r (Ok TooLong) = IsOverLimit offset bytes
Finds offset left bytes r (Err Failed) = IsPart offset bytes
Finds offset left bytes r (Err Memory) = ⊤

-- these bytes were taken from the source, by reads that each gave one of them at least, but for so many
pub record Takes (source source' : SourceTold) (bytes : List ℕ) (idle : ℕ) : Type 0 where
  pub taken : Consumes source.left source'.left bytes
  pub reads : source'.calls.made ≤ source.calls.made + length bytes + idle

-- how many reads give nothing: the last one may, behind which no line comes
abbrev pub idle_reads : Result Found ReadError → ℕ
idle_reads (Ok Line) = 0
idle_reads _ = 1

-- a read of the next line: what was ahead before, and then the bytes that the source gave, are what was found
abbrev pub ReadsLine : SourceTold → SourceTold → Reading → Reading → Result Found ReadError → Type 0
ReadsLine source source' old new result =
    (consumed : List ℕ) × Takes source source' consumed (idle_reads result) × Finds old.passed source'.left (old.ahead ++ consumed) new result
