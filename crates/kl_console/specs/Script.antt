-- A script as far as it was executed: its lines, the commands that they spell, and what these printed.
use Rattle.std.specs.Prelude.{ℕ, ◌+◌, ◌≤◌, List, [], ◌∷◌, ◌++◌, length, All, sum_by, Option, codes, decimal}
use Rattle.std.specs.List.{concat, AllZip}
use Rattle.kl_script.specs.Commands.{CommandFields, Spells}
use Rattle.kl_session.specs.Outside.{Outside}
use Rattle.kl_session.specs.Calls.{SessionFields, empty}
use Rattle.kl_session.specs.Session.{Does, Follows}
use Rattle.kl_session.specs.Texts.{newline}
use Rattle.kl_console.specs.Lines.{IsLine, ended, script_limit, Comes}

-- Lines that were executed, each by its newline, in a session that began with nothing. The objects of the outside told the one
-- before it, and the other after it.
pub record Executed (o o' : Outside) : Type 0 where
  pub lines : List (List ℕ)
  pub each : All IsLine lines
  pub fits : length (ended lines) ≤ script_limit
  pub commands : List CommandFields
  pub spelled : AllZip Spells lines commands
  pub texts : List (List ℕ)
  pub last : SessionFields
  pub follows : Follows o o' empty commands texts last

-- the bytes of the lines
abbrev pub script_of : {o o' : Outside} → Executed o o' → List ℕ
script_of s = ended s.lines

-- how many bytes they are
abbrev pub offset_of : {o o' : Outside} → Executed o o' → ℕ
offset_of s = length (ended s.lines)

-- all that was printed
abbrev pub printed : {o o' : Outside} → Executed o o' → List ℕ
printed s = concat s.texts

-- how many puts a text takes: an empty one, as that of a comment, takes none
abbrev pub puts_of : List ℕ → ℕ
puts_of [] = 0
puts_of (byte ∷ bytes) = 1

-- how many puts there were
abbrev pub puts_before : {o o' : Outside} → Executed o o' → ℕ
puts_before s = sum_by puts_of s.texts

-- the number of the next line, from 1
abbrev pub next_number : {o o' : Outside} → Executed o o' → ℕ
next_number s = length s.lines + 1

-- the line of this number, from 1, spells no command or is too long
abbrev pub fault_line : ℕ → List ℕ
fault_line number = codes "fault line " ++ decimal number ++ newline

-- the line spells no command
abbrev pub SpellsNone : List ℕ → Type 0
SpellsNone line = (c : CommandFields) → ¬ (Spells line c)

-- behind so many bytes of a script comes a line that spells no command
abbrev pub HasNoCommand : ℕ → Option (List ℕ) → List ℕ → Type 0
HasNoCommand offset left bytes = (line : List ℕ) × Comes offset left bytes line × SpellsNone line

-- A line comes behind those that were executed, and its command leads to this session and prints this text.
pub record DoesNext {o then : Outside} (s : Executed o then) (o' : Outside) (NextLine : List ℕ → Type 0) (next : SessionFields) (text : List ℕ) : Type 0 where
  pub line : List ℕ
  pub next_line : NextLine line
  pub command : CommandFields
  pub spelled : Spells line command
  pub does : Does then o' s.last command next text
