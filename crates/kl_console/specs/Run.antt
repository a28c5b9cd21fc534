-- What a run reads and writes, by how it ends.
use Rattle.std.specs.Prelude.{◌≡◌, ◌≢◌, ◌⊎◌, ℕ, ◌+◌, ◌≤◌, List, [], ◌∷◌, ◌++◌, length, Contains, Option, Some, None}
use Rattle.std.specs.Io.KnownBytes.{Appends, Consumes, IsAtEnd}
use Rattle.kl_io.specs.Told.{SinkTold, SourceTold}
use Rattle.kl_script.specs.Commands.{CommandFields, Spells}
use Rattle.kl_core.specs.Books.{BookFields}
use Rattle.kl_history.specs.Legal.{Legal}
use Rattle.kl_session.specs.declared.stop.Stop.{Stop}
use Rattle.kl_session.specs.declared.stop.Stop.TheVariants.{NoNonce, Memory}
use Rattle.kl_session.specs.Outside.{Outside}
use Rattle.kl_session.specs.Calls.{SessionFields}
use Rattle.kl_session.specs.Closing.{IsEnded}
use Rattle.kl_session.specs.Stopped.{IsStopped}
use Rattle.kl_console.specs.Calls.{FailsAtLast, count_after}
use Rattle.kl_console.specs.Lines.{IsPart, IsLastLine, Comes, IsOverLimit}
use Rattle.kl_console.specs.Script.{Executed, script_of, offset_of, printed, puts_of, puts_before, next_number, fault_line, HasNoCommand, DoesNext}

-- what the objects of a run tell at a moment
pub record Moment : Type 0 where
  pub script : SourceTold
  pub out : SinkTold
  pub outside : Outside

abbrev pub moment : SourceTold → SinkTold → Outside → Moment
moment script out outside = record { script = script; out = out; outside = outside }

-- Between two moments the one was taken from the script, by at most one read more than it has bytes; the other was put into the
-- output, and there were so many puts. Where an object does not tell, nothing is said of its bytes.
pub record Ran (before after : Moment) (consumed written : List ℕ) (puts : ℕ) : Type 0 where
  pub read : Consumes before.script.left after.script.left consumed
  pub reads : after.script.calls.made ≤ before.script.calls.made + length consumed + 1
  pub wrote : Appends before.out.held after.out.held written
  pub put : after.out.calls.made ≡ count_after puts before.out.calls.made

-- the history at the end is legal, and it is that of the session, with the polls that were open dropped and the releases that were open
-- withdrawn; its notices are delivered as far as those of the session
pub record IsBook (s : SessionFields) (B : BookFields) : Type 0 where
  pub ended : IsEnded s.verifier.history B.history
  pub marks : B.marks ≡ s.verifier.marks
  pub legal : Legal B.history

-- The whole script was read and executed: each of its lines has its newline,
abbrev pub EndsWithNewline : Moment → Moment → BookFields → Type 0
EndsWithNewline before after B =
    (s : Executed before.outside after.outside) × Ran before after (script_of s) (printed s) (puts_before s) × IsBook s.last B

-- or the last one lacks it.
abbrev pub LacksNewline : Moment → Moment → BookFields → Type 0
LacksNewline before after B =
    (then : Outside) × (s : Executed before.outside then) × (next : SessionFields) × (text : List ℕ)
    × (d : DoesNext s after.outside (IsLastLine (offset_of s) after.script.left) next text)
    × Ran before after (script_of s ++ d.line) (printed s ++ text) (puts_before s + puts_of text) × IsBook next B

-- 0: all of the script was read, each line was executed, and the text of each was written by one put
abbrev pub IsDone : Moment → Moment → BookFields → Type 0
IsDone before after B = IsAtEnd after.script.left × (EndsWithNewline before after B ⊎ LacksNewline before after B)

-- the texts of the lines before a bad one were written, and by one put more which line that is
abbrev pub Complains : Moment → Moment → BookFields → (ℕ → Option (List ℕ) → List ℕ → Type 0) → Type 0
Complains before after B IsBad =
    (s : Executed before.outside after.outside) × (rest : List ℕ)
    × Ran before after (script_of s ++ rest) (printed s ++ fault_line (next_number s)) (puts_before s + 1)
    × IsBad (offset_of s) after.script.left rest × IsBook s.last B

-- 3: a line spells no command
abbrev pub IsFaulty : Moment → Moment → BookFields → Type 0
IsFaulty before after B = Complains before after B HasNoCommand

-- 8: a line is too long, or the script is
abbrev pub IsOver : Moment → Moment → BookFields → Type 0
IsOver before after B = Complains before after B (λ offset left rest. IsOverLimit offset rest)

-- 4: what was read ends in the midst of a line or behind one, and passes no limit; the texts of the lines before were written
abbrev pub IsBroken : Moment → Moment → BookFields → Type 0
IsBroken before after B =
    (s : Executed before.outside after.outside) × (part : List ℕ) × Ran before after (script_of s ++ part) (printed s) (puts_before s)
    × IsPart (offset_of s) part × IsBook s.last B

-- behind the lines that were executed comes one whose command was not answered
pub record StopsNext {o then : Outside} (s : Executed o then) (why : Stop) (o' : Outside) (left : Option (List ℕ)) (bytes : List ℕ)
    (next : SessionFields) : Type 0 where
  pub line : List ℕ
  pub next_line : Comes (offset_of s) left bytes line
  pub command : CommandFields
  pub spelled : Spells line command
  pub stopped : IsStopped why then o' s.last command next

-- 6: a nonce or a secret was to be drawn, and could not be; the texts of the lines before were written
abbrev pub LacksWords : Moment → Moment → BookFields → Type 0
LacksWords before after B =
    (then : Outside) × (s : Executed before.outside then) × (rest : List ℕ)
    × Ran before after (script_of s ++ rest) (printed s) (puts_before s)
    × StopsNext s NoNonce after.outside after.script.left rest s.last × IsBook s.last B

-- what is to be printed of these bytes: the text of the line that comes, or that it is bad
abbrev pub CanPrint : {o then : Outside} → Executed o then → Outside → Option (List ℕ) → List ℕ → SessionFields → List ℕ → Type 0
CanPrint {o} {then} s o' left bytes next text =
    ((text ≢ []) × DoesNext s o' (Comes (offset_of s) left bytes) next text)
    ⊎ ((HasNoCommand (offset_of s) left bytes ⊎ IsOverLimit (offset_of s) bytes) × (o' ≡ then) × (next ≡ s.last) × (text ≡ fault_line (next_number s)))

-- 5: the texts of the lines before were written, and by one put more a front of what is to be printed next
abbrev pub IsCutOff : Moment → Moment → BookFields → Type 0
IsCutOff before after B =
    (then : Outside) × (s : Executed before.outside then) × (rest : List ℕ) × (next : SessionFields) × (front : List ℕ) × (lost : List ℕ)
    × Ran before after (script_of s ++ rest) (printed s ++ front) (puts_before s + 1)
    × CanPrint s after.outside after.script.left rest next (front ++ lost) × IsBook next B

-- memory ran out between two commands, or a command was not answered for want of it
abbrev pub RunsShort : {o then : Outside} → Executed o then → Outside → Option (List ℕ) → List ℕ → SessionFields → Type 0
RunsShort {o} {then} s o' left bytes next = ((o' ≡ then) × (next ≡ s.last)) ⊎ StopsNext s Memory o' left bytes next

-- 70: the texts of the lines before were written, each whole and by one put
abbrev pub LacksMemory : Moment → Moment → BookFields → Type 0
LacksMemory before after B =
    (then : Outside) × (s : Executed before.outside then) × (rest : List ℕ) × (next : SessionFields)
    × Ran before after (script_of s ++ rest) (printed s) (puts_before s)
    × RunsShort s after.outside after.script.left rest next × IsBook next B

-- What a run comes to, by the number with which it ends, and the book at its end; which call met a fault.
pub record EndsAs (before after : Moment) (status : ℕ) (B : BookFields) : Type 0 where
  pub done : status ≡ 0 → IsDone before after B
  pub fault : status ≡ 3 → IsFaulty before after B
  pub read_fault : status ≡ 4 → IsBroken before after B
  pub read_cause : FailsAtLast before.script.calls after.script.calls (status ≡ 4)
  pub write_fault : status ≡ 5 → IsCutOff before after B
  pub write_cause : FailsAtLast before.out.calls after.out.calls (status ≡ 5)
  pub nonce_fault : status ≡ 6 → LacksWords before after B
  pub over : status ≡ 8 → IsOver before after B
  pub memory : status ≡ 70 → LacksMemory before after B

-- the book, an empty one where there is none
abbrev pub book_or_empty : Option BookFields → BookFields
book_or_empty (Some B) = B
book_or_empty None = record { history = []; marks = 0 }

-- the numbers with which a run ends
abbrev pub IsStatus : ℕ → Type 0
IsStatus n = Contains (0 ∷ 2 ∷ 3 ∷ 4 ∷ 5 ∷ 6 ∷ 8 ∷ 70 ∷ []) n
