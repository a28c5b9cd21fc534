-- One turn of a run: a line is read, what it says is done, and the text of that is printed.
use Rattle.std.specs.Prelude.{◌≡◌, ◌⊎◌, ℕ, ◌+◌, ◌≤◌, List, ◌++◌, length, Result, Ok, Err}
use Rattle.kl_io.specs.Told.{SinkTold}
use Rattle.kl_script.specs.Commands.{CommandFields, Spells}
use Rattle.kl_core.specs.Books.{BookFields}
use Rattle.kl_session.specs.declared.stop.Stop.{Stop}
use Rattle.kl_session.specs.declared.stop.Stop.TheVariants as stop
use Rattle.kl_session.specs.Outside.{Outside}
use Rattle.kl_session.specs.Calls.{SessionFields}
use Rattle.kl_session.specs.Session.{Does}
use Rattle.kl_session.specs.Stopped.{IsStopped}
use Rattle.kl_console.specs.Script.{Executed, script_of, offset_of, printed, puts_of, puts_before, next_number, fault_line, SpellsNone}
use Rattle.kl_console.specs.Run.{Moment, Ran, IsBook, IsDone, IsFaulty, IsBroken, IsCutOff, LacksWords, IsOver, LacksMemory}
use Rattle.kl_console.specs.Inner.Reading.{Reading}
use Rattle.kl_console.specs.Inner.Printing.{Writes, WritesFront}
use Rattle.kl_console.specs.declared.ending.End.{End}
use Rattle.kl_console.specs.declared.ending.End.TheVariants.{Done, Fault, ReadFault, WriteFault, NoNonce, Over, Memory}

-- how a command went, and what was written of its text
abbrev pub Performs : Outside → Outside → SessionFields → SessionFields → CommandFields → SinkTold → SinkTold → Result (Unit {0}) End → Type 0
Performs o o' s s' c out out' (Ok done) = (text : List ℕ) × Does o o' s c s' text × Writes out out' text (puts_of text)
Performs o o' s s' c out out' (Err WriteFault) = (text : List ℕ) × Does o o' s c s' text × WritesFront out out' text
Performs o o' s s' c out out' (Err NoNonce) = IsStopped stop.NoNonce o o' s c s' × (out' ≡ out)
Performs o o' s s' c out out' (Err Memory) = IsStopped stop.Memory o o' s c s' × (out' ≡ out)
Performs o o' s s' c out out' (Err _) = ⊥

-- what was written of the word that the line of this number is bad, which ends a run so
abbrev pub WritesFault : ℕ → End → SinkTold → SinkTold → Result (Unit {0}) End → Type 0
WritesFault number bad out out' (Ok done) = ⊥
WritesFault number bad out out' (Err WriteFault) = WritesFront out out' (fault_line number)
WritesFault number bad out out' (Err Memory) = out' ≡ out
WritesFault number bad out out' (Err end) = (end ≡ bad) × Writes out out' (fault_line number) 1

-- how a line went, whose number this is
abbrev pub Answers : ℕ → List ℕ → Outside → Outside → SessionFields → SessionFields → SinkTold → SinkTold → Result (Unit {0}) End → Type 0
Answers number line o o' s s' out out' result =
    ((c : CommandFields) × Spells line c × Performs o o' s s' c out out' result)
    ⊎ ((o' ≡ o) × (s' ≡ s) × (SpellsNone line ⊎ (result ≡ Err Memory)) × WritesFault number Fault out out' result)

-- what a run has come to after some lines
pub record Played (before now : Moment) (r : Reading) (s : SessionFields) (number : ℕ) : Type 0 where
  pub executed : Executed before.outside now.outside
  pub ran : Ran before now (script_of executed ++ r.ahead) (printed executed) (puts_before executed)
  -- no read gave nothing yet
  pub reads : now.script.calls.made ≤ before.script.calls.made + length (script_of executed ++ r.ahead)
  pub at : executed.last ≡ s
  pub passed : r.passed ≡ offset_of executed
  pub numbered : number ≡ next_number executed

-- what was read and written in all, by how a run ended, with this book
unfoldable pub EndsBy : Moment → Moment → BookFields → End → Type 0
EndsBy before after B Done = IsDone before after B
EndsBy before after B Fault = IsFaulty before after B
EndsBy before after B ReadFault = IsBroken before after B
EndsBy before after B WriteFault = IsCutOff before after B
EndsBy before after B NoNonce = LacksWords before after B
EndsBy before after B Over = IsOver before after B
EndsBy before after B Memory = LacksMemory before after B

-- the same, once the session is ended
abbrev pub Ends : Moment → Moment → SessionFields → End → Type 0
Ends before after s end = (B : BookFields) → IsBook s B → EndsBy before after B end

-- what a run has come to, and a turn more
abbrev pub PlaysOn : Moment → Moment → Reading → SessionFields → ℕ → Result (Unit {0}) End → Type 0
PlaysOn before now r s number (Ok done) = Played before now r s (number + 1)
PlaysOn before now r s number (Err end) = Ends before now s end

-- how a run ends where a session goes on no further
abbrev pub end_of : Stop → End
end_of stop.NoNonce = NoNonce
end_of stop.Memory = Memory

-- the number with which a run ends
abbrev pub status_of : End → ℕ
status_of Done = 0
status_of Fault = 3
status_of ReadFault = 4
status_of WriteFault = 5
status_of NoNonce = 6
status_of Over = 8
status_of Memory = 70
