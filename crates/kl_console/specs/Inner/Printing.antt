-- What is written of a text.
use Rattle.std.specs.Prelude.{◌≡◌, ◌≢◌, ℕ, List, [], ◌++◌, Result, Ok, Err}
use Rattle.std.specs.Io.KnownBytes.{Appends}
use Rattle.kl_io.specs.Told.{SinkTold}
use Rattle.kl_console.specs.Calls.{count_after}
use Rattle.kl_console.specs.Script.{puts_of}
use Rattle.kl_console.specs.declared.ending.End.{End}
use Rattle.kl_console.specs.declared.ending.End.TheVariants.{WriteFault, Memory}

-- the text was written by so many puts
pub record Writes (out out' : SinkTold) (text : List ℕ) (puts : ℕ) : Type 0 where
  pub wrote : Appends out.held out'.held text
  pub put : out'.calls.made ≡ count_after puts out.calls.made

-- of a text that is not empty, one put wrote a front
pub record WritesFront (out out' : SinkTold) (text : List ℕ) : Type 0 where
  pub some : text ≢ []
  pub front : List ℕ
  pub lost : List ℕ
  pub parts : text ≡ front ++ lost
  pub writes : Writes out out' front 1

-- what was written of a text, by how that went
abbrev pub Prints : SinkTold → SinkTold → List ℕ → Result (Unit {0}) End → Type 0
Prints out out' text (Ok done) = Writes out out' text (puts_of text)
Prints out out' text (Err WriteFault) = WritesFront out out' text
Prints out out' text (Err Memory) = out' ≡ out
Prints out out' text (Err _) = ⊥
