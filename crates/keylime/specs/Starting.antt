-- What the program answers before it runs a script.
use Rattle.std.specs.Prelude.{◌≡◌, ◌≢◌, ◌⊎◌, ℕ, List, [], ◌∷◌, codes}
use Rattle.std.specs.Io.KnownBytes.{Appends}
use Rattle.kl_io.specs.Calls.{one_more}
use Rattle.kl_io.specs.Told.{SinkTold, AppendsFront}
use Rattle.kl_console.specs.Calls.{FailsAtLast}
use Rattle.keylime.specs.declared.starting.NoWords.{NoWords}
use Rattle.keylime.specs.declared.starting.NoWords.TheVariants.{NoText, Memory}

-- the words are none of the three command lines
abbrev pub IsOtherWords : List (List ℕ) → Type 0
IsOtherWords words = (words ≢ codes "--help" ∷ []) × (words ≢ codes "--version" ∷ []) × (words ≢ codes "run" ∷ [])

-- a text was put once: all of it was written and the status is 0, or a front of it and the status is 5
pub record Says (before after : SinkTold) (text : List ℕ) (status : ℕ) : Type 0 where
  pub statuses : (status ≡ 0) ⊎ (status ≡ 5)
  pub whole : status ≡ 0 → Appends before.held after.held text
  pub front : status ≡ 5 → AppendsFront before.held after.held text
  pub once : after.calls.made ≡ one_more before.calls.made
  pub cause : FailsAtLast before.calls after.calls (status ≡ 5)

-- the status where there are no words
abbrev pub status_without : NoWords → ℕ
status_without NoText = 2
status_without Memory = 70
