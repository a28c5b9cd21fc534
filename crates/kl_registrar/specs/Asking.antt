-- What the keys are asked.
use Rattle.std.specs.Prelude.{◌≡◌, ℕ, List, Option, IfSome}
use Rattle.kl_io.specs.Calls.{Counts}
use Rattle.kl_keys.specs.Relations.{AnswersCredential}
use Rattle.kl_keys.specs.Told.{KeysTold, Logs, Credential}

-- They were asked once, for the blob of a secret for two keys. They gave this answer, by their relations where they tell
-- them, or none.
pub record Asked (old new : KeysTold) (ek ak secret : List ℕ) (answer : Option (List ℕ)) (Failed : Type 0) : Type 0 where
  pub related : IfSome answer (AnswersCredential old.relations ek ak secret)
  pub relations : new.relations ≡ old.relations
  pub counted : Counts old.calls new.calls Failed
  pub logged : Logs old.log new.log (Credential ek ak secret answer)
