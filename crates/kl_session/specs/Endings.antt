-- What the commands that stop or remove an agent do.
use Rattle.std.specs.Prelude.{ℕ, List, Option, Some, Result, Ok, Err}
use Rattle.kl_core.specs.declared.refusal.Refusal.{Refusal}
use Rattle.kl_core.specs.Endings.{Stops, stop_makes, Removes, remove_makes}
use Rattle.kl_session.specs.Calls.{VerifierFields, Answered}
use Rattle.kl_session.specs.Texts.{stopped_line, removed_line, says_refused}

-- this is said of a call that was done
abbrev pub says_done : List ℕ → Result (Unit {0}) Refusal → Option (List ℕ)
says_done line (Ok u) = Some line
says_done line (Err why) = says_refused why

abbrev pub DoesStop : List ℕ → VerifierFields → VerifierFields → List ℕ → Type 0
DoesStop agent = Answered (Stops agent) (stop_makes agent) (says_done (stopped_line agent))

abbrev pub DoesRemove : List ℕ → VerifierFields → VerifierFields → List ℕ → Type 0
DoesRemove agent = Answered (Removes agent) (remove_makes agent) (says_done (removed_line agent))
