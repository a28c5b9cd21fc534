-- What the calls that stop or remove an agent answer, by the records that they found, and which record each makes.
use Rattle.std.specs.Prelude.{◌≡◌, ℕ, List, [], ◌∷◌, Some, None, IsSome, Result, Ok, Err, ⊤}
use Rattle.kl_history.specs.declared.record.Record.{Record}
use Rattle.kl_history.specs.declared.record.Record.TheVariants.{Stop, Remove}
use Rattle.kl_history.specs.Records.{Past, own}
use Rattle.kl_history.specs.LookBacks.{installed}
use Rattle.kl_history.specs.States.{ended}
use Rattle.kl_history.specs.Legal.{HasRoom}
use Rattle.kl_core.specs.declared.refusal.Refusal.{Refusal}
use Rattle.kl_core.specs.declared.refusal.Refusal.TheVariants.{NoAgent, WrongState, JournalRecords, Memory}

-- the agent is installed and not live any more, in this state
abbrev pub HasEnded : Past → List ℕ → Refusal → Type 0
HasEnded past a (WrongState op) = IsSome (installed (own past a)) × (ended (own past a) ≡ Some op)
HasEnded past a _ = ⊥

-- the agent is installed and live
abbrev pub IsLive : Past → List ℕ → Type 0
IsLive past a = IsSome (installed (own past a)) × (ended (own past a) ≡ None)

-- ---- stop
abbrev pub RefusesStop : Past → List ℕ → Refusal → Type 0
RefusesStop past a NoAgent = installed (own past a) ≡ None
RefusesStop past a (WrongState op) = HasEnded past a (WrongState op)
RefusesStop past a JournalRecords = IsLive past a × (¬ (HasRoom past 1))
RefusesStop past a Memory = ⊤
RefusesStop past a _ = ⊥

abbrev pub Stops : List ℕ → Result (Unit {0}) Refusal → Past → Type 0
Stops a (Ok u) past = IsLive past a × HasRoom past 1
Stops a (Err why) past = RefusesStop past a why

abbrev pub stop_makes : List ℕ → Result (Unit {0}) Refusal → Past → List Record
stop_makes a (Ok u) past = Stop a ∷ []
stop_makes a (Err why) past = []

-- ---- remove
abbrev pub RefusesRemove : Past → List ℕ → Refusal → Type 0
RefusesRemove past a NoAgent = installed (own past a) ≡ None
RefusesRemove past a JournalRecords = IsSome (installed (own past a)) × (¬ (HasRoom past 1))
RefusesRemove past a Memory = ⊤
RefusesRemove past a _ = ⊥

abbrev pub Removes : List ℕ → Result (Unit {0}) Refusal → Past → Type 0
Removes a (Ok u) past = IsSome (installed (own past a)) × HasRoom past 1
Removes a (Err why) past = RefusesRemove past a why

abbrev pub remove_makes : List ℕ → Result (Unit {0}) Refusal → Past → List Record
remove_makes a (Ok u) past = Remove a ∷ []
remove_makes a (Err why) past = []
