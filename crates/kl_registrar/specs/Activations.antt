-- When an agent has a record, and when it is active, told by the list of calls as a whole.
use Rattle.std.specs.Prelude.{◌≡◌, ℕ, List, ◌∷◌, ◌++◌, All, ⊤}
use Rattle.kl_keys.specs.Tags.{SpellsTag}
use Rattle.kl_registrar.specs.Calls.{Call, Register, Activate, Remove, Registration, Log}

-- the call neither registers nor removes the agent
abbrev pub Leaves : List ℕ → Call → Type 0
Leaves id (Register other r) = ¬ (other ≡ id)
Leaves id (Activate other tag) = ⊤
Leaves id (Remove other) = ¬ (other ≡ id)

-- the agent registered so, and neither registered nor was removed since
pub record WasRegistered (past : Log) (id : List ℕ) (r : Registration) : Type 0 where
  pub between : Log
  pub before : Log
  pub order : past ≡ between ++ Register id r ∷ before
  pub earlier : All (Leaves id) between

-- the agent registered, gave the tag under that secret later, and neither registered nor was removed since
pub record WasActivated (past : Log) (id : List ℕ) : Type 0 where
  pub since : Log
  pub between : Log
  pub before : Log
  pub last : Registration
  pub tag : List ℕ
  pub order : past ≡ since ++ Activate id tag ∷ (between ++ Register id last ∷ before)
  pub later : All (Leaves id) since
  pub earlier : All (Leaves id) between
  pub spelled : SpellsTag last.secret id tag
