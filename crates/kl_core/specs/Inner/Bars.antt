-- What bars a call on an agent, and what the journal lacks.
use Rattle.std.specs.Prelude.{◌≡◌, ℕ, List, Option, None, Some}
use Rattle.kl_history.specs.Records.{Past, own}
use Rattle.kl_history.specs.LookBacks.{installed}
use Rattle.kl_history.specs.Legal.{HasRoom, HasBytes}
use Rattle.kl_core.specs.declared.refusal.Refusal.{Refusal}
use Rattle.kl_core.specs.declared.refusal.Refusal.TheVariants.{NoAgent, WrongState, JournalRecords, JournalBytes}
use Rattle.kl_core.specs.Endings.{HasEnded}

-- why the journal has no room for so many records and bytes more, none where it has
abbrev pub Lacks : Past → ℕ → ℕ → Option Refusal → Type 0
Lacks past records bytes None = HasRoom past records × HasBytes past bytes
Lacks past records bytes (Some JournalRecords) = ¬ (HasRoom past records)
Lacks past records bytes (Some JournalBytes) = HasRoom past records × (¬ (HasBytes past bytes))
Lacks past records bytes (Some _) = ⊥

-- the agent is not installed, or not live
abbrev pub IsBarred : Past → List ℕ → Refusal → Type 0
IsBarred past a NoAgent = installed (own past a) ≡ None
IsBarred past a (WrongState op) = HasEnded past a (WrongState op)
IsBarred past a _ = ⊥
