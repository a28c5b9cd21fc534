-- Which agent is polled next.
use Rattle.std.specs.Prelude.{◌≡◌, ◌⊎◌, ℕ, ◌+◌, ◌*◌, ◌^◌, ◌<◌, ◌≤◌, min, false, List, [], ◌∷◌, Option, Some, None}
use Rattle.std.specs.Option.{option_map_or}
use Rattle.std.specs.Ordering.{nat_cmp, is_gt}
use Rattle.std.specs.Cmp.Lexicographic.{slice_cmp}
use Rattle.kl_history.specs.declared.record.Record.TheVariants.{Install, Begin}
use Rattle.kl_history.specs.Records.{Past, own}
use Rattle.kl_history.specs.LookBacks.{losses}
use Rattle.kl_core.specs.Begins.{MayPoll}

-- the moment of an agent's last Begin since its last Install, by its own records
abbrev pub begun_at : Past → Option ℕ
begun_at [] = None
begun_at (Install a g t w ∷ earlier) = None
begun_at (Begin p a g n at from ∷ earlier) = Some at
begun_at (_ ∷ earlier) = begun_at earlier

-- The moment from which an agent is due, by its own records: 0 before its first poll of the installed generation; else 2,000 ms
-- after the last one began, and twice as long for each loss in a row, or the greatest moment where that passes it.
abbrev pub due_at : Past → ℕ
due_at own_past = option_map_or (λ at. min (at + 2000 * 2 ^ losses own_past) 18446744073709551615) (begun_at own_past) 0

-- the agent may be polled, and is due at this moment
abbrev pub IsWaiting : Past → ℕ → List ℕ → Type 0
IsWaiting past now a = MayPoll past a × (due_at (own past a) ≤ now)

-- the one is due earlier; of two that are due alike it has the lesser name, which may be the same
abbrev pub IsAhead : Past → List ℕ → List ℕ → Type 0
IsAhead past a b =
    (due_at (own past a) < due_at (own past b)) ⊎ ((due_at (own past a) ≡ due_at (own past b)) × (is_gt (slice_cmp nat_cmp a b) ≡ false))

-- of those that wait it is ahead of each
pub record IsPicked (past : Past) (now : ℕ) (a : List ℕ) : Type 0 where
  pub waiting : IsWaiting past now a
  pub ahead : (b : List ℕ) → IsWaiting past now b → IsAhead past a b

-- the agent that is polled next, none where none waits
abbrev pub PickAnswers : ℕ → Option (List ℕ) → Past → Type 0
PickAnswers now None past = (a : List ℕ) → ¬ (IsWaiting past now a)
PickAnswers now (Some a) past = IsPicked past now a
