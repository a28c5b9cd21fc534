-- How a session ends: the polls that are open are dropped, and the releases that are open are withdrawn.
use Rattle.std.specs.Prelude.{◌≡◌, ℕ, ◌<◌, Bool, true, false, List, [], ◌∷◌, ◌++◌, ◌↔◌, map, All, Contains}
use Rattle.std.specs.Option.{option_map_or}
use Rattle.kl_states.specs.declared.outcome.DropWhy.TheVariants.{End}
use Rattle.kl_states.specs.declared.outcome.Outcome.TheVariants.{Withdrawn}
use Rattle.kl_history.specs.declared.record.Record.{Record}
use Rattle.kl_history.specs.declared.record.Record.TheVariants.{Dropped, Settled}
use Rattle.kl_history.specs.Records.{History, Past, past_of, is_open, Handing, handing_of, is_unsettled, own}
use Rattle.kl_history.specs.States.{is_current}

-- each number is less than those behind it
abbrev pub IsRising : List ℕ → Type 0
IsRising [] = Unit {0}
IsRising (n ∷ ns) = All (λ m. n < m) ns × IsRising ns

-- the numbers of which this is so, in their order
pub record AreThose (is_so : ℕ → Bool) (numbers : List ℕ) : Type 0 where
  pub rising : IsRising numbers
  pub each : (n : ℕ) → Contains numbers n ↔ (is_so n ≡ true)

-- the polls that are open, and the releases that are
abbrev pub AreOpen : Past → List ℕ → Type 0
AreOpen past polls = AreThose (is_open past) polls

abbrev pub AreUnsettled : Past → List ℕ → Type 0
AreUnsettled past releases = AreThose (is_unsettled past) releases

-- these polls are dropped, since the session ended
abbrev pub drops : List ℕ → List Record
drops polls = map (λ p. Dropped p End) polls

-- the generation that a release names is installed, and its agent is live
abbrev pub is_current_release : Past → ℕ → Bool
is_current_release past n = option_map_or (λ (h : Handing). is_current (own past h.agent) h.generation) (handing_of past n) false

-- the release is withdrawn, since the session ended
abbrev pub withdrawn : Past → ℕ → Record
withdrawn past n = Settled n (Withdrawn End) (is_current_release past n)

abbrev pub withdraws : Past → List ℕ → List Record
withdraws past releases = map (withdrawn past) releases

-- the history once the session ended: the polls that were open are dropped, in the order of their numbers, and then the releases
-- that were open are withdrawn, in the order of theirs
pub record IsEnded (history ended : History) : Type 0 where
  pub polls : List ℕ
  pub opened : AreOpen (past_of history) polls
  pub releases : List ℕ
  pub unsettled : AreUnsettled (past_of history) releases
  pub parts : ended ≡ history ++ drops polls ++ withdraws (past_of history) releases
