-- What an object tells that makes patterns of texts.
use Rattle.std.specs.Prelude.{◌≡◌, ℕ, List, [], ◌++◌, Option, None}
use Rattle.std.specs.Option.{option_map}
use Rattle.kl_io.specs.Calls.{Calls, no_calls}

pub record MakerTold : Type 0 where
  -- the calls of `make`; a fault is a text that is refused as too large
  pub calls : Calls
  -- the text that was last refused as too large, and no byte before there was one
  pub refused : List ℕ
  -- each text that was ever asked of it, oldest first, where they are told
  pub asked : Option (List (List ℕ))

-- these texts were asked too, in this order, where texts are told
abbrev pub Logs : MakerTold → MakerTold → List (List ℕ) → Type 0
Logs old new texts = new.asked ≡ option_map (λ asked. asked ++ texts) old.asked

-- no text was refused as too large
pub record RefusesNone (old new : MakerTold) : Type 0 where
  pub faults : new.calls.faults ≡ old.calls.faults
  pub refused : new.refused ≡ old.refused

-- what a maker of `regex` counted
pub record MakerState : Type 0 where
  pub calls : Calls
  pub refused : List ℕ

-- it tells that, and no text
abbrev pub told_of : MakerState → MakerTold
told_of maker = record { calls = maker.calls; refused = maker.refused; asked = None }

-- a maker in memory
pub record MemMakerState : Type 0 where
  -- the numbers of the calls whose text is refused, where the first call is number 1
  pub sizes : List ℕ
  -- what it counted
  pub maker : MakerState

-- before the first call
abbrev pub new_maker : MakerState
new_maker = record { calls = no_calls; refused = [] }
