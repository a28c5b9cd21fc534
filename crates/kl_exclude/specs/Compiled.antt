-- How a list of texts is compiled. Places in it count from 0.
use Rattle.std.specs.Prelude.{◌≡◌, ℕ, ◌+◌, ◌≤◌, List, ◌++◌, All, take, slice_get, IsSomeAnd, Result, Ok, Err}
use Rattle.kl_io.specs.Calls.{one_more}
use Rattle.kl_exclude.specs.Excludes.{IsPattern}
use Rattle.kl_exclude.specs.Told.{MakerTold, RefusesNone}
use Rattle.kl_exclude.specs.declared.fault.ExcludeFault.{ExcludeFault}
use Rattle.kl_exclude.specs.declared.fault.ExcludeFault.TheVariants.{Syntax, TooLarge, Memory}

-- all texts before this place are patterns, and of that at the place this holds
abbrev pub StopsAt : List (List ℕ) → ℕ → (List ℕ → Type 0) → Type 0
StopsAt texts place At = All IsPattern (take place texts) × IsSomeAnd (slice_get texts place) At

-- the text was refused as too large
pub record Refuses (old new : MakerTold) (text : List ℕ) : Type 0 where
  pub faults : new.calls.faults ≡ one_more old.calls.faults
  pub later : old.calls.faults ≤ new.calls.faults
  pub refused : new.refused ≡ text

-- why texts are not compiled
abbrev pub IsFaultOf : List (List ℕ) → MakerTold → MakerTold → ExcludeFault → Type 0
IsFaultOf texts old new (Syntax place) = StopsAt texts place (λ text. ¬ (IsPattern text)) × RefusesNone old new
IsFaultOf texts old new (TooLarge place) = StopsAt texts place (Refuses old new)
IsFaultOf texts old new Memory = RefusesNone old new

-- which texts were asked: all of them, or those up to the one that is no pattern or too large
abbrev pub AreAsked : {V : Type 0} → List (List ℕ) → Result V ExcludeFault → List (List ℕ) → Type 0
AreAsked texts (Ok patterns) asked = asked ≡ texts
AreAsked texts (Err (Syntax place)) asked = asked ≡ take (place + 1) texts
AreAsked texts (Err (TooLarge place)) asked = asked ≡ take (place + 1) texts
AreAsked texts (Err Memory) asked = (rest : List (List ℕ)) × (texts ≡ asked ++ rest)
