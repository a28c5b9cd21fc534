-- How one text of a list is compiled.
use Rattle.std.specs.Prelude.{◌≡◌, ℕ, List}
use Rattle.kl_exclude.specs.Compiled.{Refuses}
use Rattle.kl_exclude.specs.Excludes.{IsPattern}
use Rattle.kl_exclude.specs.Told.{MakerTold, RefusesNone}
use Rattle.kl_exclude.specs.declared.fault.ExcludeFault.{ExcludeFault}
use Rattle.kl_exclude.specs.declared.fault.ExcludeFault.TheVariants.{Syntax, TooLarge, Memory}

-- why the text at this place is not compiled
abbrev pub IsOneFaultOf : List ℕ → ℕ → MakerTold → MakerTold → ExcludeFault → Type 0
IsOneFaultOf text place old new (Syntax found) = (found ≡ place) × (¬ (IsPattern text)) × RefusesNone old new
IsOneFaultOf text place old new (TooLarge found) = (found ≡ place) × Refuses old new text
IsOneFaultOf text place old new Memory = RefusesNone old new
