-- The texts of faults. Places stand in decimal.
use Rattle.std.specs.Prelude.{ℕ, List, ◌++◌, codes, decimal}
use Rattle.kl_exclude.specs.declared.fault.ExcludeFault.{ExcludeFault}
use Rattle.kl_exclude.specs.declared.fault.ExcludeFault.TheVariants.{Syntax, TooLarge, Memory}

abbrev pub fault_text : ExcludeFault → List ℕ
fault_text (Syntax place) = codes "exclude " ++ decimal place ++ codes " is no pattern"
fault_text (TooLarge place) = codes "exclude " ++ decimal place ++ codes " is too large"
fault_text Memory = codes "out of memory"
