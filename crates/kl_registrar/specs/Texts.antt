-- The texts of refusals.
use Rattle.std.specs.Prelude.{ℕ, List, codes}
use Rattle.kl_registrar.specs.declared.fault.RegFault.{RegFault}
use Rattle.kl_registrar.specs.declared.fault.RegFault.TheVariants.{Full, KeysFault, NoAgent, WrongTag, NotActive, Memory}

abbrev pub fault_text : RegFault → List ℕ
fault_text Full = codes "full"
fault_text KeysFault = codes "keys"
fault_text NoAgent = codes "noagent"
fault_text WrongTag = codes "wrongtag"
fault_text NotActive = codes "notactive"
fault_text Memory = codes "memory"
