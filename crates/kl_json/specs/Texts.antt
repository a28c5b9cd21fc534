-- What a fault prints.
use Rattle.std.specs.Prelude.{ℕ, List, ◌++◌, codes}
use Rattle.kl_json.specs.declared.fault.JsonFault.{JsonFault}
use Rattle.kl_json.specs.declared.fault.JsonFault.TheVariants.{NotJson, Missing, Kind, Range, Memory}

abbrev pub fault_text : JsonFault → List ℕ
fault_text NotJson = codes "the text is no JSON"
fault_text (Missing name) = codes "there is no member " ++ name.now
fault_text (Kind name) = codes "the member " ++ name.now ++ codes " is of another kind"
fault_text (Range name) = codes "the number " ++ name.now ++ codes " is too large"
fault_text Memory = codes "out of memory"
