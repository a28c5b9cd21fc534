-- The words in which a fault is shown to a person.
use Rattle.std.specs.Prelude.{ℕ, List, codes}
use Rattle.kl_entry.specs.declared.fault.LineFault.{LineFault}
use Rattle.kl_entry.specs.declared.fault.LineFault.TheVariants.{TooLong, Pcr, HashText, Template, Digest, Path}

abbrev pub fault_text : LineFault → List ℕ
fault_text TooLong = codes "the line has more than 8192 bytes"
fault_text Pcr = codes "the line is not of PCR 10"
fault_text HashText = codes "the template hash is not 40 hexadecimal digits"
fault_text Template = codes "the template is not ima-ng"
fault_text Digest = codes "the file digest has not the form name:digits"
fault_text Path = codes "the path is empty or has a newline"
