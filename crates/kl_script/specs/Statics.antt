-- How the PCRs whose values are fixed stand in a line.
use Rattle.std.specs.Prelude.{◌≡◌, ◌⊎◌, ℕ, ◌≤◌, ◌==◌, List, [], ◌∷◌, ◌++◌, codes}
use Rattle.std.specs.List.{AllZip, slice_split}
use Rattle.std.specs.Fmt.{decimal}
use Rattle.kl_script.specs.Digits.{IsDigest}
use Rattle.kl_pcr.specs.declared.statics.Static.{Static}

-- the pieces of a text between these bytes
abbrev pub pieces_at : ℕ → List ℕ → List (List ℕ)
pieces_at byte text = slice_split (λ b. b == byte) text

-- a PCR's number, from 0 to 23 without a leading zero, an equals sign, and its digests between commas
abbrev pub IsStatic : List ℕ → Static → Type 0
IsStatic written fixed = (digests : List ℕ) × (fixed.pcr ≤ 23) × (written ≡ decimal fixed.pcr ++ 61 ∷ digests) × AllZip IsDigest (pieces_at 44 digests) fixed.allowed

-- the parts between semicolons, or `-` where there is none
abbrev pub IsStatics : List ℕ → List Static → Type 0
IsStatics written statics = ((written ≡ codes "-") × (statics ≡ [])) ⊎ AllZip IsStatic (pieces_at 59 written) statics
