-- What is wrong with bytes that are no quote's: the first field from the left that does not fit.
use Rattle.std.specs.Prelude.{◌≡◌, ◌≢◌, ℕ, ◌<◌, ◌≤◌, List, ◌∷◌, ◌++◌, length, slice_index, take, ◌⊎◌}
use Rattle.kl_attest.specs.declared.fault.AttestFault.{AttestFault}
use Rattle.kl_attest.specs.declared.fault.AttestFault.TheVariants.{Short, Safe, Tail}
use Rattle.kl_attest.specs.Grammar.{Field, Quoted, IsQuoted, field_text, joined, fields_of, text_of}
use Rattle.kl_attest.specs.Grammar.Field.{Free, Fixed, YesNo}

-- how many bytes a field has
abbrev pub size_of : Field → ℕ
size_of field = length (field_text field)

-- these bytes, as many as the field has, are others than it may have, which is this fault
abbrev pub Differs : Field → List ℕ → AttestFault → Type 0
Differs (Free bytes) there fault = ⊥
Differs (Fixed named bytes) there fault = (fault ≡ named) × (there ≢ bytes)
Differs (YesNo b) there fault = (fault ≡ Safe) × (1 < slice_index there 0)

-- in the place of this field, which begins at this byte, stand too few bytes, or others than it may have
abbrev pub Misfits : Field → ℕ → List ℕ → AttestFault → Type 0
Misfits field at rest fault =
    ((length rest < size_of field) × (fault ≡ Short at))
    ⊎ ((size_of field ≤ length rest) × Differs field (take (size_of field) rest) fault)

-- The bytes begin with the first fields of some quote, and what follows misfits its next field. How many bytes that
-- one has is told by the fields before it, so all quotes that begin so agree on it.
pub record HasMisfit (bytes : List ℕ) (fault : AttestFault) : Type 0 where
  pub quoted : Quoted
  pub fits : IsQuoted quoted
  pub before : List Field
  pub field : Field
  pub after : List Field
  pub fields : fields_of quoted ≡ before ++ field ∷ after
  pub rest : List ℕ
  pub bytes_are : bytes ≡ joined before ++ rest
  pub misfit : Misfits field (length (joined before)) rest fault

-- The bytes begin with a whole quote, and more follow.
pub record HasTail (bytes : List ℕ) (fault : AttestFault) : Type 0 where
  pub quoted : Quoted
  pub fits : IsQuoted quoted
  pub rest : List ℕ
  pub bytes_are : bytes ≡ text_of quoted ++ rest
  pub some : 1 ≤ length rest
  pub fault_is : fault ≡ Tail (length (text_of quoted))

abbrev pub IsFirstFault : List ℕ → AttestFault → Type 0
IsFirstFault bytes fault = HasMisfit bytes fault ⊎ HasTail bytes fault
