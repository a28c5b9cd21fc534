-- A quote's TPMS_ATTEST, as the fields that it has, in their order, and the one text that they make (TPM 2.0 Library, Part 2:
-- TPMS_ATTEST and TPMS_QUOTE_INFO in section 10.12, TPMS_CLOCK_INFO in 10.11, TPML_PCR_SELECTION in 10.9, TPMS_PCR_SELECTION in
-- 10.6). Every number stands with its highest byte first.
use Rattle.std.specs.Prelude.{◌≡◌, ℕ, ◌<◌, ◌^◌, Bool, List, [], ◌∷◌, ◌++◌, length, if◌then◌else◌}
use Rattle.std.specs.List.{flat_map, AllByRecursion}
use Rattle.std.specs.Int.{Width, w8, w16, w32, w64, to_be_bytes}
use Rattle.kl_base.specs.Bytes.{IsBytes}
use Rattle.kl_attest.specs.declared.fault.AttestFault.{AttestFault}
use Rattle.kl_attest.specs.declared.fault.AttestFault.TheVariants.{Magic, AttestType}

-- the PCRs chosen in the bank of one hash algorithm
pub record Selection : Type 0 where
  pub alg : ℕ
  pub select : List ℕ

-- a quote, without where it lies in memory
pub record Quoted : Type 0 where
  pub signer : List ℕ
  pub extra : List ℕ
  pub clock : ℕ
  pub reset : ℕ
  pub restart : ℕ
  pub safe : Bool
  pub firmware : ℕ
  pub selections : List Selection
  pub pcr_digest : List ℕ

-- a quote by its fields, in their order
abbrev pub quoted : List ℕ → List ℕ → ℕ → ℕ → ℕ → Bool → ℕ → List Selection → List ℕ → Quoted
quoted signer extra clock reset restart safe firmware selections pcr_digest = record {
  signer = signer;
  extra = extra;
  clock = clock;
  reset = reset;
  restart = restart;
  safe = safe;
  firmware = firmware;
  selections = selections;
  pcr_digest = pcr_digest;
}

-- TPM_GENERATED_VALUE, the bytes FF "TCG", and TPM_ST_ATTEST_QUOTE
abbrev pub magic : ℕ
magic = 0xFF544347

abbrev pub attest_quote : ℕ
attest_quote = 0x8018

-- ---- The fields

-- A field: any bytes, or these alone (where others stand, that is this fault), or the byte 1 or 0 for yes or no.
pub data Field : Type 0 where
  Free : List ℕ → Field
  Fixed : AttestFault → List ℕ → Field
  YesNo : Bool → Field

abbrev pub field_text : Field → List ℕ
field_text (Free bytes) = bytes
field_text (Fixed fault bytes) = bytes
field_text (YesNo b) = (if b then 1 else 0) ∷ []

abbrev pub joined : List Field → List ℕ
joined fields = flat_map field_text fields

-- any number of this width
abbrev pub number : Width → ℕ → Field
number w n = Free (to_be_bytes w n)

-- a length of this width, and the bytes that it counts
abbrev pub counted : Width → List ℕ → List Field
counted w bytes = number w (length bytes) ∷ Free bytes ∷ []

-- TPMS_CLOCK_INFO: the clock, the two counters, and whether it is safe
abbrev pub clock_fields : ℕ → ℕ → ℕ → Bool → List Field
clock_fields clock reset restart safe = number w64 clock ∷ number w32 reset ∷ number w32 restart ∷ YesNo safe ∷ []

-- TPMS_PCR_SELECTION: the algorithm, and the bits of the PCRs
abbrev pub selection_fields : Selection → List Field
selection_fields s = number w16 s.alg ∷ counted w8 s.select

-- TPML_PCR_SELECTION: how many there are, and each
abbrev pub selections_fields : List Selection → List Field
selections_fields ss = number w32 (length ss) ∷ flat_map selection_fields ss

-- what all quotes begin with
abbrev pub header_fields : List Field
header_fields = Fixed Magic (to_be_bytes w32 magic) ∷ Fixed AttestType (to_be_bytes w16 attest_quote) ∷ []

-- TPMS_ATTEST of a quote
abbrev pub fields_of : Quoted → List Field
fields_of q =
    header_fields
    ++ counted w16 q.signer ++ counted w16 q.extra
    ++ clock_fields q.clock q.reset q.restart q.safe
    ++ number w64 q.firmware
    ∷ selections_fields q.selections
    ++ counted w16 q.pcr_digest

unfoldable pub text_of : Quoted → List ℕ
text_of q = joined (fields_of q)

-- ---- What fits them

-- bytes, of which there are fewer than this limit
pub record IsSized (limit : ℕ) (bytes : List ℕ) : Type 0 where
  pub len : length bytes < limit
  pub each : IsBytes bytes

pub record IsSelection (s : Selection) : Type 0 where
  pub alg : s.alg < 2 ^ 16
  pub select : IsSized (2 ^ 8) s.select

-- each number, and each length, fits its field
pub record IsQuoted (q : Quoted) : Type 0 where
  pub signer : IsSized (2 ^ 16) q.signer
  pub extra : IsSized (2 ^ 16) q.extra
  pub clock : q.clock < 2 ^ 64
  pub reset : q.reset < 2 ^ 32
  pub restart : q.restart < 2 ^ 32
  pub firmware : q.firmware < 2 ^ 64
  pub count : length q.selections < 2 ^ 32
  pub selections : AllByRecursion IsSelection q.selections
  pub pcr_digest : IsSized (2 ^ 16) q.pcr_digest

-- the bytes are the text of these fields, and the fields fit
pub record Spells (bytes : List ℕ) (q : Quoted) : Type 0 where
  pub fits : IsQuoted q
  pub text : bytes ≡ text_of q
