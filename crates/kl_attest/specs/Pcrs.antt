-- The PCRs that selections name (TPM 2.0 Library, Part 2, TPMS_PCR_SELECTION).
use Rattle.std.specs.Prelude.{◌≡◌, ℕ, ◌<◌, ◌^◌, ◌/◌, ◌%◌, ◌==◌, Bool, false, List, ◌∷◌, ◌++◌, IsTrue, All, slice_index, sum_by, if◌then◌else◌}
use Rattle.std.specs.List.{range_with_len, list_all}
use Rattle.std.specs.Int.{bit_at}
use Rattle.kl_attest.specs.Grammar.{Selection}

-- PCR n is bit n mod 8 of byte n / 8. A byte that is not there has no bit set.
abbrev pub has_pcr : List ℕ → ℕ → Bool
has_pcr select n = bit_at (slice_index select (n / 8)) (n % 8) == 1

-- each byte is 0, so no PCR is in it
abbrev pub is_zero : List ℕ → Bool
is_zero bytes = list_all (λ b. b == 0) bytes

abbrev pub IsEmptySelection : Selection → Type 0
IsEmptySelection s = (n : ℕ) → has_pcr s.select n ≡ false

-- a TPM of this profile has the PCRs from 0 to 23
abbrev pub AreBelow24 : List ℕ → Type 0
AreBelow24 select = (n : ℕ) → IsTrue (has_pcr select n) → n < 24

-- the sum of 2 ^ n over the PCRs n below 24
unfoldable pub mask_of : List ℕ → ℕ
mask_of select = sum_by (λ n. if has_pcr select n then 2 ^ n else 0) (range_with_len 0 24)

-- of the selections this one alone is not empty
pub record IsLone (selections : List Selection) (one : Selection) : Type 0 where
  pub before : List Selection
  pub after : List Selection
  pub parts : selections ≡ before ++ one ∷ after
  pub before_empty : All IsEmptySelection before
  pub after_empty : All IsEmptySelection after
  pub chosen : ¬ (IsEmptySelection one)

-- One selection alone is not empty. It has this algorithm, all its PCRs are below 24, and this is their mask.
pub record OneSet (selections : List Selection) (alg mask : ℕ) : Type 0 where
  pub one : Selection
  pub lone : IsLone selections one
  pub alg_is : one.alg ≡ alg
  pub below : AreBelow24 one.select
  pub mask_is : mask ≡ mask_of one.select
