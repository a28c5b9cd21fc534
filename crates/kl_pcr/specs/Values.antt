-- The PCR values of a quote. A mask has bit n where PCR n is selected, and the values of the selected PCRs stand
-- one after the other, the lowest PCR first (TPM 2.0 Library, Part 2, section 10.6, and Part 3, TPM2_Quote).
use Rattle.std.specs.Prelude.{◌≡◌, ℕ, ◌*◌, ◌%◌, ◌^◌, ◌==◌, Bool, List, length, take, drop, filter, count_ones}
use Rattle.std.specs.Int.{bit_at}
use Rattle.std.specs.List.{range_with_len, flat_map}
use Rattle.sha2.specs.Sha256.{sha256}
use Rattle.kl_bank.specs.declared.bank.Bank.{Bank}
use Rattle.kl_bank.specs.Banks.{extended, hash_of, size_of, zeros_of}

-- PCR n stands in the mask
abbrev pub IsSelected : ℕ → ℕ → Type 0
IsSelected mask n = bit_at mask n ≡ 1

abbrev pub is_selected : ℕ → ℕ → Bool
is_selected mask n = bit_at mask n == 1

-- the PCRs of the mask that are below n, ascending
unfoldable pub pcrs_below : ℕ → ℕ → List ℕ
pcrs_below mask n = filter (is_selected mask) (range_with_len 0 n)

-- the PCRs of a mask of 32 bits, ascending
unfoldable pub pcrs_of : ℕ → List ℕ
pcrs_of mask = pcrs_below mask 32

-- each PCR holds a digest's size of bytes
abbrev pub HaveSize : Bank → (ℕ → List ℕ) → Type 0
HaveSize bank held = (n : ℕ) → length (held n) ≡ size_of bank

-- the values of the mask's PCRs, of those that all PCRs hold: one after the other, the lowest PCR first
abbrev pub values_of : ℕ → (ℕ → List ℕ) → List ℕ
values_of mask held = flat_map held (pcrs_of mask)

-- how many PCRs of the mask are below n: the bits of the mask below bit n
abbrev pub lower_of : ℕ → ℕ → ℕ
lower_of mask n = count_ones (mask % 2 ^ n)

-- the value of PCR n: a digest's size of the values, behind those of the lower PCRs
abbrev pub value_at : Bank → ℕ → List ℕ → ℕ → List ℕ
value_at bank mask values n = take (size_of bank) (drop (size_of bank * lower_of mask n) values)

-- What a quote signs in place of the values: their SHA-256 in every bank, which is this project's choice (a TPM takes the
-- hash of its signing scheme).
abbrev pub pcr_digest_of : List ℕ → List ℕ
pcr_digest_of values = sha256 values

-- How an agent's public key is bound to PCR 16, by a rule of this project's own: the hash of the key's text is extended
-- into zeros, the value that PCR 16 is taken to have after a reset.
abbrev pub binding_of : Bank → List ℕ → List ℕ
binding_of bank key = extended bank (zeros_of bank) (hash_of bank key)
