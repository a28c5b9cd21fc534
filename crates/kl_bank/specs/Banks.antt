-- PCR banks. A TPM keeps its platform configuration registers (PCRs) once for each hash algorithm, and one
-- such set is a bank. SHA-1, SHA-256 and SHA-384 are those of FIPS 180-4; the algorithm ids are the TPM_ALG_ID
-- values of the TPM 2.0 Library, Part 2, section 6.3.
use Rattle.std.specs.Prelude.{ℕ, List, ◌++◌, codes, replicate}
use Rattle.sha1.specs.Sha1.{sha1}
use Rattle.sha2.specs.Sha256.{sha256}
use Rattle.sha2.specs.Sha512.{sha384}
use Rattle.kl_bank.specs.declared.bank.Bank.{Bank}
use Rattle.kl_bank.specs.declared.bank.Bank.TheVariants.{Sha1, Sha256, Sha384}

-- the bank's digest of a message
abbrev pub hash_of : Bank → List ℕ → List ℕ
hash_of Sha1 message = sha1 message
hash_of Sha256 message = sha256 message
hash_of Sha384 message = sha384 message

-- how many bytes a digest of the bank has
abbrev pub size_of : Bank → ℕ
size_of Sha1 = 20
size_of Sha256 = 32
size_of Sha384 = 48

-- the bank's TPM_ALG_ID
abbrev pub alg_of : Bank → ℕ
alg_of Sha1 = 0x0004
alg_of Sha256 = 0x000B
alg_of Sha384 = 0x000C

-- the bank's name in a text
abbrev pub name_of : Bank → List ℕ
name_of Sha1 = codes "sha1"
name_of Sha256 = codes "sha256"
name_of Sha384 = codes "sha384"

-- a PCR after a reset: zeros alone
abbrev pub zeros_of : Bank → List ℕ
zeros_of bank = replicate (size_of bank) 0

-- what a PCR is extended by for what Linux IMA calls a violation, a file that could change while it was measured:
-- bytes 0xFF alone
abbrev pub ones_of : Bank → List ℕ
ones_of bank = replicate (size_of bank) 0xFF

-- a PCR with the value `old` after it was extended by the digest `added` (TPM 2.0 Library, Part 1, section 17.2):
-- the digest of the two, one after the other
abbrev pub extended : Bank → List ℕ → List ℕ → List ℕ
extended bank old added = hash_of bank (old ++ added)
