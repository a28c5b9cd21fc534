-- Hexadecimal words, in digits of either case, of which two stand for a byte, the high half first.
use Rattle.std.specs.Prelude.{◌≡◌, ◌⊎◌, ℕ, ◌≤◌, List, ◌++◌, length, codes, Option, Some, None, Ok}
use Rattle.std.specs.Str.Parse.{AllDigits, digits_value}
use Rattle.hex.specs.Hex.{decode_of}

-- the digits of these bytes, in either case (RFC 4648, section 8)
abbrev pub IsHex : List ℕ → List ℕ → Type 0
IsHex written bytes = decode_of written ≡ Ok bytes

-- a key: 1 to 512 bytes
abbrev pub IsKey : List ℕ → List ℕ → Type 0
IsKey written bytes = (2 ≤ length written) × (length written ≤ 1024) × IsHex written bytes

-- a share of a payload key: 32 bytes, or `-` where there is none
abbrev pub IsShare : List ℕ → Option (List ℕ) → Type 0
IsShare written None = written ≡ codes "-"
IsShare written (Some bytes) = (length written ≡ 64) × IsHex written bytes

-- a mask of PCRs: `0x` and 1 to 6 digits
abbrev pub IsMask : List ℕ → ℕ → Type 0
IsMask written mask = (digits : List ℕ) × (written ≡ codes "0x" ++ digits) × (1 ≤ length digits) × (length digits ≤ 6) × AllDigits 16 digits × (mask ≡ digits_value 16 digits)

-- a digest of SHA-1, SHA-256 or SHA-384, told by its length
abbrev pub IsDigest : List ℕ → List ℕ → Type 0
IsDigest written digest = IsHex written digest × ((length digest ≡ 20) ⊎ ((length digest ≡ 32) ⊎ (length digest ≡ 48)))
