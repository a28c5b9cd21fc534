-- HMAC (RFC 2104, section 2): H((K xor opad) ++ H((K xor ipad) ++ text)). The key is filled with
-- zero bytes to a block of the hash function; a key that is longer than a block is hashed first.
use Rattle.std.specs.Prelude.{ℕ, ◌-◌, List, ◌++◌, length, map, replicate, nat_lt, bit_xor, if◌then◌else◌}
use Rattle.sha2.specs.Sha256.{sha256}
use Rattle.sha2.specs.Sha512.{sha384}

-- the bytes, and zeros up to n bytes
abbrev pub filled_to : ℕ → List ℕ → List ℕ
filled_to n bytes = bytes ++ replicate (n - length bytes) 0

-- each byte xor the pad
abbrev pub masked_by : ℕ → List ℕ → List ℕ
masked_by pad bytes = map (λ b. bit_xor b pad) bytes

-- the key as one block
abbrev pub block_key : (List ℕ → List ℕ) → ℕ → List ℕ → List ℕ
block_key hash block key = filled_to block (if nat_lt block (length key) then hash key else key)

-- the bytes ipad and opad
abbrev pub inner_pad : ℕ
inner_pad = 0x36

abbrev pub outer_pad : ℕ
outer_pad = 0x5C

-- the value under a key that fills a block
abbrev pub keyed_hash : (List ℕ → List ℕ) → List ℕ → List ℕ → List ℕ
keyed_hash hash key message =
    hash (masked_by outer_pad key ++ hash (masked_by inner_pad key ++ message))

-- HMAC over a hash function with blocks of so many bytes
unfoldable pub hmac_of : (List ℕ → List ℕ) → ℕ → List ℕ → List ℕ → List ℕ
hmac_of hash block key message = keyed_hash hash (block_key hash block key) message

-- HMAC-SHA-256
unfoldable pub hmac256_of : List ℕ → List ℕ → List ℕ
hmac256_of key message = hmac_of sha256 64 key message

-- HMAC-SHA-384
unfoldable pub hmac384_of : List ℕ → List ℕ → List ℕ
hmac384_of key message = hmac_of sha384 128 key message
