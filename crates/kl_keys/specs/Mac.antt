-- Keys in memory, which are no secret: all that is made under a key is made of its bytes by HMAC-SHA-256.
use Rattle.std.specs.Prelude.{ℕ, List, ◌++◌, codes}
use Rattle.std.specs.Str.{bytes_eq}
use Rattle.kl_keys.specs.Hmac.{hmac256_of}
use Rattle.kl_keys.specs.Relations.{Relations}
use Rattle.kl_keys.specs.Xor.{xor_of}

-- the bytes and their value under the key
abbrev pub with_value : List ℕ → List ℕ → List ℕ
with_value key bytes = bytes ++ hmac256_of key bytes

-- the pad under which a secret is sealed
abbrev pub seal_pad : List ℕ → List ℕ
seal_pad public = hmac256_of public (codes "seal")

-- the secret xor the pad, and the value of that
abbrev pub mac_sealed : List ℕ → List ℕ → List ℕ
mac_sealed public secret = with_value public (xor_of secret (seal_pad public))

-- sealed under the value of one key under the other
abbrev pub mac_credential : List ℕ → List ℕ → List ℕ → List ℕ
mac_credential ek ak secret = mac_sealed (hmac256_of ek ak) secret

abbrev pub mac_relations : Relations
mac_relations = record {
  verifies = λ key message signature. bytes_eq signature (hmac256_of key message);
  signs = λ key message. hmac256_of key message;
  sealed = mac_sealed;
  credential_of = mac_credential;
}
