-- What an entry of a Linux IMA measurement list is and means, in the template `ima-ng`
-- (Documentation/security/IMA-templates of the Linux kernel).
use Rattle.std.specs.Prelude.{◌≡◌, ℕ, ◌≤◌, List, [], ◌∷◌, ◌++◌, length, Bool, ◌||◌, replicate, bytes_eq}
use Rattle.std.specs.Int.{w32, to_le_bytes}
use Rattle.sha1.specs.Sha1.{sha1}

-- an entry of the measurement list
pub record EntryFields : Type 0 where
  -- the template hash, 20 bytes of SHA-1
  pub hash : List ℕ
  -- the name of the algorithm of the file's digest
  pub alg : List ℕ
  -- the bytes of the file's digest
  pub digest : List ℕ
  -- the file's path
  pub path : List ℕ

-- a field of the template data: its length as four bytes, the least first, and then its bytes
abbrev pub field : List ℕ → List ℕ
field bytes = to_le_bytes w32 (length bytes) ++ bytes

-- the field `d-ng`: the algorithm's name, a colon, a byte 0 and the digest
abbrev pub digest_field : EntryFields → List ℕ
digest_field e = e.alg ++ 58 ∷ 0 ∷ [] ++ e.digest

-- the field `n-ng`: the path and a byte 0
abbrev pub path_field : EntryFields → List ℕ
path_field e = e.path ++ 0 ∷ []

-- the template data of an entry, which is what is measured
unfoldable pub data_of : EntryFields → List ℕ
data_of e = field (digest_field e) ++ field (path_field e)

-- 20 bytes 0: the hash in the list by which the kernel marks a violation
abbrev pub no_hash : List ℕ
no_hash = replicate 20 0

-- A violation is an entry whose template hash is zeros: its file was open for writing while it was
-- measured.
abbrev pub is_violation : EntryFields → Bool
is_violation e = bytes_eq e.hash no_hash

-- An entry is consistent where it is a violation, or its template hash is the SHA-1 of its data.
abbrev pub is_consistent : EntryFields → Bool
is_consistent e = is_violation e || bytes_eq e.hash (sha1 (data_of e))

-- what the type of an entry keeps
pub record IsBounded (e : EntryFields) : Type 0 where
  pub hash : length e.hash ≡ 20
  pub alg : length e.alg ≤ 8192
  pub digest : length e.digest ≤ 64
  pub path : length e.path ≤ 8192
