-- The tag by which an agent shows that it knows a key.
use Rattle.std.specs.Prelude.{◌≡◌, ℕ, List, Ok}
use Rattle.hex.specs.Hex.{decode_of}
use Rattle.kl_keys.specs.Hmac.{hmac384_of}

-- of a key and an agent's id
abbrev pub tag_of : List ℕ → List ℕ → List ℕ
tag_of key id = hmac384_of key id

-- the text is the tag's hexadecimal form, in either case of letters
abbrev pub SpellsTag : List ℕ → List ℕ → List ℕ → Type 0
SpellsTag key id text = decode_of text ≡ Ok (tag_of key id)
