-- A text that is no 48 bytes in hexadecimal digits spells no tag.
use Rattle.std.proofs.Common.{◌≡◌, ℕ, ◌*◌, List, length, Err, sym, ap, ◌∙◌}
use Rattle.hex.proofs.HexLemmas.{decode_of-ok, decode_sized-twice}
use Rattle.hex.specs.Hex.{decode_sized}
use Rattle.hex.specs.declared.error.FromHexError.{FromHexError}
use Rattle.sha2.proofs.Facts512.{length-sha384}
use Rattle.kl_keys.specs.Hmac.{hmac_of, hmac384_of}
use Rattle.kl_keys.specs.Tags.{tag_of, SpellsTag}

length-tag : (key id : List ℕ) → length (tag_of key id) ≡ 48
unfolding hmac_of hmac384_of
length-tag key id = length-sha384 _

pub not_spelled : (key id text : List ℕ) (e : FromHexError) → decode_sized text 48 ≡ Err e → SpellsTag key id text → ⊥
not_spelled key id text e refused spelled =
    let twice : length text ≡ 2 * 48 = (decode_of-ok text (tag_of key id) spelled).2 ∙ ap (λ n. 2 * n) (length-tag key id) in
    cc (sym refused ∙ decode_sized-twice text 48 twice ∙ spelled)
