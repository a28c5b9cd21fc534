-- The pairs so far are decoded.
use Rattle.std.proofs.Common.{◌≡◌, ◌*◌, take}
use Rattle.hex.specs.Hex.{encode_lower}
use Rattle.kl_base.specs.Bytes.{IsBytes}
use Rattle.kl_entry.proofs.digits.decode.Given as goal

abbrev pub invariant-loop-i : goal.invariant-loop-i
invariant-loop-i l = record { bytes : IsBytes l.room; read : take (2 * l.i) l.digits ≡ encode_lower (take l.i l.room) }
