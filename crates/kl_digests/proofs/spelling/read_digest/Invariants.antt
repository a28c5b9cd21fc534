-- The pairs so far are decoded.
use Rattle.std.proofs.Common.{◌≡◌, length}
use Rattle.kl_digests.proofs.Decoding.{IsDecoded}
use Rattle.kl_digests.proofs.spelling.read_digest.Given as goal

abbrev pub invariant-loop-i : goal.invariant-loop-i
invariant-loop-i l = IsDecoded l.digits l.room l.i × (length l.room ≡ 64)
