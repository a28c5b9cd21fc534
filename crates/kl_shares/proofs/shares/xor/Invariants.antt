use Rattle.std.proofs.Common.{◌≡◌}
use Rattle.kl_keys.proofs.Xor.{masked_to}
use Rattle.kl_shares.proofs.shares.xor.Given as goal

abbrev pub invariant-loop-i : goal.invariant-loop-i
invariant-loop-i l = l.masked ≡ masked_to l.bytes l.pad l.i
