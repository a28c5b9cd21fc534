use Rattle.std.proofs.Common.{◌≡◌}
use Rattle.kl_keys.proofs.Xor.{masked_to}
use Rattle.kl_keys.proofs.sealing.mask.Given as goal

abbrev pub invariant-loop-i : goal.invariant-loop-i
invariant-loop-i l = l.bytes ≡ masked_to l.initial.bytes l.pad l.i
