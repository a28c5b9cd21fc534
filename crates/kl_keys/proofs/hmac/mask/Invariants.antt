use Rattle.std.proofs.Common.{◌≡◌, ◌++◌, take, drop}
use Rattle.kl_keys.specs.Hmac.{masked_by}
use Rattle.kl_keys.proofs.hmac.mask.Given as goal

-- the bytes passed are masked, and the others stand as they were
abbrev pub invariant-loop-byte : goal.invariant-loop-byte
invariant-loop-byte l =
    l.block ≡ masked_by l.pad (take l.byte-index l.initial.block) ++ drop l.byte-index l.initial.block
