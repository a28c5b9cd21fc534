use Rattle.std.proofs.Common.{◌<◌, length, get_or, bit_xor, arith}
use Rattle.std.proofs.lemmas.List.{get_or_default}
use Rattle.std.proofs.lemmas.List.Edits.{map_over_more}
use Rattle.kl_keys.proofs.hmac.mask.Goals as goal

pub loop-byte-preserved : goal.loop-byte-preserved
loop-byte-preserved c =
    let ys = c.loop-byte.block in
    let i = c.loop-byte.byte-index in
    let byte = get_or ys i 0 in
    let lt : i < length ys = omega arith in
    map_over_more (λ b. bit_xor b c.args.pad) c.args.block.now ys i byte (omega arith) c.loop-byte.invariant (get_or_default ys i 0 byte lt)
