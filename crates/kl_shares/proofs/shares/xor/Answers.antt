use Rattle.std.proofs.Common.{◌≡◌, ap, ◌∙◌, arith}
use Rattle.kl_keys.proofs.Xor.{masked_to, masked_none, masked_more, masked_all}
use Rattle.kl_shares.proofs.shares.xor.Goals as goal

pub loop-i-init : goal.loop-i-init
loop-i-init c = masked_none c.args.bytes.now c.args.pad.now

pub loop-i-preserved : goal.loop-i-preserved
loop-i-preserved c =
    masked_more c.args.bytes.now c.args.pad.now c.loop-i.masked c.loop-i.i (omega arith) (omega arith) c.loop-i.invariant

pub returns : goal.returns
returns c =
    let done : c.loop-i.i ≡ 32 = omega arith in
    c.loop-i.invariant ∙ ap (masked_to c.args.bytes.now c.args.pad.now) done
    ∙ masked_all c.args.bytes.now c.args.pad.now 32 c.told-bytes c.told-pad
