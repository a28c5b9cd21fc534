-- Two digits more are one byte more.
use Rattle.std.proofs.Common.{◌<◌, sym, arith}
use Rattle.kl_entry.proofs.Hexadecimal.{IsBytes-set, pair_read, encode_none}
use Rattle.kl_entry.proofs.digits.decode.Goals as goal

pub loop-i-init : goal.loop-i-init
loop-i-init c = record { bytes = λ i. omega (arith, c.type_inv.room i); read = sym encode_none }

pub loop-i-preserved : goal.loop-i-preserved
loop-i-preserved c =
    let h : c.lower_digit-high.result < 16 = omega arith in
    let l : c.lower_digit-low.result < 16 = omega arith in
    record {
      bytes = IsBytes-set c.loop-i.room c.loop-i.i _ (omega arith) c.loop-i.invariant.bytes;
      read = pair_read c.args.digits.now c.loop-i.room c.loop-i.i c.lower_digit-high.result c.lower_digit-low.result c.loop-i.invariant.read (omega arith) (omega arith) h l (c.lower_digit-high.ensures.value h) (c.lower_digit-low.ensures.value l);
    }
