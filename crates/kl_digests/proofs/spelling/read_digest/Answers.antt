-- The pairs so far are decoded, and each digit has a value.
use Rattle.std.proofs.Common.{◌+◌, ◌*◌, [], refl, sym, ◌∙◌, arith}
use Rattle.std.proofs.Math.ListN.{length-set}
use Rattle.kl_digests.proofs.Decoding.{decoded_none, decoded_more, no_digit_at}
use Rattle.kl_digests.proofs.spelling.read_digest.Goals as goal

pub loop-i-init : goal.loop-i-init
loop-i-init c = (decoded_none c.args.digits.now [], refl)

pub returns-in_err-high-clause-none : goal.returns-in_err-high-clause-none
returns-in_err-high-clause-none c =
    no_digit_at c.from_residual.result c.args.digits.now (2 * c.loop-i.i) (omega arith) c.in_err-high.ensures

pub returns-in_err-low-clause-none : goal.returns-in_err-low-clause-none
returns-in_err-low-clause-none c =
    no_digit_at c.from_residual-in_err-low.result c.args.digits.now (2 * c.loop-i.i + 1) (omega arith) c.in_err-low.ensures

pub loop-i-preserved : goal.loop-i-preserved
loop-i-preserved c = (
  decoded_more c.args.digits.now c.loop-i.room c.loop-i.i c.in_ok-high.high c.in_ok-low.low (omega arith) (omega arith) c.loop-i.invariant.0
      (sym c.in_ok-high.ensures) (sym c.in_ok-low.ensures),
  length-set _ _ _ ∙ c.loop-i.invariant.1,
)
