use Rattle.kl_base.proofs.Tables.{digit_by, none_by}
use Rattle.kl_base.proofs.digits.digit_value.Goals as goal

pub returns-then-value-lt32 : goal.returns-then-value-lt32
returns-then-value-lt32 c = digit_by c.args.byte c.ranges.byte.fits c.if-value-lt32.true

pub returns-else-value-lt32 : goal.returns-else-value-lt32
returns-else-value-lt32 c = none_by c.args.byte c.ranges.byte.fits c.if-value-lt32.false
