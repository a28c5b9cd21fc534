use Rattle.kl_base.proofs.Tables.{lower_value, lower_refused}
use Rattle.kl_base.proofs.digits.lower_digit.Goals as goal

pub returns-clause-value : goal.returns-clause-value
returns-clause-value c = lower_value c.args.byte c.ranges.byte.fits

pub returns-clause-refused : goal.returns-clause-refused
returns-clause-refused c = lower_refused c.args.byte c.ranges.byte.fits
