use Rattle.std.proofs.Common.{arith}
use Rattle.kl_attest.proofs.writing.put_sized.Goals as goal

pub returns-clause-fits : goal.returns-clause-fits
returns-clause-fits c = record { len = omega (arith, c.requires); each = λ i. omega (arith, c.type_inv.bytes i) }
