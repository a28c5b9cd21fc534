use Rattle.std.proofs.Common.{arith}
use Rattle.kl_attest.proofs.Masks.{mask_is}
use Rattle.kl_attest.proofs.selections.low_number.Goals as goal

pub returns : goal.returns
returns c =
    omega (arith, c.from_le_bytes.ensures, c.byte_or_zero-low.ensures, c.byte_or_zero-middle.ensures, c.byte_or_zero-high.ensures, mask_is c.args.select.now (λ i. omega (arith, c.type_inv.select i)))
