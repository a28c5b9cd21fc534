use Rattle.std.proofs.Common.{rules, ◌≡◌, arith}
use Rattle.std.specs.Int.{bit_at}
use Rattle.std.proofs.lemmas.Nat.Bits.{bit_at_above}
use Rattle.kl_pcr.proofs.quoted.selects.Goals as goal

pub returns-else-n-lt32-clause-selected : goal.returns-else-n-lt32-clause-selected
returns-else-n-lt32-clause-selected c =
    let above : bit_at c.args.mask c.args.n ≡ 0 = bit_at_above c.args.mask 32 c.args.n c.ranges.mask.fits c.if-n-lt32.false in
    (search rules, λ selected. absurd (omega (arith, above, selected)))
