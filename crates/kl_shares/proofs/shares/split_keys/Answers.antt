use Rattle.std.proofs.Common.{arith}
use Rattle.kl_keys.proofs.Xor.{xor_of-twice}
use Rattle.kl_shares.proofs.shares.split_keys.Goals as goal

pub returns : goal.returns
returns c key v long padded = xor_of-twice key v (omega (arith, long, padded))
