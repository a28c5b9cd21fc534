-- The digests of the text have too many paths.
use Rattle.std.proofs.Common.{arith}
use Rattle.kl_policy.proofs.flat.flat_digests.Goals as goal

pub returns-then-len-gt-MOST_PATHS-clause-fault : goal.returns-then-len-gt-MOST_PATHS-clause-fault
returns-then-len-gt-MOST_PATHS-clause-fault c = (c.in_ok-digests.digests, c.in_ok-digests.ensures.digests, omega arith)
