-- Counts that stop at their end.
use Rattle.std.proofs.Common.{◌≡◌, ℕ, ◌+◌, arith}
use Rattle.kl_io.specs.Calls.{n_more}

-- a count after some more and then more
pub n_more-again : (m n count : ℕ) → n_more m (n_more n count) ≡ n_more (n + m) count
n_more-again m n count = omega arith
