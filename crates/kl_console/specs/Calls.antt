-- What is counted of several calls of an object.
use Rattle.std.specs.Prelude.{◌≡◌, ℕ, zero, ◌≤◌, true}
use Rattle.kl_io.specs.Calls.{Calls, n_more, one_more}

-- a count after so many calls more; none leave it as it was
abbrev pub count_after : ℕ → ℕ → ℕ
count_after zero count = count
count_after n count = n_more n count

-- some calls, or none: the last of them met a fault exactly where `Fault` is so, and no other did
pub record FailsAtLast (old new : Calls) (Fault : Type 0) : Type 0 where
  pub met : Fault → (new.faults ≡ one_more old.faults) × (new.failed ≡ true)
  pub unmet : ¬ Fault → new.faults ≡ old.faults
  -- the count did not fall, whatever it counts up to
  pub later : old.faults ≤ new.faults
