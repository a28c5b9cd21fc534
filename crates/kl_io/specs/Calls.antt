-- What an object of the outside counts of its calls.
use Rattle.std.specs.Prelude.{◌≡◌, ℕ, ◌+◌, ◌-◌, ◌^◌, ◌≤◌, min, Bool, true, false}

-- a count after n more, which stops at `u64::MAX`
abbrev pub n_more : ℕ → ℕ → ℕ
n_more n count = min (count + n) (2 ^ 64 - 1)

-- a count after one more
abbrev pub one_more : ℕ → ℕ
one_more count = n_more 1 count

pub record Calls : Type 0 where
  -- how many calls there were, up to `u64::MAX`
  pub made : ℕ
  -- how many of them met a fault, up to `u64::MAX`
  pub faults : ℕ
  -- whether the last of them met one
  pub failed : Bool

-- no call yet
abbrev pub no_calls : Calls
no_calls = record { made = 0; faults = 0; failed = false }

-- one call more, which met a fault exactly where `Fault` is so
pub record Counts (old new : Calls) (Fault : Type 0) : Type 0 where
  pub made : new.made ≡ one_more old.made
  pub met : Fault → (new.faults ≡ one_more old.faults) × (new.failed ≡ true)
  pub unmet : ¬ Fault → (new.faults ≡ old.faults) × (new.failed ≡ false)
  -- no count of faults falls, whatever it counts up to
  pub later : old.faults ≤ new.faults

-- a count went up by one or more; at `u64::MAX` it can't, and stays
abbrev pub Rose : ℕ → ℕ → Type 0
Rose before now = one_more before ≤ now

-- over several calls: the count of faults did not fall, and where `Fault` is so it rose
pub record HasCause (before now : ℕ) (Fault : Type 0) : Type 0 where
  pub later : before ≤ now
  pub rose : Fault → Rose before now
