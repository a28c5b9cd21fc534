-- What a registrar's parts do to the records that are kept, or find there.
use Rattle.std.specs.Prelude.{◌≡◌, ◌≤◌, ℕ, ◌+◌, true, List, length, Option, Some, None, is_some, cond, if◌then◌else◌}
use Rattle.std.specs.Ordering.{nat_cmp, is_eq}
use Rattle.std.specs.Cmp.Lexicographic.{slice_cmp}
use Rattle.kl_registrar.specs.declared.record.RegRecord.{RegRecord}
use Rattle.kl_registrar.specs.Records.{kept_of, most_others}

-- this is kept of the agent, and the others are as they were
abbrev pub Puts : List ℕ → RegRecord → List (List ℕ × RegRecord) → List (List ℕ × RegRecord) → Type 0
Puts id made old new = ((other : List ℕ) → kept_of other new
    ≡ cond (is_eq (slice_cmp nat_cmp id other)) (Some made) (kept_of other old))
    × (length new ≡ length old + (if is_some (kept_of id old) then 0 else 1))

abbrev pub activated : Option RegRecord → Option RegRecord
activated None = None
activated (Some r) = Some (record r { active = true })

-- the agent's record is active, and the others are as they were
abbrev pub Marks : List ℕ → List (List ℕ × RegRecord) → List (List ℕ × RegRecord) → Type 0
Marks id old new = ((other : List ℕ) → kept_of other new
    ≡ cond (is_eq (slice_cmp nat_cmp id other)) (activated (kept_of id old)) (kept_of other old)) × (length new ≡ length old)

-- so many agents beside this one have a record, by what is kept
abbrev pub IsFullOf : List (List ℕ × RegRecord) → List ℕ → Type 0
IsFullOf entries id = most_others + (if is_some (kept_of id entries) then 1 else 0) ≤ length entries
