-- Members of an object, by name and kind.
use Rattle.std.specs.Prelude.{◌≡◌, ◌<◌, ℕ, List, Option, Some, None, IsSome, option_and_then}
use Rattle.serde_json.specs.Data.{Data}
use Rattle.serde_json.specs.Find.{get, as_number, as_u64}

-- the member of this name, as a kind reads it: none where the data is no object, has no such member, or the member is
-- of another kind
abbrev pub member_as : {A : Type 0} → (Data → Option A) → List ℕ → Data → Option A
member_as kind name d = option_and_then kind (get name d)

-- a number of at most 64 bits, with no sign
abbrev pub as_count : Data → Option ℕ
as_count d = option_and_then as_u64 (as_number d)

-- the data is no object, or has no member of this name
abbrev pub IsMissing : List ℕ → Data → Type 0
IsMissing name d = get name d ≡ None

-- there is a member of this name, of another kind
abbrev pub IsOther : {A : Type 0} → (Data → Option A) → List ℕ → Data → Type 0
IsOther kind name d = IsSome (get name d) × (member_as kind name d ≡ None)

-- the member of this name is a number above the bound
abbrev pub IsAbove : ℕ → List ℕ → Data → Type 0
IsAbove max name d = (n : ℕ) × (member_as as_count name d ≡ Some n) × (max < n)
