-- The moments that a clock gives, in milliseconds.
use Rattle.std.specs.Prelude.{◌≡◌, ℕ, List, length, drop, nat_lt, slice_index, if◌then◌else◌, Option, None, Some, ⊤}

-- the next of the moments to come: the first of them, or 0 where there is none
abbrev pub moment : List ℕ → ℕ
moment moments = slice_index moments 0

-- those that come after it: the last one comes again and again
abbrev pub later : List ℕ → List ℕ
later moments = if nat_lt 1 (length moments) then drop 1 moments else moments

-- a clock gave this moment, as it had told
abbrev pub Gives : Option (List ℕ) → Option (List ℕ) → ℕ → Type 0
Gives None new given = ⊤
Gives (Some moments) new given = (given ≡ moment moments) × (new ≡ Some (later moments))
