-- Notices in the order in which they were posted, and how many of them are delivered.
use Rattle.std.specs.Prelude.{◌≡◌, ℕ, ◌+◌, Bool, if◌then◌else◌, List, Option, Some, slice_get}
use Rattle.kl_notice.specs.declared.notice.Notice.{Notice}

-- the notices, how many of the first are delivered, and for how many more there is room
pub record OutboxFields : Type 0 where
  pub posted : List Notice
  pub marks : ℕ
  pub spare : ℕ

-- each notice has its place, from 1, as its number
abbrev pub AreNumbered : List Notice → Type 0
AreNumbered notices = (i : ℕ) (n : Notice) → slice_get notices i ≡ Some n → n.number ≡ i + 1

-- the first notice that is not delivered
abbrev pub next_of : OutboxFields → Option Notice
next_of o = slice_get o.posted o.marks

-- this is the number of the first notice that is not delivered
abbrev pub IsNextNumber : OutboxFields → ℕ → Type 0
IsNextNumber o number = (n : Notice) × (next_of o ≡ Some n) × (n.number ≡ number)

-- one delivered notice more, or all as before
abbrev pub marked_if : Bool → OutboxFields → OutboxFields
marked_if found o = if found then (record o { marks = o.marks + 1 }) else o
