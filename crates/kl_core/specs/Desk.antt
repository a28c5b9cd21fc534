-- What a desk tells, and what each of its calls does to that.
use Rattle.std.specs.Prelude.{◌≡◌, ℕ, ◌+◌, ◌<◌, ◌≤◌, suc, List, [], ◌∷◌, ◌++◌, length, All}
use mathlib.Core.List.{IsPrefix}
use Rattle.kl_history.specs.declared.record.Record.{Record}
use Rattle.kl_history.specs.Records.{History, Past}
use Rattle.kl_history.specs.Legal.{Legal}
use Rattle.kl_core.specs.Books.{BookFields, past}

-- what a desk tells: the history as it is known there, the places of the records that the desk's own calls made, and how many
-- notices are known there to be delivered
pub record Told : Type 0 where
  pub seen : History
  pub mine : List ℕ
  pub marks : ℕ

-- the places of these records from a place on
abbrev pub places_from : ℕ → List Record → List ℕ
places_from n [] = []
places_from n (r ∷ rs) = n ∷ places_from (suc n) rs

-- A call that found this, made these records, which stand behind those found, and marked so many notices as delivered. What was
-- seen before begins the records found, and of the notices at least those are delivered that were known to be.
pub record Event (old new : Told) (made : List Record) (marked : ℕ) (found : BookFields) : Type 0 where
  pub known : IsPrefix old.seen found.history
  pub below : All (λ place. place < length found.history) old.mine
  pub least : old.marks ≤ found.marks
  pub seen : new.seen ≡ found.history ++ made
  pub mine : new.mine ≡ old.mine ++ places_from (length found.history) made
  pub marks : new.marks ≡ found.marks + marked
  pub legal : Legal new.seen

-- A call that makes these records and marks no notice, and whose answer is of the records that it found.
abbrev pub Calls : Told → Told → (Past → List Record) → (Past → Type 0) → Type 0
Calls old new makes Answer = (found : BookFields) × Event old new (makes (past found)) 0 found × Answer (past found)

-- a call that makes no record
abbrev pub nothing : Past → List Record
nothing past = []

-- A call that makes no record and marks so many notices, and whose answer is of the records and the marks that it found.
abbrev pub Marks : Told → Told → ℕ → (BookFields → Type 0) → Type 0
Marks old new marked Answer = (found : BookFields) × Event old new [] marked found × Answer found
