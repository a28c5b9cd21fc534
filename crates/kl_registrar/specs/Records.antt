-- What the calls that were done say of an agent, looking back from the newest, and what a registrar keeps.
use Rattle.std.specs.Prelude.{◌≡◌, ◌⊎◌, ◌↔◌, ◌≤◌, ℕ, ◌+◌, ◌-◌, Bool, List, [], ◌∷◌, length, Option, Some, None, is_some, IsTrue, if◌then◌else◌}
use Rattle.std.specs.Ordering.{nat_cmp}
use Rattle.std.specs.Cmp.Lexicographic.{slice_cmp}
use Rattle.std.specs.BTreeMap.{is_at}
use Rattle.std.specs.Map.{lookup}
use Rattle.kl_keys.specs.Tags.{SpellsTag}
use Rattle.kl_registrar.specs.Calls.{Register, Activate, Remove, Registration, registration, Log, own}
use Rattle.kl_registrar.specs.declared.record.RegRecord.{RegRecord}

-- of the calls on one agent: what its latest register told, none where it was removed since
abbrev pub registered : Log → Option Registration
registered [] = None
registered (Register id r ∷ past) = Some r
registered (Activate id tag ∷ past) = registered past
registered (Remove id ∷ past) = None

-- the text is the agent's tag under the secret of its record, if it has one
abbrev pub Matches : List ℕ → List ℕ → Option Registration → Type 0
Matches id tag None = ⊥
Matches id tag (Some r) = SpellsTag r.secret id tag

-- of the calls on one agent: a tag under the secret of its latest register was given since
abbrev pub IsActive : Log → Type 0
IsActive [] = ⊥
IsActive (Register id r ∷ past) = ⊥
IsActive (Activate id tag ∷ past) = Matches id tag (registered past) ⊎ IsActive past
IsActive (Remove id ∷ past) = ⊥

-- the agent has a record
abbrev pub has_record : Log → List ℕ → Bool
has_record past id = is_some (registered (own past id))

-- how many agents have a record
abbrev pub records : Log → ℕ
records [] = 0
records (Register id r ∷ past) = records past + (if has_record past id then 0 else 1)
records (Activate id tag ∷ past) = records past
records (Remove id ∷ past) = records past - (if has_record past id then 1 else 0)

-- the most records beside an agent's own
abbrev pub most_others : ℕ
most_others = 1024

-- so many agents beside this one have a record
abbrev pub IsFull : Log → List ℕ → Type 0
IsFull past id = most_others + (if has_record past id then 1 else 0) ≤ records past

-- ---- what is kept

-- what the register told by which a record was made
abbrev pub told_of : RegRecord → Registration
told_of r = registration r.ek r.ak r.contact r.secret

-- what is kept of an agent, if anything, is what the calls on it say
abbrev pub IsKept : Log → Option RegRecord → Type 0
IsKept past None = registered past ≡ None
IsKept past (Some r) = (registered past ≡ Some (told_of r)) × (IsTrue r.active ↔ IsActive past)

-- what is kept of this agent among these records
abbrev pub kept_of : List ℕ → List (List ℕ × RegRecord) → Option RegRecord
kept_of id entries = lookup (is_at (slice_cmp nat_cmp id)) entries

-- a registrar that did these calls keeps these records
pub record Keeps (entries : List (List ℕ × RegRecord)) (past : Log) : Type 0 where
  pub each : (id : List ℕ) → IsKept (own past id) (kept_of id entries)
  pub counted : length entries ≡ records past
