-- The agents whose records are active, among the records that are kept.
use Rattle.std.specs.Prelude.{ℕ, Bool, List, [], ◌∷◌, if◌then◌else◌}
use Rattle.kl_registrar.specs.declared.record.RegRecord.{RegRecord}

-- one more, where it is active
abbrev pub with_one : Bool → List ℕ → List (List ℕ) → List (List ℕ)
with_one active id ids = if active then id ∷ ids else ids

-- in the order of the records
abbrev pub actives : List (List ℕ × RegRecord) → List (List ℕ)
actives [] = []
actives (e ∷ es) = with_one e.1.active e.0 (actives es)
