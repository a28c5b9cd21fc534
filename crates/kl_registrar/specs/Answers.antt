-- Which calls are refused, and what is listed.
use Rattle.std.specs.Prelude.{◌↔◌, ℕ, List, Option, Some, None, IsSome, Contains}
use Rattle.std.specs.List.Sorted.{IsStrictlySortedBy}
use Rattle.std.specs.Ordering.{nat_cmp}
use Rattle.std.specs.Cmp.Lexicographic.{slice_cmp}
use Rattle.kl_keys.specs.Tags.{SpellsTag}
use Rattle.kl_keys.specs.declared.fault.KeysError.{KeysError}
use Rattle.kl_keys.specs.declared.fault.KeysError.TheVariants as keys
use Rattle.kl_registrar.specs.Calls.{Registration, Log}
use Rattle.kl_registrar.specs.Records.{registered, IsActive}
use Rattle.kl_registrar.specs.declared.fault.RegFault.{RegFault}
use Rattle.kl_registrar.specs.declared.fault.RegFault.TheVariants.{KeysFault, Memory}

-- what the keys' error is to the registrar
abbrev pub fault_of : KeysError → RegFault
fault_of keys.Fault = KeysFault
fault_of keys.Memory = Memory

-- the agent has a record, and the text is no tag under its secret
abbrev pub HasOtherTag : List ℕ → List ℕ → Option Registration → Type 0
HasOtherTag id tag None = ⊥
HasOtherTag id tag (Some r) = ¬ SpellsTag r.secret id tag

-- of the calls on one agent: it has a record that is not active
abbrev pub IsInactive : Log → Type 0
IsInactive past = IsSome (registered past) × (¬ IsActive past)

-- all agents of which P holds, in the order of the bytes of their names
abbrev pub Lists : (List ℕ → Type 0) → List (List ℕ) → Type 0
Lists P ids = IsStrictlySortedBy (slice_cmp nat_cmp) ids × ((id : List ℕ) → Contains ids id ↔ P id)
