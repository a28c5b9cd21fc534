-- That a call has one answer, unless memory runs out.
use Rattle.std.specs.Prelude.{◌≡◌, ◌≢◌, Result, Ok, Err, ⊤}
use Rattle.kl_core.specs.declared.refusal.Refusal.{Refusal}
use Rattle.kl_core.specs.declared.refusal.Refusal.TheVariants.{Memory}

-- the answer is not want of memory
abbrev pub IsAmple : {A : Type 0} → Result A Refusal → Type 0
IsAmple (Ok a) = ⊤
IsAmple (Err why) = why ≢ Memory

-- the same, where a refusal comes with what it hands back
abbrev pub IsAmpleWith : {A B : Type 0} → Result A (Refusal × B) → Type 0
IsAmpleWith (Ok a) = ⊤
IsAmpleWith (Err e) = e.0 ≢ Memory

-- any answer, where none is want of memory
abbrev pub IsAny : {A : Type 0} → A → Type 0
IsAny a = ⊤

-- behind these records, or what else it found, a call gives one answer of this kind at most
abbrev pub IsOneAnswer : {A Found : Type 0} → (A → Type 0) → (A → Found → Type 0) → Found → Type 0
IsOneAnswer {A} IsOfKind Answers found = (x y : A) → Answers x found → Answers y found → IsOfKind x → IsOfKind y → x ≡ y
