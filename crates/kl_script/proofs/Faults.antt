-- A fault that is passed on.
use Rattle.std.proofs.Common.{◌≡◌, Result, Ok, Err}
use Rattle.std.specs.Result.{IsErrAnd}
use Rattle.kl_script.specs.declared.fault.CommandFault.{CommandFault}
use Rattle.kl_script.specs.declared.fault.CommandFault.TheVariants.{NoCommand}

-- the call found no command, or no word
abbrev pub IsNone : {T : Type 0} → Result T CommandFault → Type 0
IsNone r = r ≡ Err NoCommand

-- what a callee says where it finds nothing is known at the exit of its `?`
pub at_exit : {S T A : Type 0} (e : CommandFault) → (IsNone {T = S} (Err e) → A) → (r : Result T CommandFault) → IsErrAnd r (λ x. x ≡ e) → IsNone r → A
at_exit e none (Ok v) h is = absurd h
at_exit e none (Err d) h is = none cc
