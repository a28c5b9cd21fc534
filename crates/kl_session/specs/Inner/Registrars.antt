-- How the calls that a registrar did go on.
use Rattle.std.specs.Prelude.{◌≡◌, ◌⊎◌, ℕ, List, Result, Ok, Err}
use Rattle.kl_registrar.specs.Calls.{Log}
use Rattle.kl_registrar.specs.Records.{Keeps}
use Rattle.kl_registrar.specs.declared.fault.RegFault.{RegFault}
use Rattle.kl_registrar.specs.declared.record.RegRecord.{RegRecord}
use Rattle.kl_script.specs.declared.command.Register.{Register}
use Rattle.kl_session.specs.declared.stop.Stop.{Stop}
use Rattle.kl_session.specs.declared.stop.Stop.TheVariants.{NoNonce, Memory}
use Rattle.kl_session.specs.Outside.{Outside}
use Rattle.kl_session.specs.Drawing.{DrawsNone}
use Rattle.kl_session.specs.Registering.{DoesRegister}
use Rattle.kl_session.specs.Stopped.{AskedInVain}

-- whatever calls led to what a registrar kept, calls of which this is so lead to what it keeps then
abbrev pub LeadsTo : List (List ℕ × RegRecord) → List (List ℕ × RegRecord) → (Log → Log → Type 0) → Type 0
LeadsTo old new So = (calls : Log) → Keeps old calls → (calls' : Log) × Keeps new calls' × So calls calls'

-- a register was not answered: no secret could be drawn, or memory ran out
abbrev pub IsUnregistered : Stop → Outside → Outside → Register → Log → Log → Type 0
IsUnregistered NoNonce o o' r calls calls' = (calls' ≡ calls) × DrawsNone 32 o o'
IsUnregistered Memory o o' r calls calls' =
    ((line : List ℕ) × DoesRegister o o' r calls calls' line) ⊎ ((calls' ≡ calls) × AskedInVain o o' calls r)

-- an answer, whose value is told by its bytes
abbrev pub told_answer : {V : Type 0} → (V → List ℕ) → Result V RegFault → Result (List ℕ) RegFault
told_answer items (Ok v) = Ok (items v)
told_answer items (Err why) = Err why
