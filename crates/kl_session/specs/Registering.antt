-- What the commands to the registrar do, and what each prints.
use Rattle.std.specs.Prelude.{◌≡◌, ℕ, List, [], ◌∷◌, Some, None, IsSome, Result, Ok, Err, ⊤}
use Rattle.kl_keys.specs.Told.{KeysTold}
use Rattle.kl_registrar.specs.Asking.{Asked}
use Rattle.kl_registrar.specs.Calls.{Call, Register, Activate, Remove, Registration, registration, Log, own}
use Rattle.kl_registrar.specs.Records.{registered, Matches, IsActive, IsFull}
use Rattle.kl_registrar.specs.Answers.{HasOtherTag, IsInactive, Lists}
use Rattle.kl_registrar.specs.declared.fault.RegFault.{RegFault}
use Rattle.kl_registrar.specs.declared.fault.RegFault.TheVariants.{Full, KeysFault, NoAgent, WrongTag, NotActive}
use Rattle.kl_script.specs.declared.command.Activate.{Activate as ActivateCommand}
use Rattle.kl_script.specs.declared.command.Register.{Register as RegisterCommand}
use Rattle.kl_script.specs.declared.command.RegistrarCommand.{RegistrarCommand}
use Rattle.kl_script.specs.declared.command.RegistrarCommand.TheVariants as commands
use Rattle.kl_session.specs.Outside.{Outside}
use Rattle.kl_session.specs.Calls.{Called}
use Rattle.kl_session.specs.Drawing.{Draws}
use Rattle.kl_session.specs.Texts.{blob_line, active_line, record_line, records_line, forgotten_line, reg_refused_line}

-- ---- a register

-- the answer to a register with this secret: the blob, or why there is none. A full registrar leaves the keys alone; else they are asked once.
abbrev pub RegisterAnswers : RegisterCommand → List ℕ → KeysTold → KeysTold → Result (List ℕ) RegFault → Log → Type 0
RegisterAnswers r secret k k' (Ok blob) calls = (¬ IsFull calls r.agent) × Asked k k' r.ek r.ak secret (Some blob) ⊥
RegisterAnswers r secret k k' (Err Full) calls = IsFull calls r.agent × (k' ≡ k)
RegisterAnswers r secret k k' (Err KeysFault) calls = (¬ IsFull calls r.agent) × Asked k k' r.ek r.ak secret None ⊤
RegisterAnswers r secret k k' (Err _) calls = ⊥

-- a register that was done
abbrev pub registers : RegisterCommand → List ℕ → Call
registers r secret = Register r.agent (registration r.ek r.ak r.contact secret)

abbrev pub register_makes : RegisterCommand → List ℕ → Result (List ℕ) RegFault → List Call
register_makes r secret (Ok blob) = registers r secret ∷ []
register_makes r secret (Err why) = []

abbrev pub says_blob : List ℕ → Result (List ℕ) RegFault → List ℕ
says_blob agent (Ok blob) = blob_line agent blob
says_blob agent (Err why) = reg_refused_line why

-- from the one moment to the other the keys alone were asked
pub record AsksKeys (o o' : Outside) : Type 0 where
  pub words : o'.words ≡ o.words
  pub maker : o'.maker ≡ o.maker
  pub steps : o'.steps ≡ o.steps

-- the secret, of 32 bytes, is drawn first, also where the register is then refused
pub record DoesRegister (o o' : Outside) (r : RegisterCommand) (calls calls' : Log) (line : List ℕ) : Type 0 where
  pub secret : List ℕ
  pub then : Outside
  pub draws : Draws 32 o then secret
  pub asks : AsksKeys then o'
  pub called : Called (RegisterAnswers r secret then.keys o'.keys) (register_makes r secret) (says_blob r.agent) calls calls' line

-- ---- the other calls

-- this call was made, where it was done
abbrev pub makes : Call → Result (Unit {0}) RegFault → List Call
makes call (Ok done) = call ∷ []
makes call (Err why) = []

-- this is said of a call that was done
abbrev pub says : List ℕ → Result (Unit {0}) RegFault → List ℕ
says line (Ok done) = line
says line (Err why) = reg_refused_line why

abbrev pub ActivateAnswers : ActivateCommand → Result (Unit {0}) RegFault → Log → Type 0
ActivateAnswers a (Ok done) calls = Matches a.agent a.tag (registered (own calls a.agent))
ActivateAnswers a (Err NoAgent) calls = registered (own calls a.agent) ≡ None
ActivateAnswers a (Err WrongTag) calls = HasOtherTag a.agent a.tag (registered (own calls a.agent))
ActivateAnswers a (Err _) calls = ⊥

abbrev pub DoesActivate : ActivateCommand → Log → Log → List ℕ → Type 0
DoesActivate a = Called (ActivateAnswers a) (makes (Activate a.agent a.tag)) (says (active_line a.agent))

-- what an agent that is active registered
abbrev pub RecordAnswers : List ℕ → Result Registration RegFault → Log → Type 0
RecordAnswers agent (Ok r) calls = (registered (own calls agent) ≡ Some r) × IsActive (own calls agent)
RecordAnswers agent (Err NoAgent) calls = registered (own calls agent) ≡ None
RecordAnswers agent (Err NotActive) calls = IsInactive (own calls agent)
RecordAnswers agent (Err _) calls = ⊥

abbrev pub says_record : List ℕ → Result Registration RegFault → List ℕ
says_record agent (Ok r) = record_line agent r
says_record agent (Err why) = reg_refused_line why

abbrev pub DoesRecord : List ℕ → Log → Log → List ℕ → Type 0
DoesRecord agent = Called (RecordAnswers agent) (λ answer. []) (says_record agent)

-- all agents that are active
abbrev pub RecordsAnswers : List (List ℕ) → Log → Type 0
RecordsAnswers ids calls = Lists (λ id. IsActive (own calls id)) ids

abbrev pub DoesRecords : Log → Log → List ℕ → Type 0
DoesRecords = Called RecordsAnswers (λ ids. []) records_line

abbrev pub ForgetAnswers : List ℕ → Result (Unit {0}) RegFault → Log → Type 0
ForgetAnswers agent (Ok done) calls = IsSome (registered (own calls agent))
ForgetAnswers agent (Err NoAgent) calls = registered (own calls agent) ≡ None
ForgetAnswers agent (Err _) calls = ⊥

abbrev pub DoesForget : List ℕ → Log → Log → List ℕ → Type 0
DoesForget agent = Called (ForgetAnswers agent) (makes (Remove agent)) (says (forgotten_line agent))

-- ---- a command

-- The command leads from the calls that were done to those that were done then, and prints this line. The objects of the outside
-- told the one before it, and the other after it.
unfoldable pub RegistrarDoes : Outside → Outside → Log → RegistrarCommand → Log → List ℕ → Type 0
RegistrarDoes o o' calls (commands.Register r) calls' line = DoesRegister o o' r calls calls' line
RegistrarDoes o o' calls (commands.Activate a) calls' line = (o' ≡ o) × DoesActivate a calls calls' line
RegistrarDoes o o' calls (commands.Record agent) calls' line = (o' ≡ o) × DoesRecord agent calls calls' line
RegistrarDoes o o' calls commands.Records calls' line = (o' ≡ o) × DoesRecords calls calls' line
RegistrarDoes o o' calls (commands.Forget agent) calls' line = (o' ≡ o) × DoesForget agent calls calls' line
