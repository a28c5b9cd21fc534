-- Why a command was not answered.
use Rattle.std.specs.Prelude.{◌≡◌, ◌⊎◌, ℕ, List, Option, None}
use Rattle.kl_policy.specs.Making.{AsksSome}
use Rattle.kl_registrar.specs.Asking.{Asked}
use Rattle.kl_registrar.specs.Calls.{Log}
use Rattle.kl_registrar.specs.Records.{IsFull}
use Rattle.kl_script.specs.declared.command.Register.{Register}
use Rattle.kl_script.specs.declared.command.RegistrarCommand.{RegistrarCommand}
use Rattle.kl_script.specs.declared.command.RegistrarCommand.TheVariants as registrar
use Rattle.kl_script.specs.Commands.{VerifierCommandFields, CommandFields, add, replace, begin, nothing, to_verifier, to_registrar}
use Rattle.kl_states.specs.declared.policy_kind.PolicyKind.{PolicyKind}
use Rattle.kl_session.specs.declared.stop.Stop.{Stop}
use Rattle.kl_session.specs.declared.stop.Stop.TheVariants.{NoNonce, Memory}
use Rattle.kl_session.specs.Outside.{Outside, LeavesRest}
use Rattle.kl_session.specs.Calls.{VerifierFields, SessionFields}
use Rattle.kl_session.specs.Drawing.{Draws, DrawsNone}
use Rattle.kl_session.specs.Verifying.{VerifierDoes}
use Rattle.kl_session.specs.Registering.{AsksKeys, RegistrarDoes}

-- ---- the verifier

-- the first patterns of a policy's text may have been made, and nothing else was done
pub record MadeSome (o o' : Outside) (kind : PolicyKind) (text : List ℕ) : Type 0 where
  pub asked : AsksSome kind text o.maker o'.maker
  pub rest : LeavesRest o o'

-- the command begins a poll whose nonce is to be drawn, and this is so
abbrev pub IsToDraw : VerifierCommandFields → Type 0 → Type 0
IsToDraw (begin b) Drawn = (b.nonce ≡ None) × Drawn
IsToDraw _ Drawn = ⊥

-- the command has a policy, of which patterns may have been made
abbrev pub IsToRead : VerifierCommandFields → Outside → Outside → Type 0
IsToRead (add a) o o' = MadeSome o o' a.kind a.policy
IsToRead (replace r) o o' = MadeSome o o' r.kind r.policy
IsToRead _ o o' = ⊥

-- A command to the verifier was not answered: no nonce could be drawn for it, which changes nothing; or memory ran out, before
-- anything was done (but that a nonce may have been drawn, or patterns made) or after all was done, so that its line alone is missing.
abbrev pub VerifierStopped : Stop → Outside → Outside → VerifierFields → VerifierCommandFields → VerifierFields → Type 0
VerifierStopped NoNonce o o' s c s' = (s' ≡ s) × IsToDraw c (DrawsNone 16 o o')
VerifierStopped Memory o o' s c s' =
    ((line : List ℕ) × VerifierDoes o o' s c s' line)
    ⊎ ((s' ≡ s) × ((o' ≡ o) ⊎ IsToDraw c ((drawn : List ℕ) × Draws 16 o o' drawn) ⊎ IsToRead c o o'))

-- ---- the registrar

-- the command registers an agent, whose secret is to be drawn, and this is so
abbrev pub IsToRegister : RegistrarCommand → (Register → Type 0) → Type 0
IsToRegister (registrar.Register r) So = So r
IsToRegister _ So = ⊥

-- the registrar was not full, a secret was drawn, and then the keys were asked for the blob without a fault
pub record AskedInVain (o o' : Outside) (calls : Log) (r : Register) : Type 0 where
  pub room : ¬ IsFull calls r.agent
  pub secret : List ℕ
  pub then : Outside
  pub draws : Draws 32 o then secret
  pub asks : AsksKeys then o'
  pub answer : Option (List ℕ)
  pub asked : Asked then.keys o'.keys r.ek r.ak secret answer ⊥

-- A command to the registrar was not answered: no secret could be drawn for it, which changes nothing; or memory ran out, before
-- anything was done (but that a secret may have been drawn and the keys asked) or after all was done, so that its line alone is missing.
abbrev pub RegistrarStopped : Stop → Outside → Outside → Log → RegistrarCommand → Log → Type 0
RegistrarStopped NoNonce o o' calls c calls' = (calls' ≡ calls) × IsToRegister c (λ r. DrawsNone 32 o o')
RegistrarStopped Memory o o' calls c calls' =
    ((line : List ℕ) × RegistrarDoes o o' calls c calls' line) ⊎ ((calls' ≡ calls) × ((o' ≡ o) ⊎ IsToRegister c (AskedInVain o o' calls)))

-- ---- a session

abbrev pub IsStopped : Stop → Outside → Outside → SessionFields → CommandFields → SessionFields → Type 0
IsStopped why o o' s nothing s' = ⊥
IsStopped why o o' s (to_verifier c) s' = VerifierStopped why o o' s.verifier c s'.verifier × (s'.calls ≡ s.calls)
IsStopped why o o' s (to_registrar c) s' = RegistrarStopped why o o' s.calls c s'.calls × (s'.verifier ≡ s.verifier)
