-- What a session's parts do, the session does that it stands for.
use Rattle.std.proofs.Common.{◌≡◌, ℕ, List, inl, inr, refl, sym, subst}
use Rattle.kl_registrar.specs.Calls.{Log}
use Rattle.kl_registrar.specs.declared.record.RegRecord.{RegRecord}
use Rattle.kl_script.specs.declared.command.Register.{Register as RegisterCommand}
use Rattle.kl_script.specs.declared.command.RegistrarCommand.{RegistrarCommand}
use Rattle.kl_script.specs.declared.command.RegistrarCommand.TheVariants.{Register}
use Rattle.kl_script.specs.Commands.{VerifierCommandFields, to_verifier, to_registrar}
use Rattle.kl_session.specs.declared.stop.Stop.{Stop}
use Rattle.kl_session.specs.declared.stop.Stop.TheVariants.{NoNonce, Memory}
use Rattle.kl_session.specs.Outside.{Outside}
use Rattle.kl_session.specs.Calls.{VerifierFields, SessionFields, Kept, Stands}
use Rattle.kl_session.specs.Verifying.{VerifierDoes}
use Rattle.kl_session.specs.Registering.{RegistrarDoes}
use Rattle.kl_session.specs.Session.{Does}
use Rattle.kl_session.specs.Stopped.{VerifierStopped, RegistrarStopped, IsStopped}
use Rattle.kl_session.specs.Inner.Registrars.{LeadsTo, IsUnregistered}
use Rattle.kl_session.specs.Inner.Stopping.{IsShort}

abbrev pub kept_by : VerifierFields → List (List ℕ × RegRecord) → Kept
kept_by verifier records = record { verifier = verifier; records = records }

-- ---- the verifier

pub by_verifier : (o o' : Outside) (k : Kept) (v : VerifierFields) (c : VerifierCommandFields) (line : List ℕ) (s : SessionFields) → Stands k s
    → VerifierDoes o o' k.verifier c v line → (s' : SessionFields) × Stands (kept_by v k.records) s' × Does o o' s (to_verifier c) s' line
unfolding Does
by_verifier o o' k v c line s stands does = (
  record { verifier = v; calls = s.calls },
  record { verifier = refl; registrar = stands.registrar },
  (subst (λ (w : VerifierFields). VerifierDoes o o' w c v line) (sym stands.verifier) does, refl),
)

pub verifier_stopped : (why : Stop) (o o' : Outside) (k : Kept) (v : VerifierFields) (c : VerifierCommandFields) (s : SessionFields) → Stands k s
    → VerifierStopped why o o' k.verifier c v → (s' : SessionFields) × Stands (kept_by v k.records) s' × IsStopped why o o' s (to_verifier c) s'
verifier_stopped why o o' k v c s stands stopped = (
  record { verifier = v; calls = s.calls },
  record { verifier = refl; registrar = stands.registrar },
  (subst (λ (w : VerifierFields). VerifierStopped why o o' w c v) (sym stands.verifier) stopped, refl),
)

-- ---- the registrar

pub by_registrar : (o o' : Outside) (k : Kept) (records : List (List ℕ × RegRecord)) (c : RegistrarCommand) (line : List ℕ) (s : SessionFields) → Stands k s
    → LeadsTo k.records records (λ calls calls'. RegistrarDoes o o' calls c calls' line)
    → (s' : SessionFields) × Stands (kept_by k.verifier records) s' × Does o o' s (to_registrar c) s' line
unfolding Does
by_registrar o o' k records c line s stands leads =
    let (calls, keeps, does) = leads s.calls stands.registrar in
    (record { verifier = s.verifier; calls = calls }, record { verifier = stands.verifier; registrar = keeps }, (does, refl))

pub registrar_stopped : (why : Stop) (o o' : Outside) (k : Kept) (records : List (List ℕ × RegRecord)) (c : RegistrarCommand) (s : SessionFields) → Stands k s
    → LeadsTo k.records records (λ calls calls'. RegistrarStopped why o o' calls c calls')
    → (s' : SessionFields) × Stands (kept_by k.verifier records) s' × IsStopped why o o' s (to_registrar c) s'
registrar_stopped why o o' k records c s stands leads =
    let (calls, keeps, stopped) = leads s.calls stands.registrar in
    (record { verifier = s.verifier; calls = calls }, record { verifier = stands.verifier; registrar = keeps }, (stopped, refl))

-- a register that was not answered
pub register_stopped : (why : Stop) (o o' : Outside) (r : RegisterCommand) (calls calls' : Log) → IsUnregistered why o o' r calls calls'
    → RegistrarStopped why o o' calls (Register r) calls'
unfolding RegistrarDoes
register_stopped NoNonce o o' r calls calls' stopped = stopped
register_stopped Memory o o' r calls calls' (inl did) = inl did
register_stopped Memory o o' r calls calls' (inr (same, vain)) = inr (same, inr vain)

-- a command that asks nothing of the outside
call_stopped : (why : Stop) (o : Outside) (c : RegistrarCommand) (calls calls' : Log) (Done : List ℕ → Type 0)
    → ((line : List ℕ) → Done line → RegistrarDoes o o calls c calls' line) → IsShort why calls calls' Done → RegistrarStopped why o o calls c calls'
call_stopped why o c calls calls' Done does (e, short) = subst (λ (stop : Stop). RegistrarStopped stop o o calls c calls') (sym e) (elim short [
  | inl did ↦ inl (did.0, does did.0 did.1)
  | inr same ↦ inr (same, inl refl)
])

-- the calls go on so, and nothing is asked of the outside
pub leads_alone : (old new : List (List ℕ × RegRecord)) (o : Outside) (Did : Log → Log → Type 0) → LeadsTo old new Did → LeadsTo old new (λ calls calls'. (o ≡ o) × Did calls calls')
leads_alone old new o Did leads calls keeps = let (calls', kept, did) = leads calls keeps in (calls', kept, (refl, did))

pub leads_short : (why : Stop) (old new : List (List ℕ × RegRecord)) (o : Outside) (c : RegistrarCommand) (Did : Log → Log → List ℕ → Type 0)
    → ((calls calls' : Log) (line : List ℕ) → Did calls calls' line → RegistrarDoes o o calls c calls' line)
    → LeadsTo old new (λ calls calls'. IsShort why calls calls' (Did calls calls')) → LeadsTo old new (λ calls calls'. RegistrarStopped why o o calls c calls')
leads_short why old new o c Did does leads calls keeps =
    let (calls', kept, short) = leads calls keeps in
    (calls', kept, call_stopped why o c calls calls' (Did calls calls') (does calls calls') short)
