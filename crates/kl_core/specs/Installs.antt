-- What the calls that install terms answer, by the records that they found, and which record each makes.
use Rattle.std.specs.Prelude.{◌≡◌, ℕ, ◌+◌, ◌≤◌, List, [], ◌∷◌, length, None, IsSome, Result, Ok, Err, ⊤}
use Rattle.std.specs.Option.{option_map_or}
use Rattle.kl_policy.specs.PolicyFields.{PolicyFields}
use Rattle.kl_appraise.specs.Terms.{TermsFields}
use Rattle.kl_history.specs.declared.record.InstallWhy.{InstallWhy}
use Rattle.kl_history.specs.declared.record.InstallWhy.TheVariants.{Add, Replace, Reactivate}
use Rattle.kl_history.specs.declared.record.Record.{Record}
use Rattle.kl_history.specs.declared.record.Record.TheVariants.{Install}
use Rattle.kl_history.specs.Records.{Past, own, generations}
use Rattle.kl_history.specs.LookBacks.{Installed, installed}
use Rattle.kl_history.specs.Legal.{agents, MayInstall, HasRoom, HasBytes}
use Rattle.kl_core.specs.declared.refusal.Refusal.{Refusal}
use Rattle.kl_core.specs.declared.refusal.Refusal.TheVariants.{NoAgent, Exists, AgentsFull, JournalRecords, JournalBytes, Memory}

-- the terms with another policy
abbrev pub with_policy : PolicyFields → TermsFields → TermsFields
with_policy p t = record t { policy = p }

-- the terms as they are
abbrev pub as_they_are : TermsFields → TermsFields
as_they_are t = t

-- an agent is installed once more, under the terms that it has, changed so
abbrev pub reinstall : (TermsFields → TermsFields) → InstallWhy → List ℕ → ℕ → Past → List Record
reinstall change why a g past = option_map_or (λ (i : Installed). Install a g (change i.terms) why ∷ []) (installed (own past a)) []

-- ---- add
abbrev pub RefusesAdd : Past → List ℕ → TermsFields → Refusal → Type 0
RefusesAdd past a t Exists = IsSome (installed (own past a))
RefusesAdd past a t AgentsFull = (installed (own past a) ≡ None) × (1024 ≤ agents past)
RefusesAdd past a t JournalRecords = MayInstall past a t Add × (¬ (HasRoom past 1))
RefusesAdd past a t JournalBytes = MayInstall past a t Add × HasRoom past 1 × (¬ (HasBytes past (length t.policy.source)))
RefusesAdd past a t Memory = ⊤
RefusesAdd past a t _ = ⊥

-- the next generation, or a refusal with the terms
abbrev pub Adds : List ℕ → TermsFields → Result ℕ (Refusal × TermsFields) → Past → Type 0
Adds a t (Ok g) past = (g ≡ generations past + 1) × MayInstall past a t Add × HasRoom past 1 × HasBytes past (length t.policy.source)
Adds a t (Err e) past = RefusesAdd past a t e.0 × (e.1 ≡ t)

abbrev pub add_makes : List ℕ → TermsFields → Result ℕ (Refusal × TermsFields) → Past → List Record
add_makes a t (Ok g) past = Install a g t Add ∷ []
add_makes a t (Err e) past = []

-- ---- replace
abbrev pub RefusesReplace : Past → List ℕ → PolicyFields → Refusal → Type 0
RefusesReplace past a p NoAgent = installed (own past a) ≡ None
RefusesReplace past a p JournalRecords = IsSome (installed (own past a)) × (¬ (HasRoom past 1))
RefusesReplace past a p JournalBytes = IsSome (installed (own past a)) × HasRoom past 1 × (¬ (HasBytes past (length p.source)))
RefusesReplace past a p Memory = ⊤
RefusesReplace past a p _ = ⊥

-- the next generation, or a refusal with the policy
abbrev pub Replaces : List ℕ → PolicyFields → Result ℕ (Refusal × PolicyFields) → Past → Type 0
Replaces a p (Ok g) past = (g ≡ generations past + 1) × IsSome (installed (own past a)) × HasRoom past 1 × HasBytes past (length p.source)
Replaces a p (Err e) past = RefusesReplace past a p e.0 × (e.1 ≡ p)

-- the terms stay but for the policy
abbrev pub replace_makes : List ℕ → PolicyFields → Result ℕ (Refusal × PolicyFields) → Past → List Record
replace_makes a p (Ok g) past = reinstall (with_policy p) Replace a g past
replace_makes a p (Err e) past = []

-- ---- reactivate
abbrev pub RefusesReactivate : Past → List ℕ → Refusal → Type 0
RefusesReactivate past a NoAgent = installed (own past a) ≡ None
RefusesReactivate past a JournalRecords = IsSome (installed (own past a)) × (¬ (HasRoom past 1))
RefusesReactivate past a Memory = ⊤
RefusesReactivate past a _ = ⊥

-- the next generation, or a refusal
abbrev pub Reactivates : List ℕ → Result ℕ Refusal → Past → Type 0
Reactivates a (Ok g) past = (g ≡ generations past + 1) × IsSome (installed (own past a)) × HasRoom past 1
Reactivates a (Err why) past = RefusesReactivate past a why

abbrev pub reactivate_makes : List ℕ → Result ℕ Refusal → Past → List Record
reactivate_makes a (Ok g) past = reinstall as_they_are Reactivate a g past
reactivate_makes a (Err why) past = []
