-- What the commands that install terms do.
use Rattle.std.specs.Prelude.{◌≡◌, ◌⊎◌, ℕ, List, Option, Some, Result, Ok, Err}
use Rattle.kl_policy.specs.PolicyFields.{PolicyFields}
use Rattle.kl_policy.specs.Reading.{IsPolicy}
use Rattle.kl_policy.specs.declared.fault.PolicyFault.{PolicyFault}
use Rattle.kl_appraise.specs.Terms.{AreTerms, TermsFields}
use Rattle.kl_script.specs.declared.command.Add.{Add}
use Rattle.kl_script.specs.declared.command.Replace.{Replace}
use Rattle.kl_core.specs.declared.refusal.Refusal.{Refusal}
use Rattle.kl_core.specs.Installs.{Adds, add_makes, Replaces, replace_makes, Reactivates, reactivate_makes}
use Rattle.kl_session.specs.declared.naming.NoTerms.{NoTerms}
use Rattle.kl_session.specs.Calls.{VerifierFields, Answered}
use Rattle.kl_session.specs.declared.naming.NoTerms.TheVariants.{Policy}
use Rattle.kl_session.specs.Outside.{Outside}
use Rattle.kl_session.specs.Terms.{NamesTerms, NamesNoTerms, Reads, Refuses}
use Rattle.kl_session.specs.Texts.{installed_line, refused_line, says_refused, no_terms_text}

-- the generation that was installed, or why none was
abbrev pub says_installed : List ℕ → Result ℕ Refusal → Option (List ℕ)
says_installed agent (Ok g) = Some (installed_line agent g)
says_installed agent (Err why) = says_refused why

-- the same, where the refusal comes with what it hands back
abbrev pub says_installed_or : {T : Type 0} → List ℕ → Result ℕ (Refusal × T) → Option (List ℕ)
says_installed_or agent (Ok g) = Some (installed_line agent g)
says_installed_or agent (Err e) = says_refused e.0

-- the command names no terms, which changes nothing
abbrev pub NamesNone : NoTerms → VerifierFields → VerifierFields → List ℕ → Type 0
NamesNone why s s' line = (s' ≡ s) × (line ≡ refused_line (no_terms_text why))

-- an add: the terms that it names are installed
abbrev pub DoesAdd : Outside → Outside → Add → VerifierFields → VerifierFields → List ℕ → Type 0
DoesAdd o o' a s s' line =
    ((t : TermsFields) × NamesTerms a t × AreTerms t × Reads o o' s.history a.kind t.policy
    × Answered (Adds a.agent t) (add_makes a.agent t) (says_installed_or a.agent) s s' line)
    ⊎ ((why : NoTerms) × NamesNoTerms o o' s.history a why × NamesNone why s s' line)

-- a replace: the policy that it names is installed, and the other terms stay
abbrev pub DoesReplace : Outside → Outside → Replace → VerifierFields → VerifierFields → List ℕ → Type 0
DoesReplace o o' r s s' line =
    ((p : PolicyFields) × IsPolicy r.kind r.policy p × Reads o o' s.history r.kind p
    × Answered (Replaces r.agent p) (replace_makes r.agent p) (says_installed_or r.agent) s s' line)
    ⊎ ((why : PolicyFault) × Refuses o o' r.kind r.policy why × NamesNone (Policy why) s s' line)

abbrev pub DoesReactivate : List ℕ → VerifierFields → VerifierFields → List ℕ → Type 0
DoesReactivate agent = Answered (Reactivates agent) (reactivate_makes agent) (says_installed agent)
