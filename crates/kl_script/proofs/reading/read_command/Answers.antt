use Rattle.std.proofs.Common.{◌≡◌, ℕ, List, Err, subst}
use Rattle.kl_script.specs.declared.fault.CommandFault.TheVariants.{NoCommand}
use Rattle.kl_script.specs.Commands.{CommandFields, Spells, IsRead}
use Rattle.kl_script.proofs.Unique.{read_as}
use Rattle.kl_script.proofs.reading.read_command.Goals as goal

pub returns-in-Ok-clause-only : goal.returns-in-Ok-clause-only
returns-in-Ok-clause-only c =
    subst (λ (t : List ℕ). (said : CommandFields) → Spells t said → IsRead c.read_text.result said) c.in-Ok.ensures.cases.0
    (read_as c.in-Ok.line.now c.read_text.result c.read_text.ensures.found c.read_text.ensures.none)

pub returns-in-Ok-clause-none : goal.returns-in-Ok-clause-none
returns-in-Ok-clause-none c =
    subst (λ (t : List ℕ). c.read_text.result ≡ Err NoCommand → (said : CommandFields) → ¬ (Spells t said)) c.in-Ok.ensures.cases.0 c.read_text.ensures.none
