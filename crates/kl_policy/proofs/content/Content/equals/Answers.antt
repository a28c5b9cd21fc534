use Rattle.std.proofs.Common.{rules, ap, sym, ◌∙◌}
use Rattle.std.proofs.lemmas.Slice.Eq.{bytes_eq-Decides}
use Rattle.kl_policy.specs.PolicyFields.{PolicyFields}
use Rattle.kl_policy.proofs.SamePolicy.{same_policy}
use Rattle.kl_policy.proofs.content.Content.equals.Goals as goal

pub returns-then-eq : goal.returns-then-eq
returns-then-eq c =
    rw (← c.self.view_is, ← c.other.view_is) (
      λ is. same_policy _ _ c.self.invariant c.other.invariant (search rules) (search rules),
      λ same.
          c.eq-then-eq.ensures
          ∙ (bytes_eq-Decides c.as_str.result.now c.as_str-then-eq.result.now).1
          (c.as_str.ensures.value ∙ ap (λ (p : PolicyFields). p.source) same ∙ sym c.as_str-then-eq.ensures.value),
    )
