-- An entry with no reason against it is allowed.
use Rattle.std.proofs.Common.{◌≡◌, All, None, ap, sym, subst, ◌∙◌}
use Rattle.std.proofs.lemmas.List.{take_all}
use Rattle.std.proofs.lemmas.List.Elements.{All-more}
use Rattle.kl_policy.specs.Policy.{Allows, why_of}
use Rattle.kl_policy.specs.PolicyFields.{PolicyFields}
use Rattle.kl_policy.proofs.Allowed.{allowed_iff}
use Rattle.kl_policy.proofs.policy.Policy.first_bad.Goals as goal

pub loop-i-preserved : goal.loop-i-preserved
loop-i-preserved c =
    let policy = c.args.self.now in
    let reason : why_of policy c.index-entries-i.result ≡ None = ap (λ (p : PolicyFields). why_of p c.index-entries-i.result) (sym c.loop-i.invariant.same) ∙ sym c.in_ok-found.ensures.why ∙ c.in_default.is in
    let here : Allows policy c.index-entries-i.result = (allowed_iff policy c.index-entries-i.result).0 reason in
    record {
      allowed = All-more (Allows policy) c.args.entries.now c.loop-i.i c.index-entries-i.result c.loop-i-test.true c.loop-i.invariant.allowed
          (subst (Allows policy) c.index-entries-i.is here);
      same = c.why.ensures.same ∙ c.loop-i.invariant.same;
    }

pub returns-clause-first : goal.returns-clause-first
returns-clause-first c = subst (All (Allows c.args.self.now)) (take_all c.loop-i.i c.args.entries.now c.loop-i-test.false) c.loop-i.invariant.allowed
