-- Where memory runs out behind the parts, all patterns were asked.
use Rattle.std.proofs.Common.{string_bytes, sym, subst}
use Rattle.std.proofs.lemmas.Result.{IfErr-weaker}
use Rattle.kl_policy.specs.Making.{IsJsonFault, IsNoPolicy}
use Rattle.kl_policy.specs.declared.fault.PolicyFault.{PolicyFault}
use Rattle.kl_policy.specs.declared.fault.PolicyFault.TheVariants.{Memory}
use Rattle.kl_policy.proofs.JsonFacts.{memory_fault}
use Rattle.kl_states.specs.declared.policy_kind.PolicyKind.{PolicyKind}
use Rattle.kl_policy.proofs.reading.read_policy.Goals as goal

pub returns-in_ok-parts-in-Json-clause-fault : goal.returns-in_ok-parts-in-Json-clause-fault
returns-in_ok-parts-in-Json-clause-fault g c =
    let parts = c.in_ok-parts-in-Json.parts in
    let old = g.P.PatternMaker.told c.args.maker.now in
    let new = g.P.PatternMaker.told c.json_parts.new.maker in
    let fault : IsJsonFault c.as_str-in-Json.result.now old new Memory =
    memory_fault c.as_str-in-Json.result.now parts.digests parts.patterns parts.passes_violations old new c.in_ok-parts-in-Json.ensures.parts c.in_ok-parts-in-Json.ensures.asked in
    IfErr-weaker c.json_policy.result _ _
    (λ why is.
    subst (λ (k : PolicyKind). IsNoPolicy k (string_bytes c.args.text) old new why) (sym c.in-Json.is)
    (subst (λ (e : PolicyFault). IsJsonFault (string_bytes c.args.text) old new e) (sym is) (rw c.as_str-in-Json.ensures.value at fault)))
    c.json_policy.ensures.fault
