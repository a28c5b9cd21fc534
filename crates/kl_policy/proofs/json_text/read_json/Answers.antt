-- Where memory runs out behind the parts, all patterns were asked.
use Rattle.std.proofs.Common.{rules, sym, subst}
use Rattle.std.proofs.lemmas.Result.{IfErr-weaker}
use Rattle.kl_policy.specs.Making.{IsJsonFault}
use Rattle.kl_policy.specs.declared.fault.PolicyFault.TheVariants.{Memory}
use Rattle.kl_policy.proofs.JsonFacts.{memory_fault}
use Rattle.kl_policy.proofs.json_text.read_json.Goals as goal

pub returns-in_err-source-clause-fault : goal.returns-in_err-source-clause-fault
returns-in_err-source-clause-fault g c =
    let parts = c.in_ok-parts.parts in
    let old = g.P.PatternMaker.told c.args.maker.now in
    let new = g.P.PatternMaker.told c.json_parts.new.maker in
    let fault : IsJsonFault c.args.text.now old new Memory =
    memory_fault c.args.text.now parts.digests parts.patterns parts.passes_violations old new c.in_ok-parts.ensures.parts c.in_ok-parts.ensures.asked in
    search (rules, fault)

pub returns-clause-fault : goal.returns-clause-fault
returns-clause-fault g c =
    let parts = c.in_ok-parts.parts in
    let old = g.P.PatternMaker.told c.args.maker.now in
    let new = g.P.PatternMaker.told c.json_parts.new.maker in
    let fault : IsJsonFault c.args.text.now old new Memory =
    memory_fault c.args.text.now parts.digests parts.patterns parts.passes_violations old new c.in_ok-parts.ensures.parts c.in_ok-parts.ensures.asked in
    IfErr-weaker c.json_policy.result _ _ (λ why is. subst (IsJsonFault c.args.text.now old new) (sym is) fault) c.json_policy.ensures.fault
