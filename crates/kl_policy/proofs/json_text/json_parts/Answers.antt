-- The patterns are those that the text says.
use Rattle.std.proofs.Common.{◌≤◌, ℕ, List, length, map, string_bytes, rules, sym, subst, arith, get_or}
use Rattle.std.proofs.lemmas.List.{length-map, get_or-map}
use Rattle.kl_policy.specs.Json.{HasParts}
use Rattle.kl_policy.specs.Making.{IsJsonFault}
use Rattle.kl_policy.proofs.JsonFacts.{patterns_fault}
use Rattle.kl_policy.proofs.json_text.json_parts.Goals as goal

pub returns-in-Err-clause-fault : goal.returns-in-Err-clause-fault
returns-in-Err-clause-fault g c = c.in-Err.ensures.fault (g.P.PatternMaker.told c.args.maker.now)

pub compiled-requires : goal.compiled-requires
compiled-requires g c = λ k d below.
    let texts = c.as_slice.result.now in
    let parts = c.in-Ok.ensures.said.2 in
    let short : length (get_or (map string_bytes texts) k (string_bytes d)) ≤ 512 = subst (λ (ts : List _). length (get_or (map string_bytes ts) k (string_bytes d)) ≤ 512) (sym c.as_slice.ensures.value)
    (parts.patterns_are.short k (string_bytes d) (omega (arith, length-map c.in-Ok.said.rest.patterns.items string_bytes))) in
    subst (λ (t : List ℕ). length t ≤ 512) (get_or-map string_bytes texts k d (string_bytes d) below) short

pub returns-in_err-patterns-clause-fault : goal.returns-in_err-patterns-clause-fault
returns-in_err-patterns-clause-fault g c =
    let old = g.P.PatternMaker.told c.args.maker.now in
    let new = g.P.PatternMaker.told c.compiled.new.maker in
    let found = c.in-Ok.ensures.said in
    let said = c.in-Ok.said in
    let parts : HasParts found.0 said.digests (map string_bytes c.as_slice.result.now) said.rest.passes_violations =
    subst (λ (ts : List _). HasParts found.0 said.digests (map string_bytes ts) said.rest.passes_violations) (sym c.as_slice.ensures.value) found.2 in
    let fault : IsJsonFault c.args.text.now old new c.in_err-patterns.field-0.0 =
    patterns_fault c.args.text.now found.0 said.digests (map string_bytes c.as_slice.result.now) said.rest.passes_violations old new found.1
    parts c.in_err-patterns.field-0.0 c.in_err-patterns.ensures.fault in
    search (rules, fault)
