use Rattle.std.proofs.Common.{Some, map, string_bytes, subst}
use Rattle.serde_json.specs.View.{view}
use Rattle.serde_json.specs.declared.value.Value.{Object}
use Rattle.serde_json.proofs.Views.{view-Object}
use Rattle.kl_policy.specs.Inner.Filling.{IsSplit}
use Rattle.kl_policy.proofs.TreeParts.{split_parts}
use Rattle.kl_policy.proofs.json_split.said_of_split.Goals as goal

pub returns-in-Ok : goal.returns-in-Ok
returns-in-Ok c = λ found h.
    let others = c.args.split.others in
    let rest = c.in-Ok.rest in
    let is : IsSplit found (Some c.in-Some.digests) others.entries = subst (λ o. IsSplit found o others.entries) c.in-Some.is h in
    split_parts found c.in-Some.digests others.entries (view (Object others)) (map string_bytes rest.patterns.items) rest.passes_violations is (view-Object others)
    c.in-Ok.ensures.patterns c.in-Ok.ensures.choice c.in-Ok.ensures.supported
