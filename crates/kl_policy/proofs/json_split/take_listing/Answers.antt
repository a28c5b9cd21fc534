use Rattle.std.proofs.Common.{◌≡◌, Some, IfSome, subst}
use Rattle.json.specs.Value.{value_view}
use Rattle.serde_json.specs.Data.{Members, object}
use Rattle.serde_json.specs.Read.{of_json}
use Rattle.kl_policy.specs.Inner.Filling.{Fills}
use Rattle.kl_policy.proofs.TreeParts.{split_listing}
use Rattle.kl_policy.proofs.json_split.take_listing.Goals as goal

pub returns-in-Some : goal.returns-in-Some
returns-in-Some c = λ taken found h.
    let listed = subst (λ o. IfSome o (λ digests. (ms : Members) × (of_json (value_view c.args.tree.now) ≡ Some (object ms)) × Fills 262144 ms digests)) c.in-Some.is c.in_ok-digests.ensures in
    (object listed.0, listed.1, split_listing found c.args.split.now.digests c.args.split.now.others.entries listed.0 c.in-Some.digests h listed.2)
