use Rattle.std.proofs.Common.{◌≡◌, IfSome, subst, ◌∙◌}
use Rattle.json.specs.Value.{value_view}
use Rattle.serde_json.specs.Read.{of_json, read}
use Rattle.kl_policy.proofs.TreeParts.{within}
use Rattle.kl_policy.proofs.json_split.said_over.Goals as goal

pub returns-in-Some : goal.returns-in-Some
returns-in-Some c =
    let is = subst (λ o. IfSome o (λ tree. read c.args.text.now ≡ of_json (value_view tree))) c.in-Some.is c.in_ok-tree.ensures.tree in
    within c.said_by.result (λ said h. (h.0, (c.utf8.text, is ∙ h.1), h.2)) c.said_by.ensures
