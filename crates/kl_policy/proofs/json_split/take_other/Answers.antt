use Rattle.std.proofs.Common.{◌≡◌, Some, IfSome, ap, subst, ◌∙◌}
use Rattle.json.specs.Value.{value_view}
use Rattle.serde_json.specs.Data.{put}
use Rattle.serde_json.specs.Read.{of_json}
use Rattle.serde_json.specs.View.{view, members_view}
use Rattle.serde_json.proofs.Views.{members_view-insert_entry}
use Rattle.kl_policy.proofs.TreeParts.{split_other}
use Rattle.kl_policy.proofs.json_split.take_other.Goals as goal

pub returns : goal.returns
returns c = λ taken found h.
    let value = c.in-Some.value in
    let old = c.args.split.now.others.entries in
    let is = subst (λ o. IfSome o (λ v. of_json (value_view c.args.tree.now) ≡ Some (view v))) c.in-Some.is c.in_ok-value.ensures.value in
    let made = ap members_view c.in_ok-insert.ensures.entries ∙ members_view-insert_entry old c.in_ok-key.key value ∙ ap (λ n. put n (view value) (members_view old)) c.in_ok-key.ensures.ok in
    (view value, is, split_other found c.args.split.now.digests old c.insert.new.self.entries c.args.name.now (view value) h c.requires made)
