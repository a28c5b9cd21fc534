-- One member more is taken.
use Rattle.std.proofs.Common.{◌≡◌, ◌+◌, ◌++◌, ◌∷◌, [], take, refl, sym, ap, ◌∙◌}
use Rattle.std.proofs.lemmas.List.{take_all, take_more}
use Rattle.json.specs.Value.{members_view as tree_members}
use Rattle.serde_json.specs.Data.{no_members, put}
use Rattle.serde_json.specs.Read.{of_members}
use Rattle.kl_json.proofs.TreeFacts.{Member, member_more}
use Rattle.kl_policy.proofs.TreeParts.{split_none}
use Rattle.kl_policy.proofs.json_split.split_members.Goals as goal

pub loop-member-init : goal.loop-member-init
loop-member-init c = (no_members, refl, split_none c.new.result.entries c.new.ensures.empty)

pub loop-member-preserved : goal.loop-member-preserved
loop-member-preserved c =
    let ms = c.deref-member-items.result.now in
    let i = c.loop-member.member-index in
    let m : Member = c.member-item.result in
    let front : take (i + 1) ms ≡ take i ms ++ m ∷ [] = take_more ms i m c.loop-member-test.true ∙ ap (λ x. take i ms ++ x ∷ []) (sym c.member-item.is) in
    let found = c.loop-member.invariant.0 in
    let one = c.in_ok-take.ensures c.if-not-branch.false found c.loop-member.invariant.2 in (
      put m.0.now one.0 found,
      ap (λ x. of_members (tree_members x) no_members) front ∙ member_more (take i ms) m no_members found one.0 c.loop-member.invariant.1 one.1,
      one.2,
    )

pub returns : goal.returns
returns c =
    let all = take_all c.loop-member.member-index c.deref-member-items.result.now c.loop-member-test.false in (
      c.loop-member.invariant.0,
      ap (λ x. of_members (tree_members x) no_members) (sym c.deref-member-items.ensures.value ∙ sym all) ∙ c.loop-member.invariant.1,
      c.loop-member.invariant.2,
    )
