-- One tree more spells a digest.
use Rattle.std.proofs.Common.{◌≡◌, ◌+◌, ◌++◌, ◌∷◌, [], List, ℕ, take, sym, ap, subst, ◌∙◌}
use Rattle.std.proofs.lemmas.List.{take_all, take_more}
use Rattle.std.proofs.lemmas.Slice.Zip.{all_zipped_more}
use Rattle.std.specs.FinSet.{insert}
use Rattle.std.specs.List.{AllZip}
use Rattle.kl_digests.specs.Digests.{DigestSet}
use Rattle.kl_policy.specs.Inner.Filling.{SpellsTree}
use Rattle.kl_policy.proofs.JsonFacts.{set_push}
use Rattle.kl_policy.proofs.json_listing.spelled.Goals as goal

pub loop-item-preserved : goal.loop-item-preserved
loop-item-preserved c =
    let trees = c.deref-item-items.result.now in
    let i = c.loop-item.item-index in
    let tree = c.item-item.result in
    let front : take (i + 1) trees ≡ take i trees ++ tree ∷ [] = take_more trees i tree c.loop-item-test.true ∙ ap (λ x. take i trees ++ x ∷ []) (sym c.item-item.is) in
    let digests = c.loop-item.invariant.0 in
    let digest : List ℕ = c.in-Some.digest in (
      digests ++ digest ∷ [],
      subst (λ ts. AllZip SpellsTree ts (digests ++ digest ∷ [])) (sym front) (all_zipped_more SpellsTree (take i trees) digests tree digest c.loop-item.invariant.1 c.in-Some.ensures),
      c.in_ok-push.ensures.added ∙ ap (λ (s : DigestSet). insert s digest) c.loop-item.invariant.2 ∙ set_push digests digest,
    )

pub returns : goal.returns
returns c =
    let trees = c.deref-item-items.result.now in
    let all = take_all c.loop-item.item-index trees c.loop-item-test.false ∙ c.deref-item-items.ensures.value in
    (c.loop-item.invariant.0, subst (λ ts. AllZip SpellsTree ts c.loop-item.invariant.0) all c.loop-item.invariant.1, c.sort.ensures ∙ c.loop-item.invariant.2)
