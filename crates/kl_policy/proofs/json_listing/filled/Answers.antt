-- One path more is put in.
use Rattle.std.proofs.Common.{◌≡◌, ◌+◌, ◌≤◌, ◌++◌, ◌∷◌, [], ℕ, List, take, length, Some, IfSome, refl, sym, ap, subst, ◌∙◌, arith, string_bytes}
use Rattle.std.proofs.lemmas.List.{take_all, take_more}
use Rattle.std.specs.FinSet.{from_list}
use Rattle.json.specs.Value.{value_view, members_view as tree_members}
use Rattle.serde_json.specs.Data.{Data, no_members, put}
use Rattle.serde_json.specs.Read.{of_json, of_members}
use Rattle.kl_json.proofs.TreeFacts.{Member, member_more}
use Rattle.kl_policy.specs.Inner.Filling.{SpellsAt, Fills}
use Rattle.kl_policy.proofs.PutFacts.{fills_none}
use Rattle.kl_policy.proofs.TreeParts.{fills_next, fills_within}
use Rattle.kl_policy.proofs.json_listing.filled.Goals as goal

pub loop-path-init : goal.loop-path-init
loop-path-init c = (no_members, refl, subst (Fills 0 no_members) (sym c.in_ok-digests.ensures) fills_none)

pub loop-path-preserved : goal.loop-path-preserved
loop-path-preserved c =
    let paths = c.deref-path-items.result.now in
    let i = c.loop-path.path-index in
    let path : Member = c.path-item.result in
    let front : take (i + 1) paths ≡ take i paths ++ path ∷ [] = take_more paths i path c.loop-path-test.true ∙ ap (λ x. take i paths ++ x ∷ []) (sym c.path-item.is) in
    let ms = c.loop-path.invariant.0 in
    let one = subst (λ o. IfSome o (λ known. (d : Data) × (of_json (value_view path.1) ≡ Some d) × ((digests : List (List ℕ)) × SpellsAt d digests × (known ≡ from_list digests)))) c.in-Some.is c.in_ok-known.ensures in (
      put path.0.now one.0 ms,
      ap (λ x. of_members (tree_members x) no_members) front ∙ member_more (take i paths) path no_members ms one.0 c.loop-path.invariant.1 one.1,
      fills_next i ms c.loop-path.digests c.put.new.self path.0.now (string_bytes c.in_ok-name.name) one.0 one.2.0 c.in-Some.known c.loop-path.invariant.2 one.2.1 one.2.2
          c.in_ok-name.ensures.ok c.in_ok-put.ensures.added,
    )

pub returns : goal.returns
returns c =
    let paths = c.deref-path-items.result.now in
    let i = c.loop-path.path-index in
    let all = take_all i paths c.loop-path-test.false in
    let value = c.deref-path-items.ensures.value in
    let within : i ≤ 262144 = omega (arith, c.loop-path.auto.path-index-end, ap length value, c.requires) in (
      c.loop-path.invariant.0,
      ap (λ x. of_members (tree_members x) no_members) (sym value ∙ sym all) ∙ c.loop-path.invariant.1,
      fills_within i 262144 c.loop-path.invariant.0 c.loop-path.digests within c.loop-path.invariant.2,
    )
