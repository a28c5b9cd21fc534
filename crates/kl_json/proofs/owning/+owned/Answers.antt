-- One part more has its value.
use Rattle.std.proofs.Common.{◌≡◌, ◌+◌, ◌++◌, ◌∷◌, [], take, drop, None, Some, IfNone, IfSome, sym, ap, subst, ◌∙◌, string_bytes}
use Rattle.std.proofs.lemmas.List.{take_all, take_more, drop_more, take-append-drop}
use Rattle.std.proofs.lemmas.Slice.Zip.{all_zipped_more}
use Rattle.std.specs.List.{AllZip}
use Rattle.json.specs.Value.{value_view, items_view as tree_items, members_view as tree_members}
use Rattle.serde_json.specs.Data.{no_members, put}
use Rattle.serde_json.specs.Read.{of_json, of_items, of_members}
use Rattle.serde_json.specs.View.{view, members_view}
use Rattle.serde_json.proofs.Views.{members_view-insert_entry}
use Rattle.kl_json.proofs.TreeFacts.{HasValue, Member, items_owned, items_refused, member_more, member_refused}
use Rattle.kl_json.proofs.owning.+owned.Goals as goal

pub owned_items-loop-item-preserved : goal.owned_items-loop-item-preserved
owned_items-loop-item-preserved t c =
    let trees = c.deref-item-items.result.now in
    let i = c.loop-item.item-index in
    let tree = c.item-item.result in
    let front : take (i + 1) trees ≡ take i trees ++ tree ∷ [] = take_more trees i tree c.loop-item-test.true ∙ ap (λ t. take i trees ++ t ∷ []) (sym c.item-item.is) in
    let one : HasValue tree c.in-Some.value = subst (λ o. IfSome o (HasValue tree)) c.in-Some.is c.in_ok-value.ensures.value in
    let zipped = all_zipped_more HasValue (take i trees) c.loop-item.values.items tree c.in-Some.value c.loop-item.invariant one in
    subst (λ ts. AllZip HasValue ts c.push.new.self.items) (sym front)
    (subst (λ vs. AllZip HasValue (take i trees ++ tree ∷ []) vs) (sym c.in_ok-push.ensures.items) zipped)

pub owned_items-returns-clause-values : goal.owned_items-returns-clause-values
owned_items-returns-clause-values t c =
    let trees = c.deref-item-items.result.now in
    let all = subst (λ ts. AllZip HasValue ts c.loop-item.values.items) (take_all c.loop-item.item-index trees c.loop-item-test.false) c.loop-item.invariant in
    ap (λ ts. of_items (tree_items ts)) (sym c.deref-item-items.ensures.value) ∙ items_owned trees c.loop-item.values.items all

pub owned_members-loop-member-preserved : goal.owned_members-loop-member-preserved
owned_members-loop-member-preserved t c =
    let ms = c.deref-member-items.result.now in
    let i = c.loop-member.member-index in
    let m : Member = c.member-item.result in
    let front : take (i + 1) ms ≡ take i ms ++ m ∷ [] = take_more ms i m c.loop-member-test.true ∙ ap (λ x. take i ms ++ x ∷ []) (sym c.member-item.is) in
    let value = c.in-Some.value in
    let entries = c.loop-member.map.entries in
    let one : of_json (value_view m.1) ≡ Some (view value) = subst (λ o. IfSome o (λ v. of_json (value_view m.1) ≡ Some (view v))) c.in-Some.is c.in_ok-value.ensures.value in
    let more = member_more (take i ms) m no_members (members_view entries) (view value) c.loop-member.invariant one in
    let named : string_bytes c.in_ok-name.name ≡ m.0.now = c.in_ok-name.ensures.ok in
    let there = ap (λ n. put n (view value) (members_view entries)) (sym named) ∙ sym (members_view-insert_entry entries c.in_ok-name.name value) ∙ sym (ap members_view c.in_ok-insert.ensures.entries) in
    ap (λ xs. of_members (tree_members xs) no_members) front ∙ more ∙ ap Some there

pub owned_items-returns-in_default-clause-none : goal.owned_items-returns-in_default-clause-none
owned_items-returns-in_default-clause-none t c =
    let trees = c.deref-item-items.result.now in
    let i = c.loop-item.item-index in
    let tree = c.item-item.result in
    let cut : trees ≡ take i trees ++ tree ∷ drop (i + 1) trees =
    sym (take-append-drop i trees) ∙ ap (λ more. take i trees ++ more) (drop_more trees i tree c.loop-item-test.true ∙ ap (λ x. x ∷ drop (i + 1) trees) (sym c.item-item.is)) in
    let none : of_json (value_view tree) ≡ None = subst (λ o. IfNone o (of_json (value_view tree) ≡ None)) c.in_default.is c.in_ok-value.ensures.none in
    ap (λ ts. of_items (tree_items ts)) (sym c.deref-item-items.ensures.value ∙ cut) ∙ items_refused (take i trees) tree (drop (i + 1) trees) c.loop-item.values.items c.loop-item.invariant none

pub owned_members-returns-in_default-clause-none : goal.owned_members-returns-in_default-clause-none
owned_members-returns-in_default-clause-none t c =
    let ms = c.deref-member-items.result.now in
    let i = c.loop-member.member-index in
    let m : Member = c.member-item.result in
    let cut : ms ≡ take i ms ++ m ∷ drop (i + 1) ms =
    sym (take-append-drop i ms) ∙ ap (λ more. take i ms ++ more) (drop_more ms i m c.loop-member-test.true ∙ ap (λ x. x ∷ drop (i + 1) ms) (sym c.member-item.is)) in
    let none : of_json (value_view m.1) ≡ None = subst (λ o. IfNone o (of_json (value_view m.1) ≡ None)) c.in_default.is c.in_ok-value.ensures.none in
    ap (λ x. of_members (tree_members x) no_members) (sym c.deref-member-items.ensures.value ∙ cut)
    ∙ member_refused (take i ms) m (drop (i + 1) ms) no_members (members_view c.loop-member.map.entries) c.loop-member.invariant none
