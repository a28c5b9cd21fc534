-- The items are texts.
use Rattle.std.proofs.Common.{◌≡◌, ◌∙◌, ap, sym, Some, option_and_then, rules}
use Rattle.serde_json.specs.Find.{as_array}
use Rattle.serde_json.specs.View.{view, items_view}
use Rattle.kl_policy.specs.Json.{texts_in}
use Rattle.kl_policy.proofs.JsonFacts.{are_texts, some_is}
use Rattle.kl_policy.proofs.json_members.texts_of.Goals as goal

pub returns-then-are_texts-clause-found : goal.returns-then-are_texts-clause-found
returns-then-are_texts-clause-found c =
    let items = c.as_slice-items.result.now in
    let texts = some_is (texts_in (items_view items)) (sym c.are_texts.ensures ∙ c.if-are_texts.true) in
    let list : as_array (view c.args.value.now) ≡ Some (items_view items) = search rules in
    (texts.0, ap (option_and_then texts_in) list ∙ texts.1, are_texts items texts.0 texts.1)
