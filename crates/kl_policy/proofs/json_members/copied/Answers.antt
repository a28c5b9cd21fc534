-- One text more is copied, or it is too long.
use Rattle.std.proofs.Common.{◌≡◌, ◌+◌, ◌≤◌, ◌++◌, ◌∷◌, [], ℕ, List, Some, None, option_map, length, take, map, string_bytes, get_or, sym, ap, subst, ◌∙◌, arith}
use Rattle.std.proofs.lemmas.List.{take_all, take_more}
use Rattle.std.proofs.lemmas.List.Elements.{All-push}
use Rattle.std.proofs.lemmas.Slice.Zip.{AllZip-long, all_zipped_more}
use Rattle.serde_json.specs.Find.{as_str}
use Rattle.serde_json.specs.View.{view}
use Rattle.serde_json.specs.declared.value.Value.{Value}
use Rattle.kl_policy.specs.Json.{IsShort}
use Rattle.kl_policy.specs.Inner.JsonParts.{AreTexts}
use Rattle.kl_policy.proofs.JsonFacts.{are_texts, texts_are, text_at, some_is, same_text}
use Rattle.kl_policy.proofs.json_members.copied.Goals as goal
use Rattle.kl_policy.proofs.json_members.copied.Goals.{in-Some+else-text-gt-MOST_PATTERN_BYTES+in_ok-push_copy, in_default}

pub returns-then-text-gt-MOST_PATTERN_BYTES-clause-fault : goal.returns-then-text-gt-MOST_PATTERN_BYTES-clause-fault
returns-then-text-gt-MOST_PATTERN_BYTES-clause-fault c = λ texts is short.
    let items = c.args.items.now in
    let i = c.loop-item.item-index in
    let all : AreTexts items texts = are_texts items texts is in
    let here : as_str (view (get_or items i c.item-item.result)) ≡ Some (get_or texts i []) = text_at items texts i c.item-item.result all (omega arith) in
    let there : as_str (view c.item-item.result) ≡ Some c.in-Some.text.now = sym c.as_str.ensures ∙ ap (option_map (λ s. s.now)) c.in-Some.is in
    let same : get_or texts i [] ≡ c.in-Some.text.now = same_text (sym here ∙ ap (λ (v : Value). as_str (view v)) (sym c.item-item.is) ∙ there) in
    let count = AllZip-long (λ value text. as_str (view value) ≡ Some text) items texts all in
    let fits : length c.in-Some.text.now ≤ 512 = subst (λ (t : List ℕ). length t ≤ 512) same (short i [] (omega arith)) in
    omega arith

pub loop-item-preserved : goal.loop-item-preserved
loop-item-preserved c = elim c.match-as_str.branch [
  | in-Some+else-text-gt-MOST_PATTERN_BYTES+in_ok-push_copy w ↦
      let items = c.args.items.now in
      let i = c.loop-item.item-index in
      let there : as_str (view c.item-item.result) ≡ Some w.in-Some.text.now = sym c.as_str.ensures ∙ ap (option_map (λ s. s.now)) w.in-Some.is in
      let longer : map string_bytes c.match-as_str.copies.items ≡ map string_bytes c.loop-item.copies.items ++ w.in-Some.text.now ∷ [] = ap (λ v. map string_bytes v.items) w.copies-is ∙ w.in_ok-push_copy.ensures in
      let front : take (i + 1) items ≡ take i items ++ c.item-item.result ∷ [] = take_more items i c.item-item.result (omega arith) ∙ ap (λ (v : Value). take i items ++ v ∷ []) (sym c.item-item.is) in
      record {
        copied = rw (front, longer) (all_zipped_more (λ value text. as_str (view value) ≡ Some text) (take i items) (map string_bytes c.loop-item.copies.items) c.item-item.result w.in-Some.text.now c.loop-item.invariant.copied there);
        short = rw longer (All-push IsShort (map string_bytes c.loop-item.copies.items) w.in-Some.text.now c.loop-item.invariant.short (omega arith));
      }
  | in_default w ↦
      let items = c.args.items.now in
      let i = c.loop-item.item-index in
      let texts = some_is _ c.requires in
      let here = text_at items texts.0 i c.item-item.result (are_texts items texts.0 texts.1) (omega arith) in
      let there : as_str (view c.item-item.result) ≡ None = sym c.as_str.ensures ∙ ap (option_map (λ s. s.now)) w.in_default.is in
      cc (sym (ap (λ (v : Value). as_str (view v)) c.item-item.is ∙ here) ∙ there)
]

pub returns-clause-copied : goal.returns-clause-copied
returns-clause-copied c =
    texts_are c.args.items.now _ (subst (λ (vs : List Value). AreTexts vs (map string_bytes c.loop-item.copies.items)) (take_all c.loop-item.item-index c.args.items.now c.loop-item-test.false) c.loop-item.invariant.copied)
