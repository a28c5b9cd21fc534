-- One text more spells a digest, or is the first that spells none.
use Rattle.std.proofs.Common.{◌≡◌, ◌+◌, ◌++◌, ◌∷◌, [], ℕ, List, length, take, drop, refl, sym, ap, subst, ◌∙◌, arith, Some}
use Rattle.std.proofs.lemmas.List.{take_all, take_more, drop_more, take-append-drop, length-take-le}
use Rattle.std.proofs.lemmas.Slice.Zip.{all_zipped_more}
use Rattle.std.specs.FinSet.{insert}
use Rattle.std.specs.List.{AllZip}
use Rattle.serde_json.specs.Find.{as_str}
use Rattle.serde_json.specs.View.{view}
use Rattle.serde_json.specs.declared.value.Value.{Value}
use Rattle.kl_entry.specs.Lines.{IsFirstFailing}
use Rattle.kl_digests.specs.Digests.{DigestSet, SpellsDigest}
use Rattle.kl_policy.specs.Json.{IsGood}
use Rattle.kl_policy.specs.Inner.JsonParts.{AreTexts, SpellsValue}
use Rattle.kl_policy.proofs.JsonFacts.{same_texts, first_unmade, zip_both, good_value, is_good, set_push}
use Rattle.kl_policy.proofs.json_digests.decode_texts.Goals as goal

pub returns-in_default-digest_of-clause-fault : goal.returns-in_default-digest_of-clause-fault
returns-in_default-digest_of-clause-fault c = λ listed is.
    let items = c.in-Some.items.now in
    let i = c.loop-i.i in
    let v = c.index-items-i.result in
    let found = c.in-Some.ensures.found in
    let all : AreTexts items listed = subst (AreTexts items) (same_texts (sym found.1 ∙ is)) found.2 in
    let cut : items ≡ take i items ++ v ∷ drop (i + 1) items =
    sym (take-append-drop i items) ∙ ap (λ more. take i items ++ more) (drop_more items i v (omega arith) ∙ ap (λ (x : Value). x ∷ drop (i + 1) items) (sym c.index-items-i.is)) in
    let place : length (take i items) ≡ i = length-take-le i items (omega arith) in
    let first : IsFirstFailing IsGood (λ text. ¬ IsGood text) listed (length (take i items)) =
    first_unmade (λ v t. as_str (view v) ≡ Some t) SpellsValue IsGood (λ text. ¬ IsGood text) is_good (take i items) v (drop (i + 1) items) listed c.loop-i.invariant.0
    (subst (λ (vs : List Value). AreTexts vs listed) cut all) c.loop-i.invariant.1 c.in_default-digest_of.ensures.none in
    (refl, subst (λ (n : ℕ). IsFirstFailing IsGood (λ text. ¬ IsGood text) listed n) place first)

pub loop-i-preserved : goal.loop-i-preserved
loop-i-preserved c =
    let items = c.in-Some.items.now in
    let i = c.loop-i.i in
    let v = c.index-items-i.result in
    let digest : List ℕ = c.in-Some-digest_of.digest in
    let front : take (i + 1) items ≡ take i items ++ v ∷ [] = take_more items i v (omega arith) ∙ ap (λ (x : Value). take i items ++ x ∷ []) (sym c.index-items-i.is) in (
      c.loop-i.invariant.0 ++ digest ∷ [],
      subst (λ (vs : List Value). AllZip SpellsValue vs (c.loop-i.invariant.0 ++ digest ∷ [])) (sym front)
          (all_zipped_more SpellsValue (take i items) c.loop-i.invariant.0 v digest c.loop-i.invariant.1 c.in-Some-digest_of.ensures.read),
      c.in_ok-push.ensures.added ∙ ap (λ (s : DigestSet). insert s digest) c.loop-i.invariant.2 ∙ set_push c.loop-i.invariant.0 digest,
    )

pub returns-clause-decoded : goal.returns-clause-decoded
returns-clause-decoded c = λ listed is.
    let items = c.in-Some.items.now in
    let found = c.in-Some.ensures.found in
    let all : AreTexts items listed = subst (AreTexts items) (same_texts (sym found.1 ∙ is)) found.2 in
    let whole : AllZip SpellsValue items c.loop-i.invariant.0 =
    subst (λ (vs : List Value). AllZip SpellsValue vs c.loop-i.invariant.0) (take_all c.loop-i.i items c.loop-i-test.false) c.loop-i.invariant.1 in (
      c.loop-i.invariant.0,
      zip_both (λ v t. as_str (view v) ≡ Some t) SpellsValue SpellsDigest good_value items listed c.loop-i.invariant.0 all whole,
      c.sort.ensures ∙ c.loop-i.invariant.2,
    )
