-- One path more is put in, or its texts are the first that spell no digests.
use Rattle.std.proofs.Common.{◌≡◌, ◌+◌, ◌++◌, ◌∷◌, [], List, Some, refl, sym, ap, subst, ◌∙◌, length-append, append_assoc, append-nil, IsSome, string_bytes, rules}
use Rattle.std.proofs.lemmas.Slice.Zip.{all_zipped_more}
use Rattle.std.specs.FinMap as finite_map
use Rattle.serde_json.specs.View.{view, members_view}
use Rattle.kl_digests.specs.Digests.{DigestMap, DigestSet}
use Rattle.kl_policy.specs.Json.{Listed, as_texts, listed_in, map_of, IsDecoded}
use Rattle.kl_policy.specs.Inner.JsonParts.{Entry, SpellsAll, IsListingFault}
use Rattle.kl_policy.proofs.JsonFacts.{read_entry, are_members, some_is, member_texts, listing_fault, decoded_member, zip_both, map_push}
use Rattle.kl_policy.proofs.json_digests.decode.Goals as goal

pub decode_member-requires : goal.decode_member-requires
decode_member-requires c =
    let entry : Entry = (c.in-Some.path, c.in-Some.texts) in
    let cut : c.loop-path.yielded ++ entry ∷ c.next.new.self ≡ c.args.paths.entries = ap (λ (left : List Entry). c.loop-path.yielded ++ left) (sym c.in-Some.ensures.steps) ∙ c.loop-path.invariant.cut in
    member_texts c.loop-path.yielded entry c.next.new.self (subst (λ (es : List Entry). IsSome (listed_in (members_view es))) (sym cut) c.requires)

pub returns-in_err-known-clause-fault : goal.returns-in_err-known-clause-fault
returns-in_err-known-clause-fault c =
    let entry : Entry = (c.in-Some.path, c.in-Some.texts) in
    let cut : c.loop-path.yielded ++ entry ∷ c.next.new.self ≡ c.args.paths.entries = ap (λ (left : List Entry). c.loop-path.yielded ++ left) (sym c.in-Some.ensures.steps) ∙ c.loop-path.invariant.cut in
    let made = c.loop-path.invariant.made in
    let fault : (listed : List Listed) → listed_in (members_view c.args.paths.entries) ≡ Some listed → IsListingFault listed c.in_err-known.field-0.0 =
    λ listed is. listing_fault c.loop-path.yielded entry c.next.new.self listed made.0
    (are_members (c.loop-path.yielded ++ entry ∷ c.next.new.self) listed (ap (λ (es : List Entry). listed_in (members_view es)) cut ∙ is)) made.1 c.loop-path.place c.loop-path.invariant.counted
    c.in_err-known.field-0.0 c.in_err-known.ensures.fault in
    search (rules, fault)

pub loop-path-preserved : goal.loop-path-preserved
loop-path-preserved c =
    let entry : Entry = (c.in-Some.path, c.in-Some.texts) in
    let cut : c.loop-path.yielded ++ entry ∷ c.next.new.self ≡ c.args.paths.entries = ap (λ (left : List Entry). c.loop-path.yielded ++ left) (sym c.in-Some.ensures.steps) ∙ c.loop-path.invariant.cut in
    let made = c.loop-path.invariant.made in
    let texts = some_is (as_texts (view c.in-Some.texts)) (member_texts c.loop-path.yielded entry c.next.new.self (subst (λ (es : List Entry). IsSome (listed_in (members_view es))) (sym cut) c.requires)) in
    let spelled = c.in_ok-known.ensures.decoded texts.0 texts.1 in
    let pair : Listed = (string_bytes c.in-Some.path, spelled.0) in
    record {
      cut = append_assoc c.loop-path.yielded (entry ∷ []) c.next.new.self ∙ cut;
      counted = ap (λ n. n + 1) c.loop-path.invariant.counted ∙ sym (length-append c.loop-path.yielded (entry ∷ []));
      made = (
        made.0 ++ pair ∷ [],
        all_zipped_more SpellsAll c.loop-path.yielded made.0 entry pair made.1 (refl, (texts.0, texts.1, spelled.1)),
        c.in_ok-put.ensures.added ∙ ap (λ (m : DigestMap). finite_map.insert m (string_bytes c.in-Some.path) c.in_ok-known.known) made.2
            ∙ ap (λ (known : DigestSet). finite_map.insert (map_of made.0) (string_bytes c.in-Some.path) known) spelled.2 ∙ map_push made.0 pair,
      );
    }

pub returns-clause-decoded : goal.returns-clause-decoded
returns-clause-decoded c = λ listed is.
    let made = c.loop-path.invariant.made in
    let whole : c.loop-path.yielded ≡ c.args.paths.entries = sym (append-nil c.loop-path.yielded) ∙ ap (λ (left : List Entry). c.loop-path.yielded ++ left) (sym c.in-None.ensures.steps.0) ∙ c.loop-path.invariant.cut in (
      made.0,
      zip_both (λ e l. read_entry e ≡ Some l) SpellsAll IsDecoded decoded_member c.loop-path.yielded listed made.0
          (are_members c.loop-path.yielded listed (ap (λ (es : List Entry). listed_in (members_view es)) whole ∙ is)) made.1,
      made.2,
    )
