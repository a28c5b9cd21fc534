-- The patterns are the texts of the member.
use Rattle.std.proofs.Common.{◌≡◌, ◌≤◌, ◌∙◌, ap, sym, subst, [], ℕ, List, length, map, string_bytes, Some, is_some, codes, rules, arith}
use Rattle.std.proofs.lemmas.Result.{IfOk-weaker, IfErr-weaker}
use Rattle.std.proofs.lemmas.Slice.Zip.{AllZip-long}
use Rattle.serde_json.specs.Find.{as_str, get}
use Rattle.serde_json.specs.View.{view}
use Rattle.kl_policy.specs.Json.{as_texts}
use Rattle.kl_policy.proofs.JsonFacts.{texts_are, copy_fault, read_member, same_texts, both_ok}
use Rattle.kl_policy.proofs.json_members.patterns_of.Goals as goal

pub returns-then-items-gt-MOST_PATTERNS-clause-fault : goal.returns-then-items-gt-MOST_PATTERNS-clause-fault
returns-then-items-gt-MOST_PATTERNS-clause-fault c = λ digests.
    let found = c.in-Some-texts_of.ensures.found in
    let there : Some (view c.in-Some.excludes.now) ≡ get (codes "excludes") (view c.args.policy.now) = search rules in
    let count = AllZip-long (λ value text. as_str (view value) ≡ Some text) c.in-Some-texts_of.items.now found.0 found.2 in
    (digests, (found.0, read_member [] as_texts (codes "excludes") (view c.args.policy.now) (Some (view c.in-Some.excludes.now)) there ∙ found.1, omega arith))

pub copied-requires : goal.copied-requires
copied-requires c =
    let found = c.in-Some-texts_of.ensures.found in
    ap is_some (texts_are c.in-Some-texts_of.items.now found.0 found.2)

pub returns-clause-patterns : goal.returns-clause-patterns
returns-clause-patterns c =
    let found = c.in-Some-texts_of.ensures.found in
    let there : Some (view c.in-Some.excludes.now) ≡ get (codes "excludes") (view c.args.policy.now) = search rules in
    let count = AllZip-long (λ value text. as_str (view value) ≡ Some text) c.in-Some-texts_of.items.now found.0 found.2 in
    let lists = read_member [] as_texts (codes "excludes") (view c.args.policy.now) (Some (view c.in-Some.excludes.now)) there ∙ found.1 in
    let same = texts_are c.in-Some-texts_of.items.now found.0 found.2 in
    IfOk-weaker c.copied.result _ _ (λ copies both. record {
      lists = lists ∙ sym same ∙ both.0;
      few = let one : found.0 ≡ map string_bytes copies.items = same_texts (sym same ∙ both.0) in subst (λ (ts : List (List ℕ)). length ts ≤ 32) one (omega arith);
      short = both.1;
    }) (both_ok c.copied.result _ _ c.copied.ensures.copied c.copied.ensures.short)

pub returns-clause-fault : goal.returns-clause-fault
returns-clause-fault c =
    let found = c.in-Some-texts_of.ensures.found in
    let there : Some (view c.in-Some.excludes.now) ≡ get (codes "excludes") (view c.args.policy.now) = search rules in
    let count = AllZip-long (λ value text. as_str (view value) ≡ Some text) c.in-Some-texts_of.items.now found.0 found.2 in
    IfErr-weaker c.copied.result _ _ (λ fault is. copy_fault (view c.args.policy.now) found.0
    (read_member [] as_texts (codes "excludes") (view c.args.policy.now) (Some (view c.in-Some.excludes.now)) there ∙ found.1) (omega arith)
    fault (is found.0 (texts_are c.in-Some-texts_of.items.now found.0 found.2))) c.copied.ensures.fault
