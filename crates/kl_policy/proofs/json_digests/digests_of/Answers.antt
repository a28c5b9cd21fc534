-- The listing is the policy's own.
use Rattle.std.proofs.Common.{◌≡◌, Some, IsSome, ap, ◌∙◌, arith, option_and_then, rules}
use Rattle.std.proofs.lemmas.Result.{IfOk-weaker, IfErr-weaker}
use Rattle.std.proofs.lemmas.Slice.Zip.{AllZip-long}
use Rattle.serde_json.specs.View.{view, members_view}
use Rattle.kl_policy.specs.Json.{listed_in, as_listing, HasListing}
use Rattle.kl_policy.proofs.JsonFacts.{read_entry, some_is, are_members, digests_fault}
use Rattle.kl_policy.proofs.json_digests.digests_of.Goals as goal

pub returns-then-len-gt-MOST_PATHS-clause-fault : goal.returns-then-len-gt-MOST_PATHS-clause-fault
returns-then-len-gt-MOST_PATHS-clause-fault c =
    let entries = c.in_ok-paths.paths.entries in
    let found : IsSome (listed_in (members_view entries)) = search rules in
    let listed = some_is (listed_in (members_view entries)) found in
    let count = AllZip-long (λ e l. read_entry e ≡ Some l) entries listed.0 (are_members entries listed.0 listed.1) in
    (listed.0, c.in_ok-paths.ensures.object, ap (option_and_then as_listing) c.in_ok-paths.ensures.taken ∙ listed.1, omega arith)

pub returns-clause-digests : goal.returns-clause-digests
returns-clause-digests c =
    let entries = c.in_ok-paths.paths.entries in
    let found : IsSome (listed_in (members_view entries)) = search rules in
    let listed = some_is (listed_in (members_view entries)) found in
    let count = AllZip-long (λ e l. read_entry e ≡ Some l) entries listed.0 (are_members entries listed.0 listed.1) in
    let lists : HasListing (view c.args.policy) listed.0 = record {
      is_object = c.in_ok-paths.ensures.object;
      lists = ap (option_and_then as_listing) c.in_ok-paths.ensures.taken ∙ listed.1;
      few = omega arith;
    } in
    IfOk-weaker c.decode.result _ _ (λ digests decoded. record { listed = listed.0; listing = lists; decoded = decoded listed.0 listed.1 }) c.decode.ensures.decoded

pub returns-clause-fault : goal.returns-clause-fault
returns-clause-fault c =
    let entries = c.in_ok-paths.paths.entries in
    let found : IsSome (listed_in (members_view entries)) = search rules in
    let listed = some_is (listed_in (members_view entries)) found in
    let count = AllZip-long (λ e l. read_entry e ≡ Some l) entries listed.0 (are_members entries listed.0 listed.1) in
    let lists : HasListing (view c.args.policy) listed.0 = record {
      is_object = c.in_ok-paths.ensures.object;
      lists = ap (option_and_then as_listing) c.in_ok-paths.ensures.taken ∙ listed.1;
      few = omega arith;
    } in
    IfErr-weaker c.decode.result _ _ (λ fault is. digests_fault (view c.args.policy) listed.0 lists fault (is listed.0 listed.1)) c.decode.ensures.fault
