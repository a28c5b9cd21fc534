-- Each comparison is that of the digest at a place with the one that is looked for.
use Rattle.std.proofs.Common.{rules, ◌∙◌}
use Rattle.std.proofs.lemmas.Fn.{always_returns_same}
use Rattle.std.specs.Cmp.Lexicographic.{slice_cmp}
use Rattle.std.specs.Ordering.{nat_cmp}
use Rattle.kl_digests.specs.Inner.Packed.{digest_at}
use Rattle.kl_digests.proofs.Packing.{found_by_halving}
use Rattle.kl_digests.proofs.packed.is_found.Goals as goal

pub returns : goal.returns
returns c =
    let facts = c.binary_search_by.ensures in
    let by_digest = facts.position (λ start. slice_cmp nat_cmp (digest_at c.args.bytes.now start) c.args.digest.now) (always_returns_same _ _ _ (λ a r g called. search rules)) in
    c.is_ok.ensures.value ∙ found_by_halving c.args.bytes.now c.args.starts.now c.args.digest.now c.binary_search_by.result c.requires facts.bound by_digest
