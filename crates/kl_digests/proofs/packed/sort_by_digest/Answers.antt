-- Each comparison is that of the digests at two places.
use Rattle.std.proofs.Common.{rules, is_lt}
use Rattle.std.proofs.lemmas.Fn.{always_returns_same}
use Rattle.std.proofs.lemmas.List.Sorted.{ranks_by}
use Rattle.std.specs.Cmp.Lexicographic.{slice_cmp, nat_list_cmp_total}
use Rattle.std.specs.Ordering.{nat_cmp}
use Rattle.kl_digests.specs.Inner.Packed.{digest_at}
use Rattle.kl_digests.proofs.packed.sort_by_digest.Goals as goal

pub returns-clause-sorted : goal.returns-clause-sorted
returns-clause-sorted c =
    c.sort_unstable_by.ensures.sorted (λ x y. is_lt (slice_cmp nat_cmp (digest_at c.args.bytes.now x) (digest_at c.args.bytes.now y)))
    (ranks_by nat_list_cmp_total (digest_at c.args.bytes.now)) (always_returns_same _ _ _ (λ a r g called. search rules))
