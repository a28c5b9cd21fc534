-- The places change their order alone.
use Rattle.std.proofs.Common.{List, ℕ, drop, subst, ◌∙◌}
use Rattle.std.proofs.lemmas.List.Sorted.{All-permutation, IsPermutation-map}
use Rattle.kl_digests.specs.Inner.Packed.{IsWhole, AreSorted, digest_at}
use Rattle.kl_digests.proofs.DigestSets.{from_list_permuted}
use Rattle.kl_digests.proofs.packed.PackedDigests.sort.Goals as goal

pub invariant_of-self : goal.invariant_of-self
invariant_of-self c = record {
  whole = All-permutation (λ start. IsWhole (drop start c.self.inside.bytes.items)) c.self.inside.starts.items _ c.sort_by_digest.ensures.same c.self.invariant.whole;
  sorted = λ _. subst (λ (b : List ℕ). AreSorted b c.sort_by_digest.new.starts.items) c.deref.ensures.value c.sort_by_digest.ensures.sorted;
}

pub returns : goal.returns
returns c =
    from_list_permuted _ _ (IsPermutation-map (digest_at c.self.inside.bytes.items) c.self.inside.starts.items c.sort_by_digest.new.starts.items c.sort_by_digest.ensures.same) ∙ c.self.view_is
