-- What is listed is in the set.
use Rattle.std.proofs.Common.{ap, ◌∙◌}
use Rattle.std.specs.FinSet.{contains}
use Rattle.kl_digests.specs.Digests.{DigestSet}
use Rattle.kl_digests.proofs.Packing.{listed}
use Rattle.kl_digests.proofs.packed.PackedDigests.contains.Goals as goal

pub returns-then-self : goal.returns-then-self
returns-then-self c =
    listed _ _ c.args.digest.now _ _ _ c.deref.ensures.value c.deref-then-self.ensures.value c.is_found.ensures ∙ ap (λ (s : DigestSet). contains s c.args.digest.now) c.self.view_is

pub returns-else-self : goal.returns-else-self
returns-else-self c =
    listed _ _ c.args.digest.now _ _ _ c.deref-else-self.ensures.value c.deref-else-self-2.ensures.value c.is_among.ensures ∙ ap (λ (s : DigestSet). contains s c.args.digest.now) c.self.view_is
