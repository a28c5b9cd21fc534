-- What is found is what is held.
use Rattle.std.proofs.Common.{sym, ap, ◌∙◌}
use Rattle.std.specs.Cmp.Lexicographic.{slice_cmp}
use Rattle.std.specs.FinSet.{contains, contains-empty}
use Rattle.std.specs.Ordering.{nat_cmp}
use Rattle.std.specs.Str.{bytes_eq}
use Rattle.kl_digests.specs.Digests.{DigestSet}
use Rattle.kl_digests.specs.Inner.Table.{held_set}
use Rattle.kl_digests.proofs.DigestSets.{contains_one}
use Rattle.kl_digests.proofs.digests.KnownDigests.contains.Goals as goal

pub returns-in-Nothing : goal.returns-in-Nothing
returns-in-Nothing c =
    sym (contains-empty (slice_cmp nat_cmp) c.args.digest.now) ∙ ap (λ (s : DigestSet). contains s c.args.digest.now) (sym (ap held_set c.in-Nothing.is) ∙ c.self.view_is)

pub returns-in-One : goal.returns-in-One
returns-in-One c =
    c.eq.ensures ∙ ap (bytes_eq c.args.digest.now) c.as_slice.ensures.value
    ∙ sym (contains_one c.in-One.first c.args.digest.now)
    ∙ ap (λ (s : DigestSet). contains s c.args.digest.now) (sym (ap held_set c.in-One.is) ∙ c.self.view_is)
