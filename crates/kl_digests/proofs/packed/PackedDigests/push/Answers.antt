-- The digest lies behind the others, and its place behind theirs.
use Rattle.std.proofs.Common.{◌≡◌, ℕ, List, ◌∷◌, length, vec_len, ap, ◌∙◌, arith}
use Rattle.std.specs.FinSet.{insert, from_list}
use Rattle.kl_digests.specs.Digests.{DigestSet}
use Rattle.kl_digests.proofs.Packing.{whole_more, set_more, whole_longer, digests_longer, where_err}
use Rattle.kl_digests.proofs.packed.PackedDigests.push.Goals as goal

pub invariant_of-self-2 : goal.invariant_of-self-2
invariant_of-self-2 c =
    let count : vec_len c.self.inside.bytes ≡ length c.self.inside.bytes.items = omega arith in
    record {
      whole = rw (c.in_ok-put.ensures.ok, c.in_ok-push.ensures.items, c.len-start.ensures, count) (whole_more c.self.inside.bytes.items c.args.digest.now c.self.inside.starts.items c.self.invariant.whole);
      sorted = λ h. cc h;
    }

pub returns-clause-added : goal.returns-clause-added
returns-clause-added c =
    let count : vec_len c.self.inside.bytes ≡ length c.self.inside.bytes.items = omega arith in
    rw (c.in_ok-put.ensures.ok, c.in_ok-push.ensures.items, c.len-start.ensures, count) (set_more c.self.inside.bytes.items c.args.digest.now c.self.inside.starts.items c.self.invariant.whole ∙ ap (λ (s : DigestSet). insert s c.args.digest.now) c.self.view_is)

-- no digest more
pub invariant_of-self-in_err-push : goal.invariant_of-self-in_err-push
invariant_of-self-in_err-push c = record {
  whole = rw (c.in_ok-put.ensures.ok, c.in_err-push.ensures.items) (whole_longer c.self.inside.bytes.items (length c.args.digest.now ∷ c.args.digest.now) c.self.inside.starts.items c.self.invariant.whole);
  sorted = λ h. cc h;
}

pub returns-in_err-put-clause-same : goal.returns-in_err-put-clause-same
returns-in_err-put-clause-same c =
    rw (c.in_err-put.ensures.longer.1)
    (where_err c.from_residual.result (ap (λ (ds : List (List ℕ)). from_list ds) (digests_longer c.self.inside.bytes.items c.in_err-put.ensures.longer.0 c.self.inside.starts.items c.self.invariant.whole) ∙ c.self.view_is))

pub returns-in_err-push-clause-same : goal.returns-in_err-push-clause-same
returns-in_err-push-clause-same c =
    rw (c.in_ok-put.ensures.ok, c.in_err-push.ensures.items)
    (where_err c.from_residual-in_err-push.result (ap (λ (ds : List (List ℕ)). from_list ds) (digests_longer c.self.inside.bytes.items (length c.args.digest.now ∷ c.args.digest.now) c.self.inside.starts.items c.self.invariant.whole) ∙ c.self.view_is))
