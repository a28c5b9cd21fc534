use Rattle.std.proofs.Common.{ℕ, ◌-◌, count_ones, bit_and, ap, ◌∙◌}
use Rattle.std.proofs.lemmas.Nat.{one_shl, and_mask}
use Rattle.kl_pcr.proofs.quoted.lower.Goals as goal

pub returns : goal.returns
returns c =
    ap (λ (bit : ℕ). count_ones (bit_and c.args.mask (bit - 1))) (one_shl c.args.n 32 c.requires)
    ∙ ap count_ones (and_mask c.args.mask c.args.n)
