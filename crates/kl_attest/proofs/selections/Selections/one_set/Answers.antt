use Rattle.kl_attest.proofs.Lone.{set_none, set_only}
use Rattle.kl_attest.proofs.selections.Selections.one_set.Goals as goal

pub returns-in_err-one-clause-none : goal.returns-in_err-one-clause-none
returns-in_err-one-clause-none c = rw c.from_residual.ensures (λ alg mask set. c.in_err-one.ensures.none set.one set.lone)

pub returns-in_err-mask-clause-none : goal.returns-in_err-mask-clause-none
returns-in_err-mask-clause-none c = rw c.from_residual-in_err-mask.ensures (λ alg mask set. set_none c.args.self.now c.in_ok-one.one alg mask c.in_ok-one.ensures.only c.in_err-mask.ensures.none set)

pub returns-clause-only : goal.returns-clause-only
returns-clause-only c = λ alg mask set. set_only c.args.self.now c.in_ok-one.one alg mask c.in_ok-mask.mask c.in_ok-one.ensures.only c.in_ok-mask.ensures.mask set
