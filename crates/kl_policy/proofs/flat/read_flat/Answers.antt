-- A text lists one map of digests.
use Rattle.std.proofs.Common.{rules}
use Rattle.kl_policy.proofs.OnePolicy.{read_as, refused_at}
use Rattle.kl_policy.proofs.flat.read_flat.Goals as goal

pub returns-in_err-digests-clause-only : goal.returns-in_err-digests-clause-only
returns-in_err-digests-clause-only c = read_as c.args.text.now c.from_residual.result (search rules) (search rules)

pub returns-clause-only : goal.returns-clause-only
returns-clause-only c = read_as c.args.text.now c.flat_policy.result (search rules) (search rules)

pub returns-in_err-digests-clause-alone : goal.returns-in_err-digests-clause-alone
returns-in_err-digests-clause-alone c = refused_at c.args.text.now c.from_residual.result (search rules) (search rules)

pub returns-clause-alone : goal.returns-clause-alone
returns-clause-alone c = refused_at c.args.text.now c.flat_policy.result (search rules) (search rules)
