use Rattle.kl_appraise.proofs.OneOutcome.{one_answer, one_finding, one_outcome}
use Rattle.kl_appraise.proofs.unique.one_verdict.Goals as goal

pub returns-clause-outcome : goal.returns-clause-outcome
returns-clause-outcome c = one_outcome

pub returns-clause-cause : goal.returns-clause-cause
returns-clause-cause c = one_finding

pub returns-clause-answer : goal.returns-clause-answer
returns-clause-answer c = one_answer
