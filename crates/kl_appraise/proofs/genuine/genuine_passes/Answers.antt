use Rattle.kl_appraise.proofs.GenuineFacts.{genuine_outcome}
use Rattle.kl_appraise.proofs.QuoteFacts.{sound_by}
use Rattle.kl_appraise.proofs.genuine.genuine_passes.Goals as goal

pub returns-clause-quote : goal.returns-clause-quote
returns-clause-quote c = sound_by

pub returns-clause-list : goal.returns-clause-list
returns-clause-list c = genuine_outcome
