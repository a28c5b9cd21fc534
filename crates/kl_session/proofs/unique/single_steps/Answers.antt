use Rattle.kl_session.proofs.OneStep.{one_step, not_dry, one_dry, one_run, one_way}
use Rattle.kl_session.proofs.unique.single_steps.Goals as goal

pub returns : goal.returns
returns c = record { step = one_step; answered = not_dry; dry = one_dry; run = one_run; longer = one_way }
