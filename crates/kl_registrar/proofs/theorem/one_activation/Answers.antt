use Rattle.kl_registrar.proofs.Activated.{was_activated, is_active}
use Rattle.kl_registrar.proofs.theorem.one_activation.Goals as goal

pub returns : goal.returns
returns c past id = (was_activated past id, is_active past id)
