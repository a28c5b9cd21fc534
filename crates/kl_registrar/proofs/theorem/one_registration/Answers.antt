use Rattle.kl_registrar.proofs.Activated.{was_registered, is_registered}
use Rattle.kl_registrar.proofs.theorem.one_registration.Goals as goal

pub returns : goal.returns
returns c = λ past id r. (was_registered past id r, is_registered past id r)
