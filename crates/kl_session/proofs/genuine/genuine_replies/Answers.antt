use Rattle.kl_session.proofs.GoodReplies.{genuine_passes}
use Rattle.kl_session.proofs.genuine.genuine_replies.Goals as goal

pub returns : goal.returns
returns c = record { passes = genuine_passes }
