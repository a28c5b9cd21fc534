use Rattle.kl_base.proofs.Rooms.{IsPadded-front}
use Rattle.kl_base.proofs.short.Short.new.Goals as goal

pub invariant_of-result : goal.invariant_of-result
invariant_of-result g c = IsPadded-front _ c.args.bytes.now _ c.requires c.copy_from_slice.ensures.after
