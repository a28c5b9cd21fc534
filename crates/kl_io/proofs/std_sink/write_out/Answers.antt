use Rattle.kl_io.proofs.Fronts.{Writes-more}
use Rattle.kl_io.proofs.std_sink.write_out.Goals as goal

pub loop-rest-preserved : goal.loop-rest-preserved
loop-rest-preserved g c = Writes-more _ _ _ _ c.loop-rest.rest.now c.in-Ok.count c.loop-rest.invariant c.in-Ok.ensures.bytes
