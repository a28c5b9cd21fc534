-- The rest is what is not yet written, and each turn writes some of it.
use Rattle.std.proofs.Common.{length}
use Rattle.kl_io.proofs.Fronts.{Writes}
use Rattle.kl_io.proofs.std_sink.write_out.Given as goal

abbrev pub invariant-loop-rest : goal.invariant-loop-rest
invariant-loop-rest g l = Writes (g.W.Write.contents l.initial.writer) (g.W.Write.contents l.writer) l.piece l.rest

abbrev pub decreases-loop-rest : goal.decreases-loop-rest
decreases-loop-rest g l = length l.rest
