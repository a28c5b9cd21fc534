use Rattle.std.proofs.Common.{◌≢◌, AllPairs, take}
use Rattle.kl_pcr.proofs.statics.stand_once.Given as goal

abbrev pub invariant-loop-i : goal.invariant-loop-i
invariant-loop-i l = AllPairs (λ s t. s.pcr ≢ t.pcr) (take l.i l.statics)
