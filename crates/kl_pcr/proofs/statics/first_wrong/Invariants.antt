use Rattle.std.proofs.Common.{take}
use Rattle.kl_pcr.specs.Statics.{IsFirstWrong}
use Rattle.kl_pcr.proofs.statics.first_wrong.Given as goal

abbrev pub invariant-loop-item : goal.invariant-loop-item
invariant-loop-item l = IsFirstWrong l.bank l.mask l.values (take l.item-index l.statics) l.least
