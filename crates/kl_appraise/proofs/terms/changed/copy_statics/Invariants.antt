use Rattle.std.proofs.Common.{◌≡◌, take}
use Rattle.kl_appraise.proofs.terms.changed.copy_statics.Given as goal

abbrev pub invariant-loop-item : goal.invariant-loop-item
invariant-loop-item l = l.copies.items ≡ take l.item-index l.statics
