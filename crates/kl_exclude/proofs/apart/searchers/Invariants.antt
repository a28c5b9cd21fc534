use Rattle.std.proofs.Common.{◌≡◌, take}
use Rattle.kl_exclude.proofs.apart.searchers.Given as goal

abbrev pub invariant-loop-pattern : goal.invariant-loop-pattern
invariant-loop-pattern l = l.searchers.items ≡ take l.pattern-index l.patterns
