use Rattle.std.proofs.Common.{take}
use Rattle.kl_exclude.specs.Inner.Joined.{StandForAll}
use Rattle.kl_exclude.proofs.program.join.Given as goal

abbrev pub invariant-loop-pattern : goal.invariant-loop-pattern
invariant-loop-pattern l = StandForAll (take l.pattern-index l.patterns) l.trees.items
