use Rattle.std.proofs.Common.{◌≡◌, take, false}
use Rattle.kl_exclude.specs.Excludes.{any_excludes}
use Rattle.kl_exclude.proofs.apart.any_hit.Given as goal

abbrev pub invariant-loop-searcher : goal.invariant-loop-searcher
invariant-loop-searcher l = (l.searchers ≡ l.initial.searchers) × (any_excludes (take l.searcher-index l.initial.searchers) l.path ≡ false)
