use Rattle.std.proofs.Common.{◌≡◌, take, map}
use Rattle.kl_exclude.specs.Excludes.{any_excludes}
use Rattle.kl_exclude.proofs.path_searcher.PathSearcher.excluded.Given as goal

abbrev pub invariant-loop-path : goal.invariant-loop-path
invariant-loop-path l =
    (l.self ≡ l.initial.self) × (l.marks.items ≡ map (λ path. any_excludes l.initial.self path.now) (take l.path-index l.paths))
