use Rattle.std.proofs.Common.{◌≡◌, subst, map, IfOk}
use Rattle.kl_exclude.specs.Excludes.{any_excludes}
use Rattle.kl_exclude.proofs.patterns.Patterns.excluded.Goals as goal

pub returns : goal.returns
returns c =
    subst (λ texts. IfOk c.excluded.result (λ marks. marks.items ≡ map (λ path. any_excludes texts path.now) c.args.paths.now)) c.in_ok-searcher.ensures c.excluded.ensures
