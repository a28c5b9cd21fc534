use Rattle.std.proofs.Common.{sym, subst}
use Rattle.regex_hir.specs.Meaning.{meaning}
use Rattle.kl_exclude.specs.Inner.Joined.{AnswersFor}
use Rattle.kl_exclude.proofs.path_searcher.PathSearcher.together.Goals as goal

pub invariant_of-result : goal.invariant_of-result
invariant_of-result c = subst (λ tree. AnswersFor c.args.patterns.now (meaning tree)) (sym c.in_ok-searcher.ensures) c.requires
