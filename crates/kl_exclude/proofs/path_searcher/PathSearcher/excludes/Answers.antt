use Rattle.std.proofs.Common.{◌∙◌, ap, length, subst, sym}
use Rattle.std.proofs.lemmas.List.{with_items_is}
use Rattle.regex_hir.specs.Meaning.{meaning}
use Rattle.kl_exclude.specs.Inner.Joined.{AnswersFor}
use Rattle.kl_exclude.specs.Inner.Searches.{SearchesFor}
use Rattle.kl_exclude.proofs.path_searcher.PathSearcher.excludes.Goals.{in-Together, in-Apart}
use Rattle.kl_exclude.proofs.path_searcher.PathSearcher.excludes.Goals as goal

pub invariant_of-self : goal.invariant_of-self
invariant_of-self c =
    let patterns = c.self.inside.patterns.now in
    elim c.match-self.branch [
      | in-Together w ↦
          let before = subst (SearchesFor patterns) w.in-Together.is c.self.invariant in
          let after = subst (λ tree. AnswersFor patterns (meaning tree)) (sym w.begins.ensures.same) before in
          subst (λ inside. SearchesFor inside.patterns.now inside.search) (sym w.self-inside-is) after
      | in-Apart w ↦
          let before = subst (SearchesFor patterns) w.in-Apart.is c.self.invariant in
          let written = with_items_is w.in-Apart.each w.any_hit.new.searchers (ap length w.any_hit.ensures.same ∙ w.as_mut_slice.ensures.len) in
          let after = written ∙ w.any_hit.ensures.same ∙ w.as_mut_slice.ensures.value ∙ before in
          subst (λ inside. SearchesFor inside.patterns.now inside.search) (sym w.self-inside-is) after
    ]
