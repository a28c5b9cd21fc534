use Rattle.std.proofs.Common.{◌≡◌, ◌++◌, ◌∷◌, [], sym, subst, take, rules, tests}
use Rattle.std.proofs.lemmas.List.{take_all}
use Rattle.regex_hir.specs.Meaning.{meaning}
use Rattle.kl_exclude.specs.Inner.Joined.{StandsFor, StandForAll}
use Rattle.kl_exclude.proofs.Trees.{one_tree_more, program_answers}
use Rattle.kl_exclude.proofs.Walks.{take_next}
use Rattle.kl_exclude.proofs.program.join.Goals as goal

pub loop-pattern-preserved : goal.loop-pattern-preserved
loop-pattern-preserved c =
    let texts = c.args.patterns.now in
    let i = c.loop-pattern.pattern-index in
    let text = c.pattern-item.result in
    let tree : StandsFor text (meaning c.in-Some.hir) = search (tests, rules) in
    let trees : c.push.new.self.items ≡ c.loop-pattern.trees.items ++ c.in-Some.hir ∷ [] = search (tests, rules) in
    let all = one_tree_more (take i texts) c.loop-pattern.trees.items text c.in-Some.hir c.loop-pattern.invariant tree in
    subst (λ ts. StandForAll ts c.push.new.self.items) (sym (take_next texts i text c.loop-pattern-test.true c.pattern-item.is))
    (subst (StandForAll (take i texts ++ text ∷ [])) (sym trees) all)

pub returns : goal.returns
returns c =
    let texts = c.args.patterns.now in
    let all = subst (λ ts. StandForAll ts c.loop-pattern.trees.items) (take_all c.loop-pattern.pattern-index texts c.loop-pattern-test.false) c.loop-pattern.invariant in
    program_answers texts c.loop-pattern.trees.items all c.in_ok-program.program c.in_ok-program.ensures
