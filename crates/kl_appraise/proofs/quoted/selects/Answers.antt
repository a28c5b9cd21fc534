use Rattle.std.proofs.Common.{sym, ◌∙◌, eq-eqb, eqb-true}
use Rattle.std.proofs.lemmas.Bool.{false≢true}
use Rattle.kl_appraise.proofs.QuoteFacts.{set_is}
use Rattle.kl_appraise.proofs.quoted.selects.Goals as goal

pub returns-then-alg : goal.returns-then-alg
returns-then-alg c = (
  λ is. set_is c.args.selections.now c.in-Some.alg c.in-Some.mask _ _ c.in-Some.ensures.found (c.if-alg.true ∙ c.alg.ensures) (eqb-true c.in-Some.mask c.args.wanted.now.mask is),
  λ set. eq-eqb c.in-Some.mask c.args.wanted.now.mask (c.in-Some.ensures.only _ _ set).1,
)

pub returns-else-alg : goal.returns-else-alg
returns-else-alg c = (
  λ is. absurd (c.if-alg.false (eqb-true c.in-Some.alg c.alg.result is)),
  λ set. eq-eqb c.in-Some.alg c.alg.result ((c.in-Some.ensures.only _ _ set).0 ∙ sym c.alg.ensures),
)

pub returns-in-None : goal.returns-in-None
returns-in-None c = (λ is. absurd (false≢true is), λ set. absurd (c.in-None.ensures.none _ _ set))
