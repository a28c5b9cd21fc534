-- Nothing is kept, which stands for no entry.
use Rattle.std.proofs.Common.{[], refl, sym, subst, inl, inr, arith}
use Rattle.std.specs.declared.option.Option.{Option}
use Rattle.kl_appraise.specs.declared.judged.Boot.{Boot}
use Rattle.kl_appraise.specs.ListRules.{Outcome}
use Rattle.kl_appraise.specs.Kept.{IsNext}
use Rattle.kl_appraise.specs.Outcome.{IsOutcome, HasBoot, Measures, whole_case}
use Rattle.kl_appraise.specs.Shown.{ShowsList}
use Rattle.kl_appraise.proofs.GenuineFacts.{genuine_passes}
use Rattle.kl_appraise.proofs.OutcomeFacts.{has_boot, measured_none, no_restart}
use Rattle.kl_appraise.proofs.whole.appraise_whole.Goals as goal

pub unreachable-requires : goal.unreachable-requires
unreachable-requires g c =
    no_restart c.args.terms.now c.args.nonce.now c.args.evidence.now c.in_ok-found.found.signed
    (subst (IsOutcome (whole_case c.args.terms.now c.args.nonce.now c.args.evidence.now c.in_ok-found.found.signed)) c.in-Restart.is (c.in_ok-found.ensures.outcome [] _ refl))

pub returns-clause-verdict : goal.returns-clause-verdict
returns-clause-verdict g c =
    subst (IsOutcome (whole_case c.args.terms.now c.args.nonce.now c.args.evidence.now c.in_ok-found.found.signed)) c.in-Verdict.is (c.in_ok-found.ensures.outcome [] _ refl)

pub returns-clause-boot : goal.returns-clause-boot
returns-clause-boot g c =
    let next = subst (λ (o : Outcome). IsNext c.args.terms.now c.args.evidence.now.quote o c.in_ok-found.found.next) c.in-Verdict.is c.in_ok-found.ensures.next in
    subst (λ (boot : Option Boot). HasBoot c.args.evidence.now.quote c.in-Verdict.verdict boot) (sym c.boot_in.ensures)
    (has_boot c.args.terms.now c.args.evidence.now.quote c.in-Verdict.verdict c.in_ok-found.found.next next)

pub returns-clause-list : goal.returns-clause-list
returns-clause-list g c =
    subst (ShowsList (whole_case c.args.terms.now c.args.nonce.now c.args.evidence.now c.in_ok-found.found.signed)) c.in-Verdict.is (c.in_ok-found.ensures.list [] _ refl)

pub returns-clause-genuine : goal.returns-clause-genuine
returns-clause-genuine g c = λ genuine allows.
    genuine_passes (whole_case c.args.terms.now c.args.nonce.now c.args.evidence.now c.in_ok-found.found.signed) c.in-Verdict.verdict genuine allows (returns-clause-verdict g c)

pub returns-clause-idle : goal.returns-clause-idle
returns-clause-idle g c =
    let (n, cost, measured) = c.in_ok-found.ensures.measured in
    let case = whole_case c.args.terms.now c.args.nonce.now c.args.evidence.now c.in_ok-found.found.signed in
    let here = subst (λ (o : Outcome). Measures case o n) c.in-Verdict.is (measured [] _ refl) in
    inr (elim (measured_none case c.in-Verdict.verdict n here) [ inl replayed ↦ inl replayed | inr none ↦ inr (omega (arith, cost, none)) ])
