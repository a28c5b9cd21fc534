-- The cause is that of the refusal.
use Rattle.std.proofs.Common.{Option, IfNone, sym, subst, true}
use Rattle.kl_states.specs.declared.verdict.InvalidCause.{InvalidCause}
use Rattle.kl_appraise.specs.QuoteRules.{FindsCause, IsGoodQuote}
use Rattle.kl_appraise.specs.Identity.{identity_check}
use Rattle.kl_appraise.specs.Inner.Checked.{answer_of}
use Rattle.kl_appraise.proofs.OutcomeFacts.{finds, finds_good}
use Rattle.kl_appraise.proofs.identity.check_identity.Goals as goal

pub returns-clause-rules : goal.returns-clause-rules
returns-clause-rules g c =
    let check = identity_check c.args.nonce.now c.args.evidence.now in
    let signed = answer_of c.in_ok-checked.checked in
    let found = finds check c.in_ok-checked.checked c.in_ok-checked.ensures.rules in
    (signed, c.in_ok-checked.ensures.answered, c.in_ok-checked.ensures.question, subst (λ (x : Option InvalidCause). FindsCause (check signed) x) (sym c.cause_in.ensures) found)

pub returns-clause-quote : goal.returns-clause-quote
returns-clause-quote g c =
    let check = identity_check c.args.nonce.now c.args.evidence.now in
    subst (λ (x : Option InvalidCause). IfNone x (IsGoodQuote (check true))) (sym c.cause_in.ensures) (finds_good check c.in_ok-checked.checked c.in_ok-checked.ensures.rules)
