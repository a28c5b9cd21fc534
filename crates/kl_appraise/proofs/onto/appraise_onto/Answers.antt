-- The outcome, by what the quote shows and by what the list shows.
use Rattle.std.proofs.Common.{sym, subst, true}
use Rattle.std.specs.declared.option.Option.{Option}
use Rattle.kl_appraise.specs.declared.kept.Kept.{Kept}
use Rattle.kl_appraise.specs.Evidence.{check_under}
use Rattle.kl_appraise.specs.Kept.{kept_case, IsNext}
use Rattle.kl_appraise.specs.Inner.Checked.{ChecksAs}
use Rattle.kl_appraise.proofs.OutcomeFacts.{sound_outcome, shows_quote, shows_list, next_is}
use Rattle.kl_appraise.proofs.onto.appraise_onto.Goals as goal

pub returns-clause-outcome : goal.returns-clause-outcome
returns-clause-outcome g c = λ prefix boot stands.
    let (t, meets, _) = subst (ChecksAs (check_under c.args.terms.now c.args.nonce.now c.args.evidence.now)) c.in-Sound.is c.in_ok-quote.ensures.rules in
    let (n, cost, judged) = c.in_ok-outcome.ensures.rules in
    sound_outcome (kept_case c.args.terms.now c.args.nonce.now c.args.kept prefix boot c.args.evidence.now true) t c.in-Sound.quote.values c.in_ok-outcome.outcome meets
    (judged c.args.nonce.now true t meets.attests prefix boot stands).rules

pub returns-clause-next : goal.returns-clause-next
returns-clause-next g c =
    let (t, meets, signs) = subst (ChecksAs (check_under c.args.terms.now c.args.nonce.now c.args.evidence.now)) c.in-Sound.is c.in_ok-quote.ensures.rules in
    subst (λ (x : Option Kept). IsNext c.args.terms.now c.args.evidence.now.quote c.in_ok-outcome.outcome x) (sym c.next_of.ensures.next)
    (next_is c.args.terms.now c.args.evidence.now.quote t c.in-Sound.quote.values c.in-Sound.quote.boot c.in_ok-outcome.outcome meets.attests meets.has_values signs)

pub returns-clause-quote : goal.returns-clause-quote
returns-clause-quote g c =
    let (t, meets, _) = subst (ChecksAs (check_under c.args.terms.now c.args.nonce.now c.args.evidence.now)) c.in-Sound.is c.in_ok-quote.ensures.rules in
    shows_quote (check_under c.args.terms.now c.args.nonce.now c.args.evidence.now true) t c.in-Sound.quote.values c.in_ok-outcome.outcome meets

pub returns-clause-list : goal.returns-clause-list
returns-clause-list g c = λ prefix boot stands.
    let (t, meets, _) = subst (ChecksAs (check_under c.args.terms.now c.args.nonce.now c.args.evidence.now)) c.in-Sound.is c.in_ok-quote.ensures.rules in
    let (n, cost, judged) = c.in_ok-outcome.ensures.rules in
    shows_list (kept_case c.args.terms.now c.args.nonce.now c.args.kept prefix boot c.args.evidence.now true) t c.in-Sound.quote.values c.in_ok-outcome.outcome meets
    (judged c.args.nonce.now true t meets.attests prefix boot stands).shows

pub returns-clause-measured : goal.returns-clause-measured
returns-clause-measured g c =
    let (t, meets, _) = subst (ChecksAs (check_under c.args.terms.now c.args.nonce.now c.args.evidence.now)) c.in-Sound.is c.in_ok-quote.ensures.rules in
    let (n, cost, judged) = c.in_ok-outcome.ensures.rules in
    (n, cost, λ prefix boot stands. (judged c.args.nonce.now true t meets.attests prefix boot stands).cost)
