-- Which of the nine rules is the first that applies, and that the key object is asked where none of the first three does.
use Rattle.std.proofs.Common.{ℕ, true, false, List, Err, refl, sym, ap, subst, inl, inr}
use Rattle.kl_quote.specs.QuoteText.{IsFormFault, IsQuoteText}
use Rattle.kl_appraise.specs.declared.quoted.Checked.{Checked}
use Rattle.kl_appraise.specs.QuoteRules.{IsAnswered}
use Rattle.kl_appraise.specs.Inner.Checked.{check_for, answer_of, ChecksAs}
use Rattle.kl_appraise.proofs.QuoteFacts.{unread_form, unread_later, by_unread, by_signature, by_signed, is_asked, answered_no, answered_as}
use Rattle.kl_appraise.proofs.quoted.check_quote.Goals as goal

-- ---- the text has not its form

pub returns-in-Err-Form-clause-question : goal.returns-in-Err-Form-clause-question
returns-in-Err-Form-clause-question g c =
    let fault = subst (λ (x : List ℕ). IsFormFault x c.in-Err-Form.part) c.as_str.ensures (c.in-Err-Form.ensures.fault c.in-Err-Form.part (ap Err c.in-Err-Form.field-0-is)) in
    inl (_, unread_form (check_for c.args.wanted.now c.args.evidence.now false) c.in-Err-Form.part fault)

pub returns-in-Err-Form-clause-answered : goal.returns-in-Err-Form-clause-answered
returns-in-Err-Form-clause-answered g c =
    let k = check_for c.args.wanted.now c.args.evidence.now in
    let fault = subst (λ (x : List ℕ). IsFormFault x c.in-Err-Form.part) c.as_str.ensures (c.in-Err-Form.ensures.fault c.in-Err-Form.part (ap Err c.in-Err-Form.field-0-is)) in
    subst (λ (x : Checked). IsAnswered (g.Y.Keys.told c.args.keys.now).relations c.args.wanted.now.ak.now (k (answer_of x))) (sym c.unasked.ensures)
    (answered_no _ _ (k false) (_, unread_form (k false) c.in-Err-Form.part fault) refl)

-- ---- it is of another bank, or attests nothing

pub returns-in-Err-clause-rules : goal.returns-in-Err-clause-rules
returns-in-Err-clause-rules g c =
    let k = check_for c.args.wanted.now c.args.evidence.now in
    let text = subst (λ (x : List ℕ). IsQuoteText x c.in-Ok.quote.attest c.in-Ok.quote.signature c.in-Ok.quote.pcrs) c.as_str.ensures c.in-Ok.ensures.found in
    subst (ChecksAs k) (sym c.unasked-in-Err.ensures)
    (by_unread (k false) c.in-Err.why (unread_later (k false) c.in-Ok.quote.attest c.in-Ok.quote.signature c.in-Ok.quote.pcrs c.in-Err.why text (c.in-Err.ensures.refused false)))

pub returns-in-Err-clause-question : goal.returns-in-Err-clause-question
returns-in-Err-clause-question g c =
    let k = check_for c.args.wanted.now c.args.evidence.now in
    let text = subst (λ (x : List ℕ). IsQuoteText x c.in-Ok.quote.attest c.in-Ok.quote.signature c.in-Ok.quote.pcrs) c.as_str.ensures c.in-Ok.ensures.found in
    inl (c.in-Err.why, unread_later (k false) c.in-Ok.quote.attest c.in-Ok.quote.signature c.in-Ok.quote.pcrs c.in-Err.why text (c.in-Err.ensures.refused false))

pub returns-in-Err-clause-answered : goal.returns-in-Err-clause-answered
returns-in-Err-clause-answered g c =
    let k = check_for c.args.wanted.now c.args.evidence.now in
    let text = subst (λ (x : List ℕ). IsQuoteText x c.in-Ok.quote.attest c.in-Ok.quote.signature c.in-Ok.quote.pcrs) c.as_str.ensures c.in-Ok.ensures.found in
    let none = unread_later (k false) c.in-Ok.quote.attest c.in-Ok.quote.signature c.in-Ok.quote.pcrs c.in-Err.why text (c.in-Err.ensures.refused false) in
    subst (λ (x : Checked). IsAnswered (g.Y.Keys.told c.args.keys.now).relations c.args.wanted.now.ak.now (k (answer_of x))) (sym c.unasked-in-Err.ensures)
    (answered_no _ _ (k false) (c.in-Err.why, none) refl)

-- ---- the key object is asked: it meets a fault

pub returns-in_err-ask-clause-asked : goal.returns-in_err-ask-clause-asked
returns-in_err-ask-clause-asked g c = λ _. is_asked (check_for c.args.wanted.now c.args.evidence.now false) _ _ _ _ c.in-Ok-read_signed.ensures.found

pub returns-in_err-ask-clause-unasked : goal.returns-in_err-ask-clause-unasked
returns-in_err-ask-clause-unasked g c = inr (is_asked (check_for c.args.wanted.now c.args.evidence.now false) _ _ _ _ c.in-Ok-read_signed.ensures.found)

-- ---- it says no

pub returns-then-not-branch-clause-rules : goal.returns-then-not-branch-clause-rules
returns-then-not-branch-clause-rules g c = by_signature (check_for c.args.wanted.now c.args.evidence.now false) _ _ _ _ c.in-Ok-read_signed.ensures.found refl

pub returns-then-not-branch-clause-unasked : goal.returns-then-not-branch-clause-unasked
returns-then-not-branch-clause-unasked g c = inr (is_asked (check_for c.args.wanted.now c.args.evidence.now false) _ _ _ _ c.in-Ok-read_signed.ensures.found)

-- ---- it says yes, and what was signed does not meet a rule

pub returns-in-Some-clause-rules : goal.returns-in-Some-clause-rules
returns-in-Some-clause-rules g c = by_signed (check_for c.args.wanted.now c.args.evidence.now true) _ _ _ _ c.in-Some.why c.in-Ok-read_signed.ensures.found refl (c.in-Some.ensures.found true)

pub returns-in-Some-clause-answered : goal.returns-in-Some-clause-answered
returns-in-Some-clause-answered g c =
    answered_as _ _ _ (check_for c.args.wanted.now c.args.evidence.now true) c.in_ok-ask.field-0 _ _ _ _ c.in-Ok-read_signed.ensures.found c.if-not-branch.false c.in_ok-ask.ensures

pub returns-in-Some-clause-unasked : goal.returns-in-Some-clause-unasked
returns-in-Some-clause-unasked g c = inr (is_asked (check_for c.args.wanted.now c.args.evidence.now false) _ _ _ _ c.in-Ok-read_signed.ensures.found)

-- ---- or meets them all

pub returns-clause-answered : goal.returns-clause-answered
returns-clause-answered g c =
    answered_as _ _ _ (check_for c.args.wanted.now c.args.evidence.now true) c.in_ok-ask.field-0 _ _ _ _ c.in-Ok-read_signed.ensures.found c.if-not-branch.false c.in_ok-ask.ensures

pub returns-clause-unasked : goal.returns-clause-unasked
returns-clause-unasked g c = inr (is_asked (check_for c.args.wanted.now c.args.evidence.now false) _ _ _ _ c.in-Ok-read_signed.ensures.found)
