use Rattle.std.proofs.Common.{◌≡◌, ◌⊎◌, Bool, false, Some, None, refl, sym, ap, ◌∙◌, subst, rules}
use Rattle.kl_appraise.specs.Asking.{Asked, AskedOnce}
use Rattle.kl_appraise.specs.Evidence.{check_under}
use Rattle.kl_appraise.specs.Kept.{InEachCase, IsNext}
use Rattle.kl_appraise.specs.Outcome.{IsOutcome}
use Rattle.kl_appraise.specs.QuoteRules.{IsUnasked}
use Rattle.kl_appraise.specs.Shown.{ShowsList}
use Rattle.kl_appraise.specs.Terms.{TermsFields}
use Rattle.kl_incr.proofs.Passing.{move, appraisal_of}
use Rattle.kl_incr.proofs.polling.appraise_from.Goals as goal

pub new-requires : goal.new-requires
new-requires g c =
    let e = c.args.evidence in
    let t = c.args.ticket in
    let yes = c.in-Ok.found.signed in
    let o = c.in-Ok.found.outcome in
    let next = c.in-Ok.found.next in
    let out = move (λ terms nonce kept. InEachCase terms nonce kept e yes (λ k. IsOutcome k o)) c.terms.result.now t.terms c.nonce.result.now t.nonce c.kept-kept.result t.kept
    c.terms.ensures c.nonce.ensures c.kept-kept.ensures.value c.in-Ok.ensures.outcome in
    let shown = move (λ terms nonce kept. InEachCase terms nonce kept e yes (λ k. ShowsList k o)) c.terms.result.now t.terms c.nonce.result.now t.nonce c.kept-kept.result t.kept
    c.terms.ensures c.nonce.ensures c.kept-kept.ensures.value c.in-Ok.ensures.list in
    let left = subst (λ (terms : TermsFields). IsNext terms e.quote o next) c.terms.ensures c.in-Ok.ensures.next in
    let un = move (λ terms nonce kept. IsUnasked (check_under terms nonce e yes) → yes ≡ false) c.terms.result.now t.terms c.nonce.result.now t.nonce c.kept-kept.result t.kept
    c.terms.ensures c.nonce.ensures c.kept-kept.ensures.value c.in-Ok.ensures.signed.unasked in
    appraisal_of t e yes o next out shown left un

pub returns-in-Ok-clause-question : goal.returns-in-Ok-clause-question
returns-in-Ok-clause-question g c =
    let e = c.args.evidence in
    let t = c.args.ticket in
    let old = g.Y.Keys.told c.args.keys.now in
    let new = g.Y.Keys.told c.appraise_onto.new.keys in
    let asked = move (λ terms nonce kept. IsUnasked (check_under terms nonce e false) ⊎ Asked old new terms.ak e.quote (Some c.in-Ok.found.signed))
    c.terms.result.now t.terms c.nonce.result.now t.nonce c.kept-kept.result t.kept c.terms.ensures c.nonce.ensures c.kept-kept.ensures.value c.in-Ok.ensures.question in
    subst (λ (yes : Bool). IsUnasked (check_under t.terms t.nonce e false) ⊎ Asked old new t.terms.ak e.quote (Some yes)) (sym (ap (λ a. a.signed) c.new.ensures)) asked

pub returns-in-Ok-clause-once : goal.returns-in-Ok-clause-once
returns-in-Ok-clause-once g c =
    subst (λ (terms : TermsFields). (c.appraise_onto.new.keys ≡ c.args.keys.now) ⊎ AskedOnce (g.Y.Keys.told c.args.keys.now) (g.Y.Keys.told c.appraise_onto.new.keys) terms.ak c.args.evidence.quote)
    c.terms.ensures c.in-Ok.ensures.once

pub returns-in-Err-Keys-clause-blamed : goal.returns-in-Err-Keys-clause-blamed
returns-in-Err-Keys-clause-blamed g c =
    let e = c.args.evidence in
    let t = c.args.ticket in
    let old = g.Y.Keys.told c.args.keys.now in
    let new = g.Y.Keys.told c.appraise_onto.new.keys in
    move (λ terms nonce kept. (¬ IsUnasked (check_under terms nonce e false)) × Asked old new terms.ak e.quote None) c.terms.result.now t.terms c.nonce.result.now t.nonce c.kept-kept.result t.kept
    c.terms.ensures c.nonce.ensures c.kept-kept.ensures.value (c.in-Err-Keys.ensures.asked (search (rules, c.in-Err-Keys.is, c.in-Err-Keys.field-0-is)), c.in-Err-Keys.ensures.fault (search (rules, c.in-Err-Keys.is, c.in-Err-Keys.field-0-is)))

pub returns-in-Err-Keys-clause-once : goal.returns-in-Err-Keys-clause-once
returns-in-Err-Keys-clause-once g c =
    subst (λ (terms : TermsFields). (c.appraise_onto.new.keys ≡ c.args.keys.now) ⊎ AskedOnce (g.Y.Keys.told c.args.keys.now) (g.Y.Keys.told c.appraise_onto.new.keys) terms.ak c.args.evidence.quote)
    c.terms.ensures c.in-Err-Keys.ensures.once

pub returns-clause-once : goal.returns-clause-once
returns-clause-once g c =
    subst (λ (terms : TermsFields). (c.appraise_onto.new.keys ≡ c.args.keys.now) ⊎ AskedOnce (g.Y.Keys.told c.args.keys.now) (g.Y.Keys.told c.appraise_onto.new.keys) terms.ak c.args.evidence.quote)
    c.terms.ensures c.in-Err-Memory.ensures.once

pub returns-in-Ok-clause-unasked : goal.returns-in-Ok-clause-unasked
returns-in-Ok-clause-unasked g c =
    let e = c.args.evidence in
    let t = c.args.ticket in
    move (λ terms nonce kept. (c.appraise_onto.new.keys ≡ c.args.keys.now) ⊎ (¬ (IsUnasked (check_under terms nonce e false))))
    c.terms.result.now t.terms c.nonce.result.now t.nonce c.kept-kept.result t.kept c.terms.ensures c.nonce.ensures c.kept-kept.ensures.value c.in-Ok.ensures.unasked

pub returns-in-Err-Keys-clause-unasked : goal.returns-in-Err-Keys-clause-unasked
returns-in-Err-Keys-clause-unasked g c =
    let e = c.args.evidence in
    let t = c.args.ticket in
    move (λ terms nonce kept. (c.appraise_onto.new.keys ≡ c.args.keys.now) ⊎ (¬ (IsUnasked (check_under terms nonce e false))))
    c.terms.result.now t.terms c.nonce.result.now t.nonce c.kept-kept.result t.kept c.terms.ensures c.nonce.ensures c.kept-kept.ensures.value c.in-Err-Keys.ensures.unasked

pub returns-clause-unasked : goal.returns-clause-unasked
returns-clause-unasked g c =
    let e = c.args.evidence in
    let t = c.args.ticket in
    move (λ terms nonce kept. (c.appraise_onto.new.keys ≡ c.args.keys.now) ⊎ (¬ (IsUnasked (check_under terms nonce e false))))
    c.terms.result.now t.terms c.nonce.result.now t.nonce c.kept-kept.result t.kept c.terms.ensures c.nonce.ensures c.kept-kept.ensures.value c.in-Err-Memory.ensures.unasked

pub returns-in-Err-Keys-clause-idle : goal.returns-in-Err-Keys-clause-idle
returns-in-Err-Keys-clause-idle g c = c.in-Err-Keys.ensures.idle (search (rules, c.in-Err-Keys.is, c.in-Err-Keys.field-0-is))

pub returns-clause-idle : goal.returns-clause-idle
returns-clause-idle g c = λ none. c.in-Err-Memory.ensures.plain (ap (λ (t : TermsFields). t.policy.patterns) c.terms.ensures ∙ none) refl
