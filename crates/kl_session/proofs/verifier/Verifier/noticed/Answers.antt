use Rattle.std.proofs.Common.{inl, refl, ap}
use Rattle.std.proofs.lemmas.Result.{IfErr-weaker}
use Rattle.kl_session.specs.Calls.{verifier_of}
use Rattle.kl_session.specs.Noticing.{DoesMark, says_noticed}
use Rattle.kl_session.proofs.verifier.Verifier.noticed.Goals as goal

pub returns-clause-short : goal.returns-clause-short
returns-clause-short c =
    let b = c.self.inside in
    let call = c.mark_delivered-answer in
    let line = says_noticed c.args.number call.result in
    let did : DoesMark c.args.number (verifier_of b.book b.moment) (verifier_of call.new.self b.moment) line = record {
      answer = call.result;
      answers = call.ensures.answer;
      after = ap (λ x. verifier_of x b.moment) call.ensures.marks;
      said = refl;
    } in
    rw (← c.self.view_is) (IfErr-weaker c.say_noticed.result _ _ (λ stop e. (e, inl (line, did))) c.say_noticed.ensures.short)
