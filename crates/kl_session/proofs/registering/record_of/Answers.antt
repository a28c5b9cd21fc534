use Rattle.std.proofs.Common.{Ok, Err, refl}
use Rattle.std.proofs.lemmas.Result.{IfOk-weaker}
use Rattle.kl_registrar.specs.Records.{told_of}
use Rattle.kl_session.proofs.Registered.{no_record}
use Rattle.kl_session.proofs.registering.record_of.Goals as goal

pub returns-in_ok-record_line-in-Ok-clause-done : goal.returns-in_ok-record_line-in-Ok-clause-done
returns-in_ok-record_line-in-Ok-clause-done c = λ calls keeps. (
  calls,
  keeps,
  record {
    answer = Ok (told_of c.in-Ok.record.now);
    answers = c.in-Ok.ensures.found calls keeps;
    after = refl;
    said = c.in_ok-record_line-in-Ok.ensures;
  },
)

pub returns-in-Err-clause-done : goal.returns-in-Err-clause-done
returns-in-Err-clause-done c =
    IfOk-weaker c.say_refused.result _ _
    (λ line said calls keeps. (
      calls,
      keeps,
      record {
        answer = Err c.in-Err.why;
        answers = no_record c.args.agent c.args.registrar.now c.in-Err.why c.in-Err.ensures.no_agent c.in-Err.ensures.not_active c.in-Err.ensures.only calls keeps;
        after = refl;
        said = said.1;
      },
    ))
    c.say_refused.ensures.line
