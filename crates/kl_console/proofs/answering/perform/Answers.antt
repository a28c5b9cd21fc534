use Rattle.std.proofs.Common.{string_bytes}
use Rattle.kl_script.specs.Commands.{fields}
use Rattle.kl_session.specs.Outside.{outside}
use Rattle.kl_console.proofs.Performing.{performs_done, performs_none}
use Rattle.kl_console.proofs.answering.perform.Goals as goal

pub returns-in_err-text-clause-performs : goal.returns-in_err-text-clause-performs
returns-in_err-text-clause-performs g c = λ s stands.
    let o = outside (g.Y.Keys.told c.args.keys.now) (g.N.Words.told c.args.nonces.now) (g.P.PatternMaker.told c.args.patterns.now) c.args.steps.now in
    let o' = outside (g.Y.Keys.told c.obey.new.keys) (g.N.Words.told c.obey.new.words) (g.P.PatternMaker.told c.obey.new.patterns) c.obey.new.steps in
    let (s', after, stopped) = c.in_err-text.ensures.stopped s stands in
    (s', after, performs_none o o' s s' (fields c.args.command) c.in_err-text.field-0.0 (g.K.Sink.told c.args.out.now) c.from_residual.result c.from_residual.ensures.1 stopped)

pub returns-clause-performs : goal.returns-clause-performs
returns-clause-performs g c = λ s stands.
    let o = outside (g.Y.Keys.told c.args.keys.now) (g.N.Words.told c.args.nonces.now) (g.P.PatternMaker.told c.args.patterns.now) c.args.steps.now in
    let o' = outside (g.Y.Keys.told c.obey.new.keys) (g.N.Words.told c.obey.new.words) (g.P.PatternMaker.told c.obey.new.patterns) c.obey.new.steps in
    let (s', after, does) = c.in_ok-text.ensures.done s stands in (
      s',
      after,
      performs_done o o' s s' (fields c.args.command) (string_bytes c.in_ok-text.text) c.as_str.result.now (g.K.Sink.told c.args.out.now) (g.K.Sink.told c.print.new.out)
          c.print.result c.as_str.ensures.value does c.print.ensures.whole c.print.ensures.front,
    )
