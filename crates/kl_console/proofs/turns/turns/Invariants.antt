use Rattle.std.proofs.Common.{◌≡◌, ◌+◌, ◌-◌}
use Rattle.kl_session.specs.Outside.{outside}
use Rattle.kl_session.specs.Calls.{SessionFields, Stands}
use Rattle.kl_console.specs.Lines.{script_limit}
use Rattle.kl_console.specs.Run.{moment}
use Rattle.kl_console.specs.Inner.Turns.{Played}
use Rattle.kl_console.proofs.turns.turns.Given as goal

abbrev pub invariant-turns : goal.invariant-turns
invariant-turns g l = record {
  played : (s : SessionFields) × Stands l.session s × Played (moment (g.S.Source.told l.fn.script) (g.K.Sink.told l.fn.out) (outside (g.Y.Keys.told l.fn.keys) (g.N.Words.told l.fn.nonces) (g.P.PatternMaker.told l.fn.patterns) l.fn.steps))
      (moment (g.S.Source.told l.script) (g.K.Sink.told l.out) (outside (g.Y.Keys.told l.keys) (g.N.Words.told l.nonces) (g.P.PatternMaker.told l.patterns) l.steps)) l.reader s l.number;
  read : (g.S.Source.told l.script).calls.faults ≡ (g.S.Source.told l.fn.script).calls.faults;
  written : (g.K.Sink.told l.out).calls.faults ≡ (g.K.Sink.told l.fn.out).calls.faults;
  script_place : (g.S.Source.told l.script).place ≡ (g.S.Source.told l.fn.script).place;
  out_place : (g.K.Sink.told l.out).place ≡ (g.K.Sink.told l.fn.out).place;
}

abbrev pub decreases-turns : goal.decreases-turns
decreases-turns g l = script_limit + 1 - l.reader.passed
