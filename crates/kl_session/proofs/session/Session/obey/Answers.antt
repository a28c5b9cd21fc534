use Rattle.std.proofs.Common.{refl, string_bytes}
use Rattle.std.proofs.lemmas.Result.{IfOk-weaker, IfErr-weaker}
use Rattle.kl_script.specs.Commands.{verifier_fields}
use Rattle.kl_session.specs.Outside.{outside}
use Rattle.kl_session.specs.Session.{Does}
use Rattle.kl_session.proofs.Standing.{kept_by, by_verifier, verifier_stopped, by_registrar, registrar_stopped}
use Rattle.kl_session.proofs.session.Session.obey.Goals as goal

pub returns-in-Nothing-clause-done : goal.returns-in-Nothing-clause-done
unfolding Does
returns-in-Nothing-clause-done g c = rw c.in-Nothing.is (λ s stands. (s, stands, (refl, refl, c.new.ensures.bytes)))

pub returns-in-Verifier-clause-done : goal.returns-in-Verifier-clause-done
returns-in-Verifier-clause-done g c =
    let o = outside (g.Y.Keys.told c.args.keys.now) (g.N.Words.told c.args.words.now) (g.P.PatternMaker.told c.args.patterns.now) c.args.steps.now in
    let o' = outside (g.Y.Keys.told c.obey.new.keys) (g.N.Words.told c.obey.new.nonces) (g.P.PatternMaker.told c.obey.new.patterns) c.obey.new.steps in
    let k = kept_by c.self.inside.verifier c.self.inside.registrar in
    rw (c.in-Verifier.is, ← c.self.view_is) (IfOk-weaker c.obey.result _ _ (λ line does s stands. by_verifier o o' k c.obey.new.self (verifier_fields c.in-Verifier.command) (string_bytes line) s stands does) c.obey.ensures.done)

pub returns-in-Verifier-clause-stopped : goal.returns-in-Verifier-clause-stopped
returns-in-Verifier-clause-stopped g c =
    let o = outside (g.Y.Keys.told c.args.keys.now) (g.N.Words.told c.args.words.now) (g.P.PatternMaker.told c.args.patterns.now) c.args.steps.now in
    let o' = outside (g.Y.Keys.told c.obey.new.keys) (g.N.Words.told c.obey.new.nonces) (g.P.PatternMaker.told c.obey.new.patterns) c.obey.new.steps in
    let k = kept_by c.self.inside.verifier c.self.inside.registrar in
    rw (c.in-Verifier.is, ← c.self.view_is) (IfErr-weaker c.obey.result _ _ (λ why stopped s stands. verifier_stopped why o o' k c.obey.new.self (verifier_fields c.in-Verifier.command) s stands stopped) c.obey.ensures.stopped)

pub returns-in-Registrar-clause-done : goal.returns-in-Registrar-clause-done
returns-in-Registrar-clause-done g c =
    let made = g.P.PatternMaker.told c.args.patterns.now in
    let n = c.args.steps.now in
    let o = outside (g.Y.Keys.told c.args.keys.now) (g.N.Words.told c.args.words.now) made n in
    let o' = outside (g.Y.Keys.told c.obey_registrar.new.keys) (g.N.Words.told c.obey_registrar.new.words) made n in
    let k = kept_by c.self.inside.verifier c.self.inside.registrar in
    rw (c.in-Registrar.is, ← c.self.view_is) (IfOk-weaker c.obey_registrar.result _ _ (λ line does s stands. by_registrar o o' k c.obey_registrar.new.registrar c.in-Registrar.command (string_bytes line) s stands (does made n)) c.obey_registrar.ensures.done)

pub returns-in-Registrar-clause-stopped : goal.returns-in-Registrar-clause-stopped
returns-in-Registrar-clause-stopped g c =
    let made = g.P.PatternMaker.told c.args.patterns.now in
    let n = c.args.steps.now in
    let o = outside (g.Y.Keys.told c.args.keys.now) (g.N.Words.told c.args.words.now) made n in
    let o' = outside (g.Y.Keys.told c.obey_registrar.new.keys) (g.N.Words.told c.obey_registrar.new.words) made n in
    let k = kept_by c.self.inside.verifier c.self.inside.registrar in
    rw (c.in-Registrar.is, ← c.self.view_is) (IfErr-weaker c.obey_registrar.result _ _ (λ why stopped s stands. registrar_stopped why o o' k c.obey_registrar.new.registrar c.in-Registrar.command s stands (stopped made n)) c.obey_registrar.ensures.stopped)
