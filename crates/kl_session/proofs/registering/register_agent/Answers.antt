use Rattle.std.proofs.Common.{refl, string_bytes}
use Rattle.std.proofs.lemmas.Result.{IfOk-weaker, IfErr-weaker}
use Rattle.kl_session.specs.Outside.{outside}
use Rattle.kl_session.proofs.Registered.{does_register, unregistered}
use Rattle.kl_session.proofs.registering.register_agent.Goals as goal

pub returns-in_default-clause-stopped : goal.returns-in_default-clause-stopped
returns-in_default-clause-stopped g c = λ maker steps calls keeps. (calls, keeps, (refl, c.in_default.ensures.none (g.Y.Keys.told c.args.keys.now) maker steps))

pub returns-clause-done : goal.returns-clause-done
returns-clause-done g c =
    let k = g.Y.Keys.told c.args.keys.now in
    let k' = g.Y.Keys.told c.enter.new.keys in
    let w = g.N.Words.told c.args.words.now in
    let w' = g.N.Words.told c.draw.new.words in
    IfOk-weaker c.enter.result _ _
    (λ line did maker steps calls keeps.
    let (calls', kept, called) = did calls keeps in (
      calls',
      kept,
      does_register c.args.register c.in-Some.secret (outside k w maker steps) (outside k w' maker steps) (outside k' w' maker steps)
          (c.in-Some.ensures.some k maker steps) (record { words = refl; maker = refl; steps = refl }) calls calls' (string_bytes line) called,
    ))
    c.enter.ensures.done

pub returns-clause-stopped : goal.returns-clause-stopped
returns-clause-stopped g c =
    let k = g.Y.Keys.told c.args.keys.now in
    let k' = g.Y.Keys.told c.enter.new.keys in
    let w = g.N.Words.told c.args.words.now in
    let w' = g.N.Words.told c.draw.new.words in
    IfErr-weaker c.enter.result _ _
    (λ stop short maker steps calls keeps.
    unregistered c.args.register c.in-Some.secret (outside k w maker steps) (outside k w' maker steps) (outside k' w' maker steps)
    (c.in-Some.ensures.some k maker steps) (record { words = refl; maker = refl; steps = refl }) c.enter.new.registrar stop calls (short calls keeps))
    c.enter.ensures.short
