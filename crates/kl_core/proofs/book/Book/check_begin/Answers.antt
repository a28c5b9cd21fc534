use Rattle.std.proofs.Common.{ap}
use Rattle.kl_core.specs.Books.{BookFields}
use Rattle.kl_history.specs.Records.{past_of}
use Rattle.kl_core.proofs.Standing.{entry_at, polled_now, idle_now, may_poll, lacking_begin}
use Rattle.kl_core.proofs.Holding.{kept_of, end_of}
use Rattle.kl_core.proofs.book.Book.check_begin.Goals as goal

pub kept_at-entry-requires : goal.kept_at-entry-requires
kept_at-entry-requires c =
    let b = c.self.inside in
    let here = ap (λ (v : BookFields). v.history) c.self.view_is in
    kept_of b.records.items (past_of b.records.items) c.args.agent.now _ (c.self.invariant.0.agents_are c.args.agent.now) (rw here c.in_ok-check_live.ensures.live.0)

pub returns-in-Some-clause-err : goal.returns-in-Some-clause-err
returns-in-Some-clause-err c =
    let b = c.self.inside in
    let H = b.records.items in
    let here = ap (λ (v : BookFields). v.history) c.self.view_is in
    let entry = entry_at b.records.items (past_of b.records.items) c.args.agent.now _ c.kept_at-entry.result (c.self.invariant.0.agents_are c.args.agent.now) c.kept_at-entry.ensures in
    rw (← here)
    (polled_now b.records.items (past_of b.records.items) c.args.agent.now c.kept_at-entry.result c.in-Some.poll entry
    (end_of b.records.items (past_of b.records.items) c.args.agent.now c.kept_at-entry.result entry (rw here c.in_ok-check_live.ensures.live.1))
    c.in-Some.ensures.latest (rw here c.in-Some.ensures.opened))

pub returns-in-Some-lacks-clause-err : goal.returns-in-Some-lacks-clause-err
returns-in-Some-lacks-clause-err c =
    let b = c.self.inside in
    let here = ap (λ (v : BookFields). v.history) c.self.view_is in
    let entry = entry_at b.records.items (past_of b.records.items) c.args.agent.now _ c.kept_at-entry.result (c.self.invariant.0.agents_are c.args.agent.now) c.kept_at-entry.ensures in
    lacking_begin (past_of c.args.self.now.history) c.args.agent.now c.in-Some-lacks.why
    (rw (← here)
    (may_poll b.records.items (past_of b.records.items) c.args.agent.now c.kept_at-entry.result entry
    (end_of b.records.items (past_of b.records.items) c.args.agent.now c.kept_at-entry.result entry (rw here c.in_ok-check_live.ensures.live.1))
    (idle_now b.records.items (past_of b.records.items) c.args.agent.now c.kept_at-entry.result entry (rw here c.in-None.ensures.none))))
    c.in-Some-lacks.ensures

pub returns-in-None-lacks-clause-may : goal.returns-in-None-lacks-clause-may
returns-in-None-lacks-clause-may c =
    let b = c.self.inside in
    let here = ap (λ (v : BookFields). v.history) c.self.view_is in
    let entry = entry_at b.records.items (past_of b.records.items) c.args.agent.now _ c.kept_at-entry.result (c.self.invariant.0.agents_are c.args.agent.now) c.kept_at-entry.ensures in
    rw (← here)
    (may_poll b.records.items (past_of b.records.items) c.args.agent.now c.kept_at-entry.result entry
    (end_of b.records.items (past_of b.records.items) c.args.agent.now c.kept_at-entry.result entry (rw here c.in_ok-check_live.ensures.live.1))
    (idle_now b.records.items (past_of b.records.items) c.args.agent.now c.kept_at-entry.result entry (rw here c.in-None.ensures.none)))
