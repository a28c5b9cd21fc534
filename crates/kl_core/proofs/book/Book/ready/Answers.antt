use Rattle.std.proofs.Common.{ap}
use Rattle.kl_history.specs.Records.{past_of}
use Rattle.kl_core.specs.Books.{BookFields}
use Rattle.kl_core.specs.Shares.{MayHand}
use Rattle.kl_core.proofs.Standing.{entry_at}
use Rattle.kl_core.proofs.Giving.{ready}
use Rattle.kl_core.proofs.book.Book.ready.Goals as goal

pub returns-clause-ready : goal.returns-clause-ready
returns-clause-ready c =
    let b = c.self.inside in
    let here = ap (λ (v : BookFields). v.history) c.self.view_is in
    let may : MayHand (past_of b.records.items) c.args.agent.now = rw here c.requires in
    let entry = entry_at b.records.items (past_of b.records.items) c.args.agent.now _ c.kept_at-entry.result (c.self.invariant.0.agents_are c.args.agent.now) c.kept_at-entry.ensures in
    rw (← here)
    (ready b.records.items (past_of b.records.items) c.args.agent.now c.kept_at-entry.result entry may c.in-Some.pass c.in-Some.is
    ((c.self.invariant.2.agents_reach c.args.agent.now c.kept_at-entry.result c.kept_at-entry.ensures).pass_placed c.in-Some.pass c.in-Some.is))
