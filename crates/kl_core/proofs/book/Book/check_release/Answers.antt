use Rattle.std.proofs.Common.{◌≡◌, true, false, ap, sym, ◌∙◌}
use Rattle.std.proofs.lemmas.Bool.{both_ways}
use Rattle.kl_history.specs.Records.{past_of}
use Rattle.kl_states.specs.Ops.{is_owed}
use Rattle.kl_core.specs.Books.{BookFields}
use Rattle.kl_agents.specs.Steps.{op_of}
use Rattle.kl_core.proofs.Standing.{entry_at}
use Rattle.kl_core.proofs.Giving.{is_in, is_owed_to, is_awaited, may_hand}
use Rattle.kl_core.proofs.book.Book.check_release.Goals as goal

pub returns-then-not-may_release-clause-err : goal.returns-then-not-may_release-clause-err
returns-then-not-may_release-clause-err c =
    let b = c.self.inside in
    let here = ap (λ (v : BookFields). v.history) c.self.view_is in
    let entry = entry_at b.records.items (past_of b.records.items) c.args.agent.now _ c.in-Some.entry (c.self.invariant.0.agents_are c.args.agent.now) (sym c.in-Some.ensures) in
    let not_owed : is_owed c.op-op.result ≡ false = sym c.may_release.ensures ∙ c.if-not-may_release.true in
    (rw (← here, c.op-op.ensures) (is_in b.records.items (past_of b.records.items) c.args.agent.now c.in-Some.entry entry), not_owed)

pub returns-in-Some-awaited-clause-err : goal.returns-in-Some-awaited-clause-err
returns-in-Some-awaited-clause-err c =
    let b = c.self.inside in
    let here = ap (λ (v : BookFields). v.history) c.self.view_is in
    let at = sym c.in-Some.ensures in
    let entry = entry_at b.records.items (past_of b.records.items) c.args.agent.now _ c.in-Some.entry (c.self.invariant.0.agents_are c.args.agent.now) (sym c.in-Some.ensures) in
    let owed : is_owed (op_of c.in-Some.entry) ≡ true = ap is_owed (sym c.op-op.ensures) ∙ sym c.may_release.ensures ∙ c.if-not-may_release.false in
    rw (← here) (
      is_owed_to b.records.items (past_of b.records.items) c.args.agent.now c.in-Some.entry entry owed,
      is_awaited b.records.items (past_of b.records.items) b.reached b.drawn c.args.agent.now c.in-Some.entry c.in-Some-awaited.number
          (c.self.invariant.2.agents_reach c.args.agent.now c.in-Some.entry at) c.in-Some-awaited.ensures.some (rw here c.in-Some-awaited.ensures.unsettled),
    )

pub returns-then-has_room-clause-may : goal.returns-then-has_room-clause-may
returns-then-has_room-clause-may c =
    let b = c.self.inside in
    let here = ap (λ (v : BookFields). v.history) c.self.view_is in
    let entry = entry_at b.records.items (past_of b.records.items) c.args.agent.now _ c.in-Some.entry (c.self.invariant.0.agents_are c.args.agent.now) (sym c.in-Some.ensures) in
    let owed : is_owed (op_of c.in-Some.entry) ≡ true = ap is_owed (sym c.op-op.ensures) ∙ sym c.may_release.ensures ∙ c.if-not-may_release.false in
    rw (← here)
    (may_hand b.records.items (past_of b.records.items) b.reached b.drawn c.args.agent.now c.in-Some.entry
    (c.self.invariant.2.agents_reach c.args.agent.now c.in-Some.entry (sym c.in-Some.ensures))
    (is_owed_to b.records.items (past_of b.records.items) c.args.agent.now c.in-Some.entry entry owed)
    (rw here c.in-None-awaited.ensures.none))

pub returns-else-has_room-clause-err : goal.returns-else-has_room-clause-err
returns-else-has_room-clause-err c =
    let b = c.self.inside in
    let here = ap (λ (v : BookFields). v.history) c.self.view_is in
    let entry = entry_at b.records.items (past_of b.records.items) c.args.agent.now _ c.in-Some.entry (c.self.invariant.0.agents_are c.args.agent.now) (sym c.in-Some.ensures) in
    let owed : is_owed (op_of c.in-Some.entry) ≡ true = ap is_owed (sym c.op-op.ensures) ∙ sym c.may_release.ensures ∙ c.if-not-may_release.false in (
      rw (← here)
          (may_hand b.records.items (past_of b.records.items) b.reached b.drawn c.args.agent.now c.in-Some.entry
          (c.self.invariant.2.agents_reach c.args.agent.now c.in-Some.entry (sym c.in-Some.ensures))
          (is_owed_to b.records.items (past_of b.records.items) c.args.agent.now c.in-Some.entry entry owed)
          (rw here c.in-None-awaited.ensures.none)),
      λ has. both_ways c.has_room.result c.if-has_room.false (c.has_room.ensures.1 has),
    )
