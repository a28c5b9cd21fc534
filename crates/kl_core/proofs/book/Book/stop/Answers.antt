use Rattle.kl_core.specs.Books.{BookFields}
use Rattle.std.proofs.Common.{rules, arith, ap, refl, inl}
use Rattle.kl_history.specs.Records.{past_of}
use Rattle.kl_agents.specs.Steps.{stopped}
use Rattle.kl_core.proofs.Standing.{entry_at}
use Rattle.kl_core.proofs.Growing.{in_order, book_stopped}
use Rattle.kl_core.proofs.Downfalls.{told_on}
use Rattle.kl_core.proofs.Holding.{no_less, handing_changed, kept_of, end_of}
use Rattle.kl_core.proofs.book.Book.stop.Goals as goal

pub kept_at-entry-requires : goal.kept_at-entry-requires
kept_at-entry-requires c =
    let b = c.self.inside in
    let here = ap (λ (v : BookFields). v.history) c.self.view_is in
    kept_of b.records.items (past_of b.records.items) c.args.agent.now _ (c.self.invariant.0.agents_are c.args.agent.now) (rw here c.in_ok-check_live.ensures.live.0)

pub invariant_of-self-2 : goal.invariant_of-self-2
invariant_of-self-2 c =
    let b = c.self.inside in
    let here = ap (λ (v : BookFields). v.history) c.self.view_is in
    let e = c.kept_at-entry.result in
    let entry = entry_at b.records.items (past_of b.records.items) c.args.agent.now _ c.kept_at-entry.result (c.self.invariant.0.agents_are c.args.agent.now) c.kept_at-entry.ensures in
    let book =
    book_stopped b.records.items (past_of b.records.items) b.agents c.note.new.agents b.polls b.drawn b.begun b.weight _ _ _ c.args.agent.now c.kept_at-entry.result
    c.self.invariant.0
    entry
    (end_of b.records.items (past_of b.records.items) c.args.agent.now c.kept_at-entry.result entry (rw here c.in_ok-check_live.ensures.live.1))
    (rw (← c.stopped.ensures) c.note.ensures.updates)
    c.note.ensures.len
    (rw here (search rules))
    (omega (arith, c.in-Ok.ensures.ok, c.ends.ensures)) in
    rw (c.push_reserved.ensures.items, c.push_reserved.ensures.capacity, c.reserve.ensures.items) (
      in_order b.records.items _ c.note.new.agents b.polls b.drawn b.begun b.weight _ _ book,
      told_on b.records.items _ b.outbox b.polls _ refl c.self.invariant.1,
      handing_changed b.records.items _ b.agents c.note.new.agents b.releases b.reached b.drawn b.drawn b.made c.self.invariant.2 book.legal refl refl (no_less b.drawn)
          c.args.agent.now c.kept_at-entry.result (stopped c.kept_at-entry.result) refl c.kept_at-entry.ensures refl refl (λ k is. inl is) (rw (← c.stopped.ensures) c.note.ensures.updates),
    )
