use Rattle.std.proofs.Common.{rules, ap, refl}
use Rattle.kl_core.specs.Books.{BookFields}
use Rattle.kl_core.proofs.Settled.{arrival_place, settled_op, settle_keeps}
use Rattle.kl_core.proofs.book.Book.settle_open.Goals as goal

pub mark_if-requires : goal.mark_if-requires
mark_if-requires c =
    let b = c.self.inside in
    let here = ap (λ (v : BookFields). v.history) c.self.view_is in
    rw (c.arrival.ensures, c.kept-entry.ensures, c.number-number.ensures, c.agent-agent.ensures)
    (arrival_place b.records.items b.agents b.polls b.releases b.reached b.drawn b.begun b.weight _ b.made c.args.share c.args.outcome c.in-Some.handed c.self.invariant.0 c.self.invariant.2
    (rw here c.requires.given)
    (rw (here, ← c.number-number.ensures) c.in-Some.ensures))

pub invariant_of-self : goal.invariant_of-self
invariant_of-self c =
    let b = c.self.inside in
    let here = ap (λ (v : BookFields). v.history) c.self.view_is in
    rw (c.push_reserved.ensures.items, c.push_reserved.ensures.capacity, c.number-number.ensures)
    (settle_keeps b.records.items b.agents b.polls b.releases b.reached b.drawn b.begun b.weight _ b.made c.args.share c.args.outcome c.in-Some.handed c.self.invariant.0 c.self.invariant.2
    (rw here c.requires.given)
    (rw (here, ← c.number-number.ensures) c.in-Some.ensures)
    c.is_some-current.result
    (rw (here, c.is_some-current.ensures, ← c.agent-agent.ensures, ← c.generation.ensures) c.current_entry.ensures.current)
    c.note_if.new.agents c.take_one.new.kept c.mark_if.new.reached b.outbox c.post_if.new.outbox c.self.invariant.1
    (rw (← c.agent-agent.ensures, ← c.number-number.ensures, ← c.kept-entry.ensures, ← c.settled_if-noted.ensures) c.note_if.ensures.noted)
    c.note_if.ensures.len
    (rw (← c.number-number.ensures) c.take_one.ensures.updates)
    c.take_one.ensures.len
    (rw (← c.agent-agent.ensures, ← c.number-number.ensures, ← c.kept-entry.ensures, ← c.arrival.ensures) c.mark_if.ensures)
    (rw (← c.agent-agent.ensures, ← c.number-number.ensures, ← c.kept-entry.ensures, ← c.settled_if-noted.ensures, ← c.only_if.ensures, ← c.settle_why.ensures) c.post_if.ensures.posted)
    c.post_if.ensures.spare)

pub returns-clause-answer : goal.returns-clause-answer
returns-clause-answer c =
    let b = c.self.inside in
    let here = ap (λ (v : BookFields). v.history) c.self.view_is in
    rw (← c.self.view_is)
    (record {
      number = c.number-number.ensures;
      outcome = refl;
      now = rw here (search rules);
      state =
          rw (c.op_now.ensures, c.agent-agent.ensures)
          (settled_op b.records.items b.agents b.polls b.releases b.reached b.drawn b.begun b.weight _ b.made c.args.share c.args.outcome c.in-Some.handed c.self.invariant.0 c.self.invariant.2
          (rw here c.requires.given)
          (rw (here, ← c.number-number.ensures) c.in-Some.ensures)
          c.is_some-current.result
          (rw (here, c.is_some-current.ensures, ← c.agent-agent.ensures, ← c.generation.ensures) c.current_entry.ensures.current)
          c.note_if.new.agents
          (rw (← c.agent-agent.ensures, ← c.number-number.ensures, ← c.kept-entry.ensures, ← c.settled_if-noted.ensures) c.note_if.ensures.noted));
    })
