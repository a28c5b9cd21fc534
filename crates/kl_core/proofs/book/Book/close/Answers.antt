use Rattle.kl_core.specs.Books.{BookFields}
use Rattle.std.proofs.Common.{rules, ◌≡◌, ◌++◌, ◌∷◌, [], ap, ◌∙◌, length, arith}
use Rattle.std.specs.Prelude.{IsSome, IfSome}
use Rattle.std.specs.Option.{option_map}
use Rattle.std.specs.BTreeMap.{get}
use Rattle.std.specs.Ordering.{nat_cmp}
use Rattle.std.specs.Cmp.Lexicographic.{slice_cmp}
use Rattle.kl_history.specs.Records.{past_of, own}
use Rattle.kl_history.specs.LookBacks.{installed}
use Rattle.kl_history.specs.States.{is_current, HasReached}
use Rattle.kl_core.specs.Inner.Keeping.{Tells}
use Rattle.kl_agents.specs.Settling.{only_if}
use Rattle.kl_core.specs.Inner.Closing.{close_record, close_boot, after_close}
use Rattle.kl_agents.specs.Steps.{NotedIf}
use Rattle.kl_core.proofs.Standing.{has_op}
use Rattle.kl_core.proofs.Growing.{in_order}
use Rattle.kl_core.proofs.Ending.{opening_of}
use Rattle.kl_core.proofs.Downfalls.{told_more}
use Rattle.kl_core.proofs.Holding.{few_now, note_now, fails_now, agents_now, book_now, entry_now, handing_closed}
use Rattle.kl_core.proofs.book.Book.close.Goals as goal

pub closed_if-noted-requires : goal.closed_if-noted-requires
closed_if-noted-requires c =
    let b = c.self.inside in
    let here = ap (λ (v : BookFields). v.history) c.self.view_is in
    let current : c.is_some-current.result ≡ is_current (own (past_of c.self.inside.records.items) c.args.ticket.agent) c.args.ticket.generation =
    rw (here, ← c.agent-agent.ensures, ← c.generation.ensures) (c.is_some-current.ensures ∙ c.current_entry.ensures.current) in
    rw (c.kept_if-entry.ensures, c.agent-agent.ensures)
    (few_now b.records.items (past_of b.records.items) b.agents c.args.ticket c.args.by (length b.records.items) c.reaches-reached.result c.is_some-current.result c.self.invariant.0.agents_are current)

pub note_if-requires : goal.note_if-requires
note_if-requires c =
    let b = c.self.inside in
    let here = ap (λ (v : BookFields). v.history) c.self.view_is in
    let current : c.is_some-current.result ≡ is_current (own (past_of c.self.inside.records.items) c.args.ticket.agent) c.args.ticket.generation =
    rw (here, ← c.agent-agent.ensures, ← c.generation.ensures) (c.is_some-current.ensures ∙ c.current_entry.ensures.current) in
    rw (c.closed_if-noted.ensures, c.kept_if-entry.ensures, c.agent-agent.ensures, c.poll-poll.ensures)
    (note_now b.records.items (past_of b.records.items) b.agents c.args.ticket c.args.by c.len-place.result c.reaches-reached.result c.is_some-current.result c.self.invariant.0.agents_are current)

pub invariant_of-self : goal.invariant_of-self
invariant_of-self c =
    let b = c.self.inside in
    let here = ap (λ (v : BookFields). v.history) c.self.view_is in
    let current : c.is_some-current.result ≡ is_current (own (past_of c.self.inside.records.items) c.args.ticket.agent) c.args.ticket.generation =
    rw (here, ← c.agent-agent.ensures, ← c.generation.ensures) (c.is_some-current.ensures ∙ c.current_entry.ensures.current) in
    let o = opening_of b.records.items (past_of b.records.items) c.args.ticket.poll _ (c.self.invariant.0.polls_are c.args.ticket.poll) (rw here c.requires.opened) in
    let placed : c.len-place.result ≡ length c.self.inside.records.items = search rules in
    let changed : NotedIf c.self.inside.agents c.note_if.new.agents c.args.ticket.agent
    (option_map (after_close c.args.ticket.poll (length c.self.inside.records.items) c.reaches-reached.result c.args.by)
    (only_if c.is_some-current.result (get (slice_cmp nat_cmp) c.self.inside.agents c.args.ticket.agent))) =
    rw (← c.agent-agent.ensures, ← c.poll-poll.ensures, ← placed, ← c.kept_if-entry.ensures, ← c.closed_if-noted.ensures) c.note_if.ensures.noted in
    let tells : IsSome (installed (own (past_of c.self.inside.records.items) c.args.ticket.agent))
    → IfSome (close_boot c.args.by) (λ b. Tells c.reaches-reached.result (HasReached (own (past_of c.self.inside.records.items) c.args.ticket.agent) b)) =
    rw (here, ← c.agent-agent.ensures, ← c.boot.ensures) c.reaches-reached.ensures in
    let book =
    book_now b.records.items (past_of b.records.items) b.agents c.args.ticket c.args.by (length b.records.items) c.reaches-reached.result c.is_some-current.result
    c.self.invariant.0.agents_are current (rw here c.requires.given) c.requires.holds o.0 o.1 tells
    c.note_if.new.agents b.polls c.take_one.new.kept b.drawn b.begun b.weight _ _
    c.self.invariant.0
    (rw (← c.weight.ensures.bytes) c.weight.ensures.most)
    changed
    c.note_if.ensures.len
    (rw (← c.poll-poll.ensures) c.take_one.ensures.updates)
    c.take_one.ensures.len in
    rw (c.push_reserved.ensures.items, c.push_reserved.ensures.capacity, c.into_record.ensures, c.poll-poll.ensures, c.weight.ensures.bytes) (
      in_order b.records.items _ c.note_if.new.agents c.take_one.new.kept b.drawn b.begun _ _ _ book,
      told_more b.records.items _ b.outbox c.post_if.new.outbox b.polls c.take_one.new.kept _ _ _
          (fails_now b.records.items (past_of b.records.items) b.agents c.args.ticket c.args.by (length b.records.items) c.reaches-reached.result c.is_some-current.result
          c.self.invariant.0.agents_are current (rw here c.requires.given) c.requires.holds o.0 o.1 tells)
          c.self.invariant.1
          (rw (← c.agent-agent.ensures, ← c.poll-poll.ensures, ← placed, ← c.kept_if-entry.ensures, ← c.closed_if-noted.ensures, ← c.why.ensures) c.post_if.ensures.posted)
          (omega (arith, c.take_one.ensures.len, c.post_if.ensures.spare, c.self.invariant.1.room)),
      handing_closed b.records.items c.args.ticket.agent c.args.ticket.poll c.reaches-reached.result c.is_some-current.result c.args.by b.agents c.note_if.new.agents b.releases b.reached b.drawn b.made
          _ c.self.invariant.2 book.legal
          (λ e is. (entry_now b.records.items (past_of b.records.items) b.agents c.args.ticket.agent c.args.ticket.generation c.is_some-current.result c.self.invariant.0.agents_are current e is).0)
          changed,
    )

pub returns-clause-answer : goal.returns-clause-answer
returns-clause-answer c =
    let b = c.self.inside in
    let here = ap (λ (v : BookFields). v.history) c.self.view_is in
    let current : c.is_some-current.result ≡ is_current (own (past_of c.self.inside.records.items) c.args.ticket.agent) c.args.ticket.generation =
    rw (here, ← c.agent-agent.ensures, ← c.generation.ensures) (c.is_some-current.ensures ∙ c.current_entry.ensures.current) in
    let o = opening_of b.records.items (past_of b.records.items) c.args.ticket.poll _ (c.self.invariant.0.polls_are c.args.ticket.poll) (rw here c.requires.opened) in
    let placed : c.len-place.result ≡ length c.self.inside.records.items = search rules in
    let changed : NotedIf c.self.inside.agents c.note_if.new.agents c.args.ticket.agent
    (option_map (after_close c.args.ticket.poll (length c.self.inside.records.items) c.reaches-reached.result c.args.by)
    (only_if c.is_some-current.result (get (slice_cmp nat_cmp) c.self.inside.agents c.args.ticket.agent))) =
    rw (← c.agent-agent.ensures, ← c.poll-poll.ensures, ← placed, ← c.kept_if-entry.ensures, ← c.closed_if-noted.ensures) c.note_if.ensures.noted in
    let tells : IsSome (installed (own (past_of c.self.inside.records.items) c.args.ticket.agent))
    → IfSome (close_boot c.args.by) (λ b. Tells c.reaches-reached.result (HasReached (own (past_of c.self.inside.records.items) c.args.ticket.agent) b)) =
    rw (here, ← c.agent-agent.ensures, ← c.boot.ensures) c.reaches-reached.ensures in
    rw (← c.self.view_is)
    (record {
      poll = c.poll-poll.ensures;
      agent = c.agent-agent.ensures;
      closed_as = c.as_what-as_what.ensures;
      now = current;
      state =
          rw (c.op_now.ensures, c.agent-agent.ensures)
          (has_op (b.records.items ++ close_record c.args.ticket.poll c.args.by c.is_some-current.result ∷ [])
          (close_record c.args.ticket.poll c.args.by c.is_some-current.result ∷ past_of b.records.items) c.args.ticket.agent
          (get (slice_cmp nat_cmp) c.note_if.new.agents c.args.ticket.agent)
          (agents_now b.records.items (past_of b.records.items) b.agents c.args.ticket c.args.by (length b.records.items) c.reaches-reached.result c.is_some-current.result
          c.self.invariant.0.agents_are current (rw here c.requires.given) c.requires.holds o.0 o.1 tells c.note_if.new.agents changed c.args.ticket.agent));
    })
