use Rattle.kl_core.specs.Books.{BookFields}
use Rattle.std.proofs.Common.{rules, ℕ, ◌+◌, ◌≤◌, List, length, Some, None, ◌∙◌, arith, ap, refl, inl}
use Rattle.std.specs.Prelude.{is_some}
use Rattle.std.specs.BTreeMap.{Updates, btree_map_len}
use Rattle.std.specs.Ordering.{nat_cmp}
use Rattle.std.specs.Cmp.Lexicographic.{slice_cmp}
use Rattle.kl_history.specs.Records.{past_of}
use Rattle.kl_agents.specs.declared.entry.Opening.{Opening}
use Rattle.kl_core.specs.Begins.{MayPoll}
use Rattle.kl_agents.specs.Steps.{polled}
use Rattle.kl_core.proofs.Growing.{in_order, book_begun, book_roomier, next_is_free}
use Rattle.kl_core.proofs.Standing.{entry_at, current_of, next_ticket}
use Rattle.kl_core.proofs.Downfalls.{told_more}
use Rattle.kl_core.proofs.Holding.{no_less, handing_changed, kept_of, terms_of_entry, end_of, idle_of}
use Rattle.kl_core.proofs.book.Book.begin.Goals as goal

pub kept_at-entry-requires : goal.kept_at-entry-requires
kept_at-entry-requires c =
    let b = c.self.inside in
    let here = ap (λ (v : BookFields). v.history) c.self.view_is in
    let may : MayPoll (past_of b.records.items) c.args.agent.now = rw here c.in_ok-check_begin.ensures.may in
    kept_of b.records.items (past_of b.records.items) c.args.agent.now _ (c.self.invariant.0.agents_are c.args.agent.now) (ap is_some may.2.with)

pub share_terms-requires : goal.share_terms-requires
share_terms-requires c =
    let b = c.self.inside in
    let here = ap (λ (v : BookFields). v.history) c.self.view_is in
    let entry = entry_at b.records.items (past_of b.records.items) c.args.agent.now _ c.kept_at-entry.result (c.self.invariant.0.agents_are c.args.agent.now) c.kept_at-entry.ensures in
    rw (← here) (terms_of_entry b.records.items (past_of b.records.items) c.args.agent.now c.kept_at-entry.result entry)

pub put_one-requires : goal.put_one-requires
put_one-requires c =
    let b = c.self.inside in
    next_is_free b.records.items (past_of b.records.items) b.agents b.polls b.drawn b.begun b.weight _ _ c.self.invariant.0

pub invariant_of-self-in-Err-put_one : goal.invariant_of-self-in-Err-put_one
invariant_of-self-in-Err-put_one c =
    let b = c.self.inside in
    rw c.reserve.ensures.items (
      book_roomier b.records.items (past_of b.records.items) b.agents b.polls c.put_one.new.kept b.drawn b.begun b.weight _ _ _ c.self.invariant.0 c.in-Err-put_one.ensures.same
          (omega (arith, c.reserve.ensures.capacity)),
      record {
        posted = c.reserve-2.ensures.posted ∙ c.self.invariant.1.posted;
        room = let len = ap (λ (es : List (ℕ × Opening)). length es) c.in-Err-put_one.ensures.same in omega (arith, c.in-Ok-reserve.ensures.room, c.ends-2.ensures);
      },
      c.self.invariant.2,
    )

pub invariant_of-self-in-Err-reserve : goal.invariant_of-self-in-Err-reserve
invariant_of-self-in-Err-reserve c =
    let b = c.self.inside in
    rw c.reserve.ensures.items (
      book_roomier b.records.items (past_of b.records.items) b.agents b.polls b.polls b.drawn b.begun b.weight _ _ _ c.self.invariant.0 refl (omega (arith, c.reserve.ensures.capacity)),
      record { posted = c.reserve-2.ensures.posted ∙ c.self.invariant.1.posted; room = omega (arith, c.reserve-2.ensures.kept, c.self.invariant.1.room) },
      c.self.invariant.2,
    )

pub invariant_of-self-2 : goal.invariant_of-self-2
invariant_of-self-2 c =
    let b = c.self.inside in
    let here = ap (λ (v : BookFields). v.history) c.self.view_is in
    let may : MayPoll (past_of c.self.inside.records.items) c.args.agent.now = rw here c.in_ok-check_begin.ensures.may in
    let entry = entry_at b.records.items (past_of b.records.items) c.args.agent.now _ c.kept_at-entry.result (c.self.invariant.0.agents_are c.args.agent.now) c.kept_at-entry.ensures in
    let live = end_of b.records.items (past_of b.records.items) c.args.agent.now c.kept_at-entry.result entry may.2.live in
    let idle = idle_of b.records.items (past_of b.records.items) c.args.agent.now c.kept_at-entry.result entry may in
    let up : Updates (slice_cmp nat_cmp) c.self.inside.agents c.note.new.agents c.args.agent.now (Some (polled (c.self.inside.begun + 1) c.args.now c.kept_at-entry.result)) =
    rw (← c.polled.ensures) c.note.ensures.updates in
    let spare : btree_map_len c.put_one.new.kept + btree_map_len c.self.inside.releases ≤ c.reserve-2.new.self.spare =
    omega (arith, c.in-Ok-put_one.ensures.len, c.in-Ok-reserve.ensures.room, c.ends-2.ensures) in
    let book =
    book_begun b.records.items (past_of b.records.items) b.agents c.note.new.agents b.polls c.put_one.new.kept b.drawn b.begun b.weight _ _ _ (b.begun + 1) c.args.agent.now c.args.nonce c.args.now
    c.kept_at-entry.result
    c.self.invariant.0
    refl
    entry
    (current_of b.records.items (past_of b.records.items) c.args.agent.now c.kept_at-entry.result entry live)
    idle
    up
    c.note.ensures.len
    (search rules)
    (search rules)
    (rw here c.in_ok-check_begin.ensures.room)
    (rw here c.in_ok-check_begin.ensures.bytes)
    (omega (arith, c.in-Ok.ensures.ok, c.ends.ensures)) in
    rw (c.push_reserved.ensures.items, c.push_reserved.ensures.capacity, c.reserve.ensures.items) (
      in_order b.records.items _ c.note.new.agents c.put_one.new.kept b.drawn _ b.weight _ _ book,
      told_more b.records.items _ b.outbox _ b.polls c.put_one.new.kept _ _ None refl c.self.invariant.1 c.reserve-2.ensures.posted spare,
      handing_changed b.records.items _ b.agents c.note.new.agents b.releases b.reached b.drawn b.drawn b.made c.self.invariant.2 book.legal refl refl (no_less b.drawn)
          c.args.agent.now c.kept_at-entry.result (polled (b.begun + 1) c.args.now c.kept_at-entry.result) refl c.kept_at-entry.ensures refl refl (λ k is. inl is) up,
    )

pub returns-clause-answer : goal.returns-clause-answer
returns-clause-answer c =
    let b = c.self.inside in
    let here = ap (λ (v : BookFields). v.history) c.self.view_is in
    let may : MayPoll (past_of c.self.inside.records.items) c.args.agent.now = rw here c.in_ok-check_begin.ensures.may in
    let entry = entry_at b.records.items (past_of b.records.items) c.args.agent.now _ c.kept_at-entry.result (c.self.invariant.0.agents_are c.args.agent.now) c.kept_at-entry.ensures in
    rw (← c.self.view_is, c.new.ensures)
    (next_ticket b.records.items (past_of b.records.items) c.args.agent.now c.args.nonce c.args.now (b.begun + 1) c.in_ok-terms.terms c.kept_at-entry.result
    entry
    (end_of b.records.items (past_of b.records.items) c.args.agent.now c.kept_at-entry.result entry may.2.live)
    (idle_of b.records.items (past_of b.records.items) c.args.agent.now c.kept_at-entry.result entry may)
    (rw here c.in_ok-check_begin.ensures.room)
    (rw here c.in_ok-check_begin.ensures.bytes)
    (ap (λ n. n + 1) c.self.invariant.0.begun_is)
    (rw here c.in_ok-terms.ensures.ok))
