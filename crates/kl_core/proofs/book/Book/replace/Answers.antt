use Rattle.kl_core.specs.Books.{BookFields}
use Rattle.std.proofs.Common.{rules, ◌+◌, length, refl, arith, ap}
use Rattle.std.proofs.lemmas.Option.{none-some}
use Rattle.kl_agents.specs.Steps.{renewed}
use Rattle.kl_core.proofs.Standing.{entry_at}
use Rattle.kl_core.proofs.Holding.{one_less, handing_changed, kept_of, terms_of_entry}
use Rattle.std.proofs.Common.{Some}
use Rattle.std.specs.BTreeMap.{Updates}
use Rattle.std.specs.Ordering.{nat_cmp}
use Rattle.std.specs.Cmp.Lexicographic.{slice_cmp}
use Rattle.kl_history.specs.Records.{past_of}
use Rattle.kl_core.proofs.Growing.{in_order, book_changed, book_roomier}
use Rattle.kl_core.proofs.Downfalls.{told_on}
use Rattle.kl_core.proofs.book.Book.replace.Goals as goal

pub kept_at-entry-requires : goal.kept_at-entry-requires
kept_at-entry-requires c =
    let b = c.self.inside in
    let here = ap (λ (v : BookFields). v.history) c.self.view_is in
    kept_of b.records.items (past_of b.records.items) c.args.agent.now _ (c.self.invariant.0.agents_are c.args.agent.now) (rw here c.in-Ok.ensures.installed)

pub changed_terms-requires : goal.changed_terms-requires
changed_terms-requires c =
    let b = c.self.inside in
    let here = ap (λ (v : BookFields). v.history) c.self.view_is in
    let entry = entry_at b.records.items (past_of b.records.items) c.args.agent.now _ c.kept_at-entry.result (c.self.invariant.0.agents_are c.args.agent.now) c.kept_at-entry.ensures in
    rw c.reserve.ensures.items (terms_of_entry b.records.items (past_of b.records.items) c.args.agent.now c.kept_at-entry.result entry)

pub invariant_of-self-3 : goal.invariant_of-self-3
invariant_of-self-3 c =
    let b = c.self.inside in
    let here = ap (λ (v : BookFields). v.history) c.self.view_is in
    let entry = entry_at b.records.items (past_of b.records.items) c.args.agent.now _ c.kept_at-entry.result (c.self.invariant.0.agents_are c.args.agent.now) c.kept_at-entry.ensures in
    let up : Updates (slice_cmp nat_cmp) c.self.inside.agents c.renew.new.agents c.args.agent.now (Some (renewed (c.self.inside.drawn + 1) (length c.self.inside.records.items) c.kept_at-entry.result)) = search rules in
    let book =
    book_changed b.records.items (past_of b.records.items) b.agents c.renew.new.agents b.polls b.drawn b.begun b.weight _ _ _ c.args.agent.now c.in-Ok-changed_terms.terms c.args.policy c.kept_at-entry.result
    c.self.invariant.0
    entry
    (rw (← c.reserve.ensures.items) c.in-Ok-changed_terms.ensures.ok)
    up
    c.renew.ensures.len
    (rw here c.in-Ok.ensures.room)
    (rw here c.in-Ok.ensures.bytes)
    (omega (arith, c.in-Ok-reserve.ensures.ok, c.ends.ensures)) in
    rw (c.push_reserved.ensures.items, c.push_reserved.ensures.capacity, c.reserve.ensures.items, c.source.ensures) (
      in_order b.records.items _ c.renew.new.agents b.polls _ b.begun _ _ _ book,
      told_on b.records.items _ b.outbox b.polls _ refl c.self.invariant.1,
      handing_changed b.records.items _ b.agents c.renew.new.agents b.releases b.reached b.drawn (b.drawn + 1) b.made c.self.invariant.2 book.legal refl refl (one_less b.drawn)
          c.args.agent.now c.kept_at-entry.result (renewed (b.drawn + 1) (length b.records.items) c.kept_at-entry.result) refl c.kept_at-entry.ensures refl refl
          (λ k is. absurd (none-some k is)) up,
    )

pub invariant_of-self-2 : goal.invariant_of-self-2
invariant_of-self-2 c =
    let b = c.self.inside in
    let here = ap (λ (v : BookFields). v.history) c.self.view_is in
    rw c.reserve.ensures.items
    (book_roomier b.records.items (past_of b.records.items) b.agents b.polls b.polls b.drawn b.begun b.weight _ _ _ c.self.invariant.0 refl (omega (arith, c.reserve.ensures.capacity, c.self.invariant.0.room)), c.self.invariant.1, c.self.invariant.2)

pub invariant_of-self-in-Err-changed_terms : goal.invariant_of-self-in-Err-changed_terms
invariant_of-self-in-Err-changed_terms c =
    let b = c.self.inside in
    let here = ap (λ (v : BookFields). v.history) c.self.view_is in
    rw c.reserve.ensures.items
    (book_roomier b.records.items (past_of b.records.items) b.agents b.polls b.polls b.drawn b.begun b.weight _ _ _ c.self.invariant.0 refl (omega (arith, c.reserve.ensures.capacity, c.self.invariant.0.room)), c.self.invariant.1, c.self.invariant.2)
