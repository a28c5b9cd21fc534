use Rattle.kl_core.specs.Books.{BookFields}
use Rattle.std.proofs.Common.{rules, ◌+◌, length, arith, ap, refl}
use Rattle.std.proofs.lemmas.Option.{none-some}
use Rattle.std.proofs.Common.{Some}
use Rattle.std.specs.BTreeMap.{Updates}
use Rattle.std.specs.Ordering.{nat_cmp}
use Rattle.std.specs.Cmp.Lexicographic.{slice_cmp}
use Rattle.kl_history.specs.Records.{past_of}
use Rattle.kl_agents.specs.Steps.{renewed}
use Rattle.kl_core.proofs.Standing.{entry_at}
use Rattle.kl_core.proofs.Growing.{in_order, book_reactivated}
use Rattle.kl_core.proofs.Downfalls.{told_on}
use Rattle.kl_core.proofs.Holding.{one_less, handing_changed, kept_of, terms_of_entry}
use Rattle.kl_core.proofs.book.Book.reactivate.Goals as goal

pub kept_at-entry-requires : goal.kept_at-entry-requires
kept_at-entry-requires c =
    let b = c.self.inside in
    let here = ap (λ (v : BookFields). v.history) c.self.view_is in
    kept_of b.records.items (past_of b.records.items) c.args.agent.now _ (c.self.invariant.0.agents_are c.args.agent.now) (rw here c.in_ok-check_reactivate.ensures.installed)

pub share_terms-requires : goal.share_terms-requires
share_terms-requires c =
    let b = c.self.inside in
    let here = ap (λ (v : BookFields). v.history) c.self.view_is in
    let entry = entry_at b.records.items (past_of b.records.items) c.args.agent.now _ c.kept_at-entry.result (c.self.invariant.0.agents_are c.args.agent.now) c.kept_at-entry.ensures in
    rw (← here) (terms_of_entry b.records.items (past_of b.records.items) c.args.agent.now c.kept_at-entry.result entry)

pub invariant_of-self-2 : goal.invariant_of-self-2
invariant_of-self-2 c =
    let b = c.self.inside in
    let here = ap (λ (v : BookFields). v.history) c.self.view_is in
    let entry = entry_at b.records.items (past_of b.records.items) c.args.agent.now _ c.kept_at-entry.result (c.self.invariant.0.agents_are c.args.agent.now) c.kept_at-entry.ensures in
    let up : Updates (slice_cmp nat_cmp) c.self.inside.agents c.renew.new.agents c.args.agent.now (Some (renewed (c.self.inside.drawn + 1) (length c.self.inside.records.items) c.kept_at-entry.result)) = search rules in
    let book =
    book_reactivated b.records.items (past_of b.records.items) b.agents c.renew.new.agents b.polls b.drawn b.begun b.weight _ _ _ c.args.agent.now c.in_ok-terms.terms c.kept_at-entry.result
    c.self.invariant.0
    entry
    (rw here c.in_ok-terms.ensures.ok)
    up
    c.renew.ensures.len
    (rw here c.in_ok-check_reactivate.ensures.room)
    (omega (arith, c.in-Ok.ensures.ok, c.ends.ensures)) in
    rw (c.push_reserved.ensures.items, c.push_reserved.ensures.capacity, c.reserve.ensures.items) (
      in_order b.records.items _ c.renew.new.agents b.polls _ b.begun b.weight _ _ book,
      told_on b.records.items _ b.outbox b.polls _ refl c.self.invariant.1,
      handing_changed b.records.items _ b.agents c.renew.new.agents b.releases b.reached b.drawn (b.drawn + 1) b.made c.self.invariant.2 book.legal refl refl (one_less b.drawn)
          c.args.agent.now c.kept_at-entry.result (renewed (b.drawn + 1) (length b.records.items) c.kept_at-entry.result) refl c.kept_at-entry.ensures refl refl
          (λ k is. absurd (none-some k is)) up,
    )
