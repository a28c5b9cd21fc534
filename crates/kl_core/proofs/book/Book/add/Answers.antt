use Rattle.kl_core.specs.Books.{BookFields}
use Rattle.std.proofs.Common.{rules, ◌+◌, None, Some, length, arith, refl, ap}
use Rattle.std.specs.Prelude.{is_some}
use Rattle.std.specs.BTreeMap.{Updates}
use Rattle.std.specs.Ordering.{nat_cmp}
use Rattle.std.specs.Cmp.Lexicographic.{slice_cmp}
use Rattle.kl_history.specs.Records.{past_of}
use Rattle.kl_history.specs.declared.record.InstallWhy.TheVariants.{Add}
use Rattle.kl_agents.specs.Steps.{fresh}
use Rattle.kl_core.proofs.Growing.{in_order, book_installed, book_restored, book_same_agents}
use Rattle.kl_core.proofs.Downfalls.{told_on}
use Rattle.kl_core.proofs.Holding.{handing_added, handing_restored, handing_same_agents}
use Rattle.kl_core.proofs.book.Book.add.Goals as goal

pub invariant_of-self-in-Err-new : goal.invariant_of-self-in-Err-new
invariant_of-self-in-Err-new c =
    let b = c.self.inside in
    let here = ap (λ (v : BookFields). v.history) c.self.view_is in
    rw c.reserve.ensures.items (
      book_restored b.records.items (past_of b.records.items) b.agents c.put_fresh.new.agents c.take_out.new.agents b.polls b.drawn b.begun b.weight _ _ _ c.args.agent _ c.self.invariant.0
          (search rules)
          c.in-Ok-put_fresh.ensures.updates
          c.take_out.ensures.updates
          (omega (arith, c.in-Ok-put_fresh.ensures.len, c.take_out.ensures.len))
          (omega (arith, c.in-Ok.ensures.ok, c.ends.ensures, c.self.invariant.0.room)),
      c.self.invariant.1,
      handing_restored b.records.items (past_of b.records.items) b.agents c.put_fresh.new.agents c.take_out.new.agents b.releases b.reached b.drawn b.made c.args.agent _ c.self.invariant.2
          c.in-Ok-put_fresh.ensures.updates c.take_out.ensures.updates,
    )

pub invariant_of-self-2 : goal.invariant_of-self-2
invariant_of-self-2 c =
    let b = c.self.inside in
    let here = ap (λ (v : BookFields). v.history) c.self.view_is in
    let up : Updates (slice_cmp nat_cmp) c.self.inside.agents c.put_fresh.new.agents c.args.agent (Some (fresh (c.self.inside.drawn + 1) (length c.self.inside.records.items) (is_some c.args.terms.v))) = search rules in
    let book =
    book_installed b.records.items (past_of b.records.items) b.agents c.put_fresh.new.agents b.polls b.drawn b.begun b.weight _ _ _ (b.drawn + 1) c.args.agent c.args.terms Add
    (b.drawn + 1) None
    c.self.invariant.0
    refl
    (rw here c.in-None.ensures.may)
    up
    (omega (arith, c.in-Ok-put_fresh.ensures.len, c.self.invariant.0.agents_counted))
    (rw here c.in-None.ensures.room)
    (rw here c.in-None.ensures.bytes)
    (omega (arith, c.in-Ok.ensures.ok, c.ends.ensures)) in
    rw (c.push_reserved.ensures.items, c.push_reserved.ensures.capacity, c.reserve.ensures.items, c.in-Ok-new.ensures.ok, c.source.ensures, c.policy.ensures) (
      in_order b.records.items _ c.put_fresh.new.agents b.polls _ b.begun _ _ _ book,
      told_on b.records.items _ b.outbox b.polls _ refl c.self.invariant.1,
      handing_added b.records.items c.args.agent (b.drawn + 1) c.args.terms b.agents c.put_fresh.new.agents b.releases b.reached b.drawn b.made
          (fresh (b.drawn + 1) (length b.records.items) (is_some c.args.terms.v)) c.self.invariant.2 book.legal refl refl refl up,
    )

pub invariant_of-self-in-Err-put_fresh : goal.invariant_of-self-in-Err-put_fresh
invariant_of-self-in-Err-put_fresh c =
    let b = c.self.inside in
    rw c.reserve.ensures.items (
      book_same_agents b.records.items (past_of b.records.items) b.agents c.put_fresh.new.agents b.polls b.drawn b.begun b.weight _ _ _ c.self.invariant.0 c.in-Err-put_fresh.ensures.same
          (omega (arith, c.reserve.ensures.capacity, c.self.invariant.0.room)),
      c.self.invariant.1,
      handing_same_agents b.records.items (past_of b.records.items) b.agents c.put_fresh.new.agents b.releases b.reached b.drawn b.made c.self.invariant.2 c.in-Err-put_fresh.ensures.same,
    )
