use Rattle.kl_core.specs.Books.{BookFields}
use Rattle.std.proofs.Common.{rules, arith, ap, refl}
use Rattle.kl_history.specs.Records.{past_of}
use Rattle.kl_core.proofs.Growing.{in_order, book_removed}
use Rattle.kl_core.proofs.Downfalls.{told_on}
use Rattle.kl_core.proofs.Holding.{no_less, handing_removed}
use Rattle.kl_core.proofs.book.Book.remove.Goals as goal

pub invariant_of-self-2 : goal.invariant_of-self-2
invariant_of-self-2 c =
    let b = c.self.inside in
    let here = ap (λ (v : BookFields). v.history) c.self.view_is in
    let book =
    book_removed b.records.items (past_of b.records.items) b.agents c.take_out.new.agents b.polls b.drawn b.begun b.weight _ _ _ c.args.agent.now
    c.self.invariant.0
    (rw here (search rules))
    c.take_out.ensures.updates
    c.take_out.ensures.len
    (rw here (search rules))
    (omega (arith, c.in-Ok.ensures.ok, c.ends.ensures)) in
    rw (c.push_reserved.ensures.items, c.push_reserved.ensures.capacity, c.reserve.ensures.items) (
      in_order b.records.items _ c.take_out.new.agents b.polls b.drawn b.begun b.weight _ _ book,
      told_on b.records.items _ b.outbox b.polls _ refl c.self.invariant.1,
      handing_removed b.records.items _ b.agents c.take_out.new.agents b.releases b.reached b.drawn b.drawn b.made c.self.invariant.2 book.legal refl refl (no_less b.drawn)
          c.args.agent.now refl c.take_out.ensures.updates,
    )
