use Rattle.std.proofs.Common.{rules, ◌≡◌, ◌∙◌, [], reverse, refl, ap, sym, subst}
use Rattle.std.proofs.lemmas.List.{reverse-reverse}
use Rattle.kl_states.specs.declared.outcome.DropWhy.TheVariants.{End}
use Rattle.kl_history.specs.declared.record.Record.TheVariants.{Dropped}
use Rattle.kl_history.specs.Legal.{Legal}
use Rattle.kl_core.specs.Books.{BookFields}
use Rattle.kl_session.proofs.Opened.{tickets, Ending, next_ending, ends_none, ends_more, ends_all, head_opened}
use Rattle.kl_session.proofs.closing.drop_all.Goals as goal

pub loop-ticket-init : goal.loop-ticket-init
loop-ticket-init c =
    let same = ap reverse c.turned-row.ensures ∙ reverse-reverse c.args.tickets.items in
    subst (Ending tickets (λ p. Dropped p End) c.args.book.now c.args.book.now c.args.tickets.items) (sym same)
    (ends_none tickets (λ p. Dropped p End) c.args.book.now c.args.tickets.items c.requires)

pub drop_own-requires : goal.drop_own-requires
drop_own-requires c =
    (head_opened tickets (λ p. Dropped p End) c.args.book.now c.loop-ticket.book c.args.tickets.items (reverse c.pop.new.self.items) c.in-Some.ticket
    (next_ending tickets (λ p. Dropped p End) c.args.book.now c.loop-ticket.book c.args.tickets.items c.loop-ticket.row.items c.pop.new.self.items c.in-Some.ticket
    c.in-Some.ensures.items c.loop-ticket.invariant)).1

pub unreachable-requires : goal.unreachable-requires
unreachable-requires c =
    let opened = (head_opened tickets (λ p. Dropped p End) c.args.book.now c.loop-ticket.book c.args.tickets.items (reverse c.pop.new.self.items) c.in-Some.ticket
    (next_ending tickets (λ p. Dropped p End) c.args.book.now c.loop-ticket.book c.args.tickets.items c.loop-ticket.row.items c.pop.new.self.items c.in-Some.ticket
    c.in-Some.ensures.items c.loop-ticket.invariant)).0 in
    let closed = c.in-Err.ensures.answer.0 in
    cc

pub loop-ticket-preserved : goal.loop-ticket-preserved
loop-ticket-preserved c =
    subst (λ b. Ending tickets (λ p. Dropped p End) c.args.book.now b c.args.tickets.items (reverse c.pop.new.self.items)) (sym c.in-Ok.ensures.history)
    (ends_more tickets (λ p. Dropped p End) c.args.book.now c.loop-ticket.book c.args.tickets.items (reverse c.pop.new.self.items) c.in-Some.ticket
    (record { opens_none = λ q. refl; closes_it = λ q. refl })
    (subst (λ (b : BookFields). Legal b.history) c.in-Ok.ensures.history c.len-len.ensures.legal)
    (next_ending tickets (λ p. Dropped p End) c.args.book.now c.loop-ticket.book c.args.tickets.items c.loop-ticket.row.items c.pop.new.self.items c.in-Some.ticket
    c.in-Some.ensures.items c.loop-ticket.invariant))

pub returns-clause-dropped : goal.returns-clause-dropped
returns-clause-dropped c =
    let none : c.loop-ticket.row.items ≡ [] = search rules in
    ends_all tickets (λ p. Dropped p End) c.args.book.now c.loop-ticket.book c.args.tickets.items c.requires
    (subst (λ row. Ending tickets (λ p. Dropped p End) c.args.book.now c.loop-ticket.book c.args.tickets.items (reverse row)) none c.loop-ticket.invariant)
