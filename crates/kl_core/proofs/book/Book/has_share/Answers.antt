use Rattle.std.proofs.Common.{rules}
use Rattle.kl_history.specs.Records.{past_of}
use Rattle.kl_core.specs.Inner.Handing.{IsHanded}
use Rattle.kl_core.proofs.Settled.{Matches, share_of, parts_of}
use Rattle.kl_core.proofs.book.Book.has_share.Goals as goal

pub returns-then-handed-poll : goal.returns-then-handed-poll
returns-then-handed-poll c =
    let h = c.in-Some.handed in
    let s = c.args.share.now in
    let H = c.args.self.now.history in
    let held : IsHanded H (past_of H) s.number h = rw (← c.number.ensures) c.in-Some.ensures in
    let same : Matches h s = record { agent = search rules; generation = search rules; poll = search rules } in
    (λ is. share_of H (past_of H) s h held same (c.has_parts.ensures.0 is), λ is. c.has_parts.ensures.1 (parts_of H (past_of H) s h held is.1))
