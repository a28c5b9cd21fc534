use Rattle.kl_core.specs.Books.{past}
use Rattle.kl_core.proofs.Giving.{gives}
use Rattle.kl_core.proofs.book.Book.release.Goals as goal

pub returns-clause-answer : goal.returns-clause-answer
returns-clause-answer c =
    rw c.new.ensures
    (gives c.args.self.now.history (past c.args.self.now) c.ready-handed.result c.ready-handed.ensures.ready c.args.agent.now c.in_ok-number.number c.in_ok-v.v c.in_ok-v.public c.in_ok-v.contact
    c.ready-handed.ensures.agent c.in_ok-number.ensures.number c.in_ok-check_release.ensures.room c.in_ok-v.ensures.v c.in_ok-v.ensures.public c.in_ok-v.ensures.contact)
