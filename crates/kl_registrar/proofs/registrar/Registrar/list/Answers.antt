use Rattle.std.proofs.Common.{List, ℕ, sym, subst}
use Rattle.kl_registrar.specs.Answers.{Lists}
use Rattle.kl_registrar.specs.Calls.{own}
use Rattle.kl_registrar.specs.Records.{Keeps, IsActive}
use Rattle.kl_registrar.proofs.Keeping.{Entries}
use Rattle.kl_registrar.proofs.Listing.{lists_active}
use Rattle.kl_registrar.proofs.registrar.Registrar.list.Goals as goal

pub returns-clause-listed : goal.returns-clause-listed
returns-clause-listed c past keeps =
    subst (λ (ids : List (List ℕ)). Lists (λ id. IsActive (own past id)) ids) (sym c.in_ok-active_ids.ensures.listed)
    (lists_active c.self.inside.records.entries past (subst (λ (es : Entries). Keeps es past) (sym c.self.view_is) keeps)
    c.in_ok-active_ids.ensures.ordered)
