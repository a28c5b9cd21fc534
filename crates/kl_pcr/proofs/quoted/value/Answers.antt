-- The value stands within the values, and where they stand in the order of their PCRs it is the PCR's.
use Rattle.std.proofs.Common.{◌≡◌, ℕ, ◌+◌, ◌*◌, ◌≤◌, List, length, refl, rules, subst}
use Rattle.std.specs.Prelude.{IfSome}
use Rattle.kl_bank.specs.Banks.{size_of}
use Rattle.kl_pcr.specs.Values.{value_at}
use Rattle.kl_pcr.proofs.MaskFacts.{value_fits}
use Rattle.kl_pcr.proofs.SelectionFacts.{held_at}
use Rattle.kl_pcr.proofs.quoted.value.Goals as goal

pub slice_bounds-digest-end : goal.slice_bounds-digest-end
slice_bounds-digest-end c =
    let selected = c.if-not-selects.ensures.selected.0 refl in
    let fits : c.size-size.result * c.lower.result + c.size-size.result ≤ length c.args.values.now =
    rw (c.size-size.ensures, c.lower.ensures) (value_fits (size_of c.args.bank) c.args.mask c.args.n (length c.args.values.now) selected c.requires) in
    fits

pub returns-clause-in_order : goal.returns-clause-in_order
returns-clause-in_order c held even same =
    let found : IfSome c.digest.result (λ digest. digest ≡ value_at c.args.bank c.args.mask c.args.values.now c.args.n) = search rules in
    let is = held_at c.args.bank c.args.mask held even c.args.values.now same c.args.n (c.if-not-selects.ensures.below refl) (c.if-not-selects.ensures.selected.0 refl) in
    subst (λ (v : List ℕ). IfSome c.digest.result (λ digest. digest ≡ v)) is found
