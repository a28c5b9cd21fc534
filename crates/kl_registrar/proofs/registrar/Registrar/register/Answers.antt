use Rattle.std.proofs.Common.{◌≡◌, rules, Err, refl, sym, ◌∙◌}
use Rattle.kl_registrar.specs.declared.fault.RegFault.TheVariants.{Full}
use Rattle.kl_registrar.proofs.Filling.{full_by}
use Rattle.kl_registrar.proofs.registrar.Registrar.register.Goals as goal

pub returns-then-is_full-clause-full : goal.returns-then-is_full-clause-full
returns-then-is_full-clause-full g c past keeps =
    (λ _. (full_by c.args.self.now past c.args.id keeps).0 (c.is_full.ensures.0 c.if-is_full.true), λ _. refl)

pub returns-in_err-blob-clause-full : goal.returns-in_err-blob-clause-full
returns-in_err-blob-clause-full g c past keeps =
    let other : c.from_residual.result ≡ Err Full → ⊥ = search rules in (
      λ is. absurd (other is),
      λ full. cc (sym c.if-is_full.false ∙ c.is_full.ensures.1 ((full_by c.args.self.now past c.args.id keeps).1 full)),
    )

pub returns-in_err-enter-clause-full : goal.returns-in_err-enter-clause-full
returns-in_err-enter-clause-full g c past keeps =
    let other : c.from_residual-in_err-enter.result ≡ Err Full → ⊥ = search rules in (
      λ is. absurd (other is),
      λ full. cc (sym c.if-is_full.false ∙ c.is_full.ensures.1 ((full_by c.args.self.now past c.args.id keeps).1 full)),
    )

pub returns-clause-full : goal.returns-clause-full
returns-clause-full g c past keeps = (
  λ is. cc is,
  λ full. cc (sym c.if-is_full.false ∙ c.is_full.ensures.1 ((full_by c.args.self.now past c.args.id keeps).1 full)),
)
