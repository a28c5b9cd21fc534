use Rattle.std.proofs.Common.{◌≡◌, ℕ, ◌+◌, true, false, List, Option, Some, take, ap, sym, ◌∙◌, subst, refl, arith}
use Rattle.std.proofs.lemmas.List.{take_all}
use Rattle.kl_pcr.specs.declared.statics.Static.{Static}
use Rattle.kl_pcr.specs.Statics.{IsFirstWrong}
use Rattle.kl_pcr.proofs.StaticFacts.{first_wrong-right, first_wrong-wrong}
use Rattle.kl_pcr.proofs.statics.first_wrong.Goals.{then-not-is_allowed, else-not-is_allowed}
use Rattle.kl_pcr.proofs.statics.first_wrong.Goals as goal

pub loop-item-preserved : goal.loop-item-preserved
loop-item-preserved c =
    let P : Option ℕ → Type 0 = λ least. IsFirstWrong c.args.bank c.args.mask c.args.values.now (take (c.loop-item.item-index + 1) c.args.statics.now) least in
    elim c.if-not-is_allowed.branch [
      | then-not-is_allowed w ↦
          subst P (ap Some (sym w.lesser.ensures) ∙ sym w.least-is)
          (first_wrong-wrong c.args.bank c.args.mask c.args.values.now c.args.statics.now c.loop-item.item-index c.item-item.result c.loop-item.least
          (omega arith) c.item-item.is c.loop-item.invariant
          (λ allowed. let wrong : false ≡ true = w.if-not-is_allowed.ensures.1 allowed in cc))
      | else-not-is_allowed w ↦
          subst P (sym w.least-is)
          (first_wrong-right c.args.bank c.args.mask c.args.values.now c.args.statics.now c.loop-item.item-index c.item-item.result c.loop-item.least
          (omega arith) c.item-item.is c.loop-item.invariant (w.if-not-is_allowed.ensures.0 refl))
    ]

pub returns : goal.returns
returns c =
    let P : List Static → Type 0 = λ xs. IsFirstWrong c.args.bank c.args.mask c.args.values.now xs c.loop-item.least in
    subst P (take_all c.loop-item.item-index c.args.statics.now c.loop-item-test.false) c.loop-item.invariant
