use Rattle.std.proofs.Common.{rules, ◌≡◌, ◌≢◌, true, false, List, AllPairs, subst, refl, arith}
use Rattle.std.proofs.lemmas.List.{take_all}
use Rattle.kl_pcr.specs.declared.statics.Static.{Static}
use Rattle.kl_pcr.proofs.StaticFacts.{once_more, not_once}
use Rattle.kl_pcr.proofs.statics.stand_once.Goals as goal

pub returns-then-stand_before : goal.returns-then-stand_before
returns-then-stand_before c =
    let twice = not_once c.args.statics.now c.loop-i.i c.index-statics-i.result (omega arith) c.index-statics-i.is (c.if-stand_before.ensures.0 refl) in
    (search rules, λ once. absurd (twice once))

pub loop-i-preserved : goal.loop-i-preserved
loop-i-preserved c =
    once_more c.args.statics.now c.loop-i.i c.index-statics-i.result (omega arith) c.index-statics-i.is c.loop-i.invariant
    (λ named. let wrong : false ≡ true = c.if-stand_before.ensures.1 named in cc)

pub returns : goal.returns
returns c =
    let P : List Static → Type 0 = λ xs. AllPairs (λ s t. s.pcr ≢ t.pcr) xs in
    (λ _. subst P (take_all c.loop-i.i c.args.statics.now c.loop-i-test.false) c.loop-i.invariant, λ _. refl)
