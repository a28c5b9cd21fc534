-- One more entry is measured, extended and looked at.
use Rattle.std.proofs.Common.{◌≡◌, ◌≢◌, ℕ, ◌+◌, ◌<◌, length, take, refl, sym, ap, ◌∙◌, subst, inl, inr, arith, rules}
use Rattle.std.proofs.lemmas.Bool.{cases_lt, false≢true}
use Rattle.kl_policy.specs.Policy.{IsFirstBad}
use Rattle.kl_policy.specs.PolicyFields.{PolicyFields}
use Rattle.kl_appraise.specs.Inner.Listed.{GivesValue, with_next}
use Rattle.kl_appraise.proofs.WalkFacts.{value_more, bad_more}
use Rattle.kl_appraise.proofs.replayed.find_cut.Goals as goal

-- the base alone gives the value
pub returns-then-is_given-clause-found : goal.returns-then-is_given-clause-found
returns-then-is_given-clause-found g c =
    let given = c.is_given.ensures.0 c.if-is_given.true in
    record {
      some = omega (arith, given.0);
      inside = omega arith;
      gives = given.1;
      least = λ m from below. absurd (omega arith);
    }

pub returns-then-is_given-clause-bad : goal.returns-then-is_given-clause-bad
returns-then-is_given-clause-bad g c = λ k d below. absurd (omega arith)

pub loop-i-init : goal.loop-i-init
loop-i-init g c = record {
  value = refl;
  sized = c.requires;
  none = λ n from most gives.
      let last : n ≡ 0 = omega arith in
      let here : c.args.base.now.pcr ≡ c.args.quoted.now = subst (λ (k : ℕ). GivesValue c.args.bank c.args.base.now c.args.entries.now c.args.quoted.now k) last gives in
      let some : 0 < c.args.base.now.count = omega arith in
      false≢true (sym c.if-is_given.false ∙ c.is_given.ensures.1 (some, here));
  bad = λ k d below. absurd (omega arith);
  cost = omega arith;
  same = c.new-judge.ensures;
}

pub returns-then-eq-clause-found : goal.returns-then-eq-clause-found
returns-then-eq-clause-found g c =
    let within : c.loop-i.i < length c.args.entries.now = omega arith in
    let value = value_more c.args.bank c.args.base.now.pcr c.args.entries.now c.loop-i.i c.index-entries-i.result c.loop-i.held c.measured_with.result c.extend-held.result within c.index-entries-i.is
    c.loop-i.invariant.value c.measured_with.ensures.value c.extend-held.ensures.value in
    let same : c.extend-held.result ≡ c.args.quoted.now = search rules in
    record {
      some = omega arith;
      inside = omega arith;
      gives = sym value ∙ same;
      least = λ m from below. c.loop-i.invariant.none m from (omega arith);
    }

pub returns-then-eq-clause-bad : goal.returns-then-eq-clause-bad
returns-then-eq-clause-bad g c =
    let within : c.loop-i.i < length c.args.entries.now = omega arith in
    subst (IsFirstBad c.args.policy.now (take (c.loop-i.i + 1) c.args.entries.now))
    (sym (c.in_ok-bad.ensures.bad ∙ ap (λ (p : PolicyFields). with_next p c.loop-i.bad c.loop-i.i c.index-entries-i.result) c.loop-i.invariant.same))
    (bad_more c.args.policy.now c.args.entries.now c.loop-i.i c.index-entries-i.result c.loop-i.bad within c.index-entries-i.is c.loop-i.invariant.bad)

pub loop-i-preserved : goal.loop-i-preserved
loop-i-preserved g c =
    let within : c.loop-i.i < length c.args.entries.now = omega arith in
    let value = value_more c.args.bank c.args.base.now.pcr c.args.entries.now c.loop-i.i c.index-entries-i.result c.loop-i.held c.measured_with.result c.extend-held.result within c.index-entries-i.is
    c.loop-i.invariant.value c.measured_with.ensures.value c.extend-held.ensures.value in
    let other : c.extend-held.result ≢ c.args.quoted.now = search rules in
    record {
      value = value;
      sized = c.extend-held.ensures.sized;
      none = λ n from most. elim (cases_lt n (c.loop-i.i + 1)) [
        | inl below ↦ c.loop-i.invariant.none n from (omega arith)
        | inr above ↦ let last : n ≡ c.loop-i.i + 1 = omega arith in
            λ gives. other (value ∙ subst (λ (k : ℕ). GivesValue c.args.bank c.args.base.now c.args.entries.now c.args.quoted.now k) last gives)
      ];
      bad = subst (IsFirstBad c.args.policy.now (take (c.loop-i.i + 1) c.args.entries.now))
          (sym (c.in_ok-bad.ensures.bad ∙ ap (λ (p : PolicyFields). with_next p c.loop-i.bad c.loop-i.i c.index-entries-i.result) c.loop-i.invariant.same))
          (bad_more c.args.policy.now c.args.entries.now c.loop-i.i c.index-entries-i.result c.loop-i.bad within c.index-entries-i.is c.loop-i.invariant.bad);
      cost = omega (arith, c.measured_with.ensures.cost, c.loop-i.invariant.cost);
      same = c.first_bad.ensures.same ∙ c.loop-i.invariant.same;
    }
