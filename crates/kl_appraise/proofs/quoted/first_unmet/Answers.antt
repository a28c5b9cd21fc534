-- Which of the rules on what was signed is the first that is not met.
use Rattle.std.proofs.Common.{◌≡◌, ◌≢◌, ℕ, ◌*◌, count_ones, refl, sym, ap, ◌∙◌}
use Rattle.std.proofs.lemmas.Bool.{false≢true}
use Rattle.sha2.specs.Sha256.{sha256}
use Rattle.kl_attest.specs.Views.{view}
use Rattle.kl_pcr.specs.Values.{binding_of}
use Rattle.kl_appraise.specs.Inner.Checked.{check_for}
use Rattle.kl_appraise.proofs.QuoteFacts.{same_bytes, other_bytes, by_selection, by_length, by_digest, by_binding}
use Rattle.kl_appraise.proofs.quoted.first_unmet.Goals as goal

pub returns-then-not-selects-clause-found : goal.returns-then-not-selects-clause-found
returns-then-not-selects-clause-found c = λ signed.
    let nonce : c.args.read.now.extra.now ≡ c.args.wanted.now.nonce.now = same_bytes _ _ _ c.ne.ensures c.if-ne.false ∙ c.as_bytes.ensures.value ∙ c.as_str.ensures.value in
    by_selection (check_for c.args.wanted.now c.args.evidence.now signed) (view c.args.read.now) c.requires.attests nonce
    (λ set. false≢true (sym c.if-not-selects.true ∙ c.selects.ensures.1 set))

pub returns-then-values-size-clause-found : goal.returns-then-values-size-clause-found
returns-then-values-size-clause-found c = λ signed.
    let nonce : c.args.read.now.extra.now ≡ c.args.wanted.now.nonce.now = same_bytes _ _ _ c.ne.ensures c.if-ne.false ∙ c.as_bytes.ensures.value ∙ c.as_str.ensures.value in
    by_length (check_for c.args.wanted.now c.args.evidence.now signed) (view c.args.read.now) c.args.values.now c.requires.attests c.requires.values nonce
    (c.selects.ensures.0 c.if-not-selects.false)
    (λ e. c.if-values-size.true (e ∙ ap (λ (n : ℕ). n * count_ones c.args.wanted.now.mask) (sym c.size.ensures)))

pub returns-then-ne-2-clause-found : goal.returns-then-ne-2-clause-found
returns-then-ne-2-clause-found c = λ signed.
    let nonce : c.args.read.now.extra.now ≡ c.args.wanted.now.nonce.now = same_bytes _ _ _ c.ne.ensures c.if-ne.false ∙ c.as_bytes.ensures.value ∙ c.as_str.ensures.value in
    let other : c.args.read.now.pcr_digest.now ≢ sha256 c.args.values.now = λ e. other_bytes _ _ _ c.ne-2.ensures c.if-ne-2.true (e ∙ sym (c.as_slice.ensures ∙ c.pcr_digest.ensures)) in
    by_digest (check_for c.args.wanted.now c.args.evidence.now signed) (view c.args.read.now) c.args.values.now c.requires.attests c.requires.values nonce
    (c.selects.ensures.0 c.if-not-selects.false)
    (c.if-values-size.false ∙ ap (λ (n : ℕ). n * count_ones c.args.wanted.now.mask) c.size.ensures)
    other

pub returns-then-not-is_bound-clause-found : goal.returns-then-not-is_bound-clause-found
returns-then-not-is_bound-clause-found c = λ signed.
    let nonce : c.args.read.now.extra.now ≡ c.args.wanted.now.nonce.now = same_bytes _ _ _ c.ne.ensures c.if-ne.false ∙ c.as_bytes.ensures.value ∙ c.as_str.ensures.value in
    let digest : c.args.read.now.pcr_digest.now ≡ sha256 c.args.values.now = same_bytes _ _ _ c.ne-2.ensures c.if-ne-2.false ∙ c.as_slice.ensures ∙ c.pcr_digest.ensures in
    by_binding (check_for c.args.wanted.now c.args.evidence.now signed) (view c.args.read.now) c.args.values.now c.requires.attests c.requires.values nonce
    (c.selects.ensures.0 c.if-not-selects.false)
    (c.if-values-size.false ∙ ap (λ (n : ℕ). n * count_ones c.args.wanted.now.mask) c.size.ensures)
    digest
    (λ e. false≢true (sym c.if-not-is_bound.true ∙ c.is_bound.ensures.1 (e ∙ ap (binding_of c.args.wanted.now.bank) (sym c.as_str-2.ensures))))

pub returns-clause-none : goal.returns-clause-none
returns-clause-none c = record {
  attests = c.requires.attests;
  has_values = c.requires.values;
  bank = c.requires.bank;
  signed = refl;
  nonce = same_bytes _ _ _ c.ne.ensures c.if-ne.false ∙ c.as_bytes.ensures.value ∙ c.as_str.ensures.value;
  selection = c.selects.ensures.0 c.if-not-selects.false;
  sized = c.if-values-size.false ∙ ap (λ (n : ℕ). n * count_ones c.args.wanted.now.mask) c.size.ensures;
  digest = same_bytes _ _ _ c.ne-2.ensures c.if-ne-2.false ∙ c.as_slice.ensures ∙ c.pcr_digest.ensures;
  binding = c.is_bound.ensures.0 c.if-not-is_bound.false ∙ ap (binding_of c.args.wanted.now.bank) c.as_str-2.ensures;
}
