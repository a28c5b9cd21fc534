use Rattle.std.proofs.Common.{rules, ◌≡◌, ◌∙◌, ap, sym}
use Rattle.std.proofs.lemmas.Slice.Eq.{slice_eq-Decides, bytes_eq-Decides}
use Rattle.kl_pcr.specs.declared.statics.Static.{Static}
use Rattle.kl_appraise.proofs.terms.changed.same_static.Goals as goal

pub returns-then-one-other : goal.returns-then-one-other
returns-then-one-other c =
    let decides = slice_eq-Decides bytes_eq-Decides c.as_slice.result.now c.as_slice-then-one-other.result.now c.eq.result c.eq.ensures in (
      λ is.
          let allowed = sym c.as_slice.ensures ∙ decides.0 is ∙ c.as_slice-then-one-other.ensures in
          ap (λ n. record { pcr = n; allowed = c.args.one.now.allowed }) c.if-one-other.true ∙ ap (λ ds. record { pcr = c.args.other.now.pcr; allowed = ds }) allowed,
      λ same. decides.1 (c.as_slice.ensures ∙ ap (λ (s : Static). s.allowed) same ∙ sym c.as_slice-then-one-other.ensures),
    )
