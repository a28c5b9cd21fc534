use Rattle.std.proofs.Common.{◌+◌, Option, is_some, if◌then◌else◌, length, refl, sym, ap, subst, ◌∙◌}
use Rattle.kl_registrar.specs.declared.record.RegRecord.{RegRecord}
use Rattle.kl_registrar.specs.Records.{Keeps}
use Rattle.kl_registrar.proofs.Answering.{none_registered, not_none}
use Rattle.kl_registrar.proofs.Keeping.{Entries, keeps_remove}
use Rattle.kl_registrar.proofs.registrar.Registrar.remove.Goals as goal

pub returns-in_default-clause-no_agent : goal.returns-in_default-clause-no_agent
returns-in_default-clause-no_agent c past keeps =
    let kept : Keeps c.self.inside.records.entries past = subst (λ (es : Entries). Keeps es past) (sym c.self.view_is) keeps in
    (λ _. none_registered c.self.inside.records.entries past c.args.id.now kept (sym c.remove.ensures.value ∙ c.in_default.is), λ _. refl)

pub returns-clause-done : goal.returns-clause-done
returns-clause-done c past keeps =
    let kept : Keeps c.self.inside.records.entries past = subst (λ (es : Entries). Keeps es past) (sym c.self.view_is) keeps in
    keeps_remove c.self.inside.records.entries c.remove.new.self.entries past c.args.id.now kept
    (ap is_some (sym c.remove.ensures.value ∙ c.in-Some.is)) c.remove.ensures.updates.0
    (ap (λ (o : Option RegRecord). length c.remove.new.self.entries + (if is_some o then 1 else 0)) (sym c.in-Some.is) ∙ c.remove.ensures.len)

pub returns-clause-no_agent : goal.returns-clause-no_agent
returns-clause-no_agent c past keeps =
    let kept : Keeps c.self.inside.records.entries past = subst (λ (es : Entries). Keeps es past) (sym c.self.view_is) keeps in (
      λ bad. cc bad,
      λ none. absurd (not_none c.self.inside.records.entries past c.args.id.now c.in-Some.record kept (sym c.remove.ensures.value ∙ c.in-Some.is) none),
    )
