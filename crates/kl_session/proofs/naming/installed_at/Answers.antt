use Rattle.std.proofs.Common.{Some, ap, sym, ◌∙◌}
use Rattle.kl_appraise.specs.Terms.{TermsFields}
use Rattle.kl_session.proofs.Readings.{record_there}
use Rattle.kl_session.proofs.naming.installed_at.Goals as goal

pub returns-in-Some-Install : goal.returns-in-Some-Install
returns-in-Some-Install c =
    let i = c.in-Some-Install in
    record {
      agent = i.field-0-0;
      generation = i.field-0-1;
      terms = i.terms;
      why = i.field-0-3;
      there = record_there c.args.book.now.history c.args.place _ (sym i.ensures ∙ ap Some i.field-0-is);
      policy = sym (c.policy.ensures ∙ ap (λ (t : TermsFields). t.policy) c.terms.ensures);
    }
