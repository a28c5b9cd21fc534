use Rattle.std.proofs.Common.{sym, ap, ◌∙◌}
use Rattle.std.specs.Option.{option_copied}
use Rattle.kl_registrar.proofs.Keeping.{keeps_activate}
use Rattle.kl_registrar.proofs.registrar.Registrar.activate.Goals as goal

pub returns-clause-done : goal.returns-clause-done
returns-clause-done c past keeps =
    keeps_activate c.args.self.now c.mark.new.self past c.args.id.now c.args.tag.now c.in-Some.record.now keeps
    (sym c.find.ensures ∙ ap option_copied c.in-Some.is) (c.is_tag.ensures.0 c.if-not-is_tag.false) c.mark.ensures
