use Rattle.std.proofs.Common.{sym, subst}
use Rattle.regex.specs.Strings.{regex_source, matcher_pattern}
use Rattle.kl_exclude.specs.Inner.Joined.{StandsFor}
use Rattle.kl_exclude.proofs.pattern.Pattern.matcher.Goals as goal

pub returns : goal.returns
returns c =
    let regex = c.self.inside.regex in
    let searched = subst (StandsFor (regex_source regex)) (sym c.in_ok-matcher.ensures.pattern) c.self.invariant in
    subst (λ text. StandsFor text (matcher_pattern c.in_ok-matcher.matcher)) c.self.view_is searched
