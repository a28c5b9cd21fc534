use Rattle.std.proofs.Common.{◌∙◌, ap, is_some, sym}
use Rattle.kl_exclude.proofs.Engines.{end_of_attempt}
use Rattle.kl_exclude.proofs.front_searcher.FrontSearcher.begins.Goals as goal

pub returns-in-At-clause-found : goal.returns-in-At-clause-found
returns-in-At-clause-found c =
    sym c.in-At.ensures.end.0 ∙ end_of_attempt c.self.inside.program.now _ c.self.view_is c.as_bytes-bytes.result.now _ c.as_bytes-bytes.ensures.value

pub returns-in-NoMatch-clause-found : goal.returns-in-NoMatch-clause-found
returns-in-NoMatch-clause-found c =
    sym (ap is_some c.in-NoMatch.ensures.end) ∙ end_of_attempt c.self.inside.program.now _ c.self.view_is c.as_bytes-bytes.result.now _ c.as_bytes-bytes.ensures.value
