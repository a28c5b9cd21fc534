use Rattle.std.proofs.Common.{◌∙◌}
use Rattle.kl_exclude.proofs.Engines.{match_of_attempt}
use Rattle.kl_exclude.proofs.front_searcher.FrontSearcher.runs.Goals as goal

pub returns-clause-found : goal.returns-clause-found
returns-clause-found c =
    c.is_match.ensures.found ∙ match_of_attempt c.self.inside.program.now _ c.self.view_is c.as_bytes-bytes.result.now _ c.as_bytes-bytes.ensures.value
