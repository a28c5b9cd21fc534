use Rattle.std.proofs.Common.{IfSome}
use Rattle.kl_appraise.specs.Kept.{IsKept}
use Rattle.kl_tests_sessions.proofs.appraise.a_list_is_continued.Given as goal

abbrev pub ghosts-replied : goal.ghosts-replied
ghosts-replied g a = record { name = a.blank.name; parts = a.blank.parts }

abbrev pub invariant-loop-reply : goal.invariant-loop-reply
invariant-loop-reply g l = IfSome l.kept (λ kept. IsKept l.terms.bank kept)
