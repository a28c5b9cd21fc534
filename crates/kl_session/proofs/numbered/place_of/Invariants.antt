use Rattle.std.proofs.Common.{◌≢◌, take, All}
use Rattle.kl_session.proofs.numbered.place_of.Given as goal

abbrev pub invariant-loop-place : goal.invariant-loop-place
invariant-loop-place g l = All (λ t. g.T.Numbered.number_of t ≢ l.number) (take l.place l.kept)
