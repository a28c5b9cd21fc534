use Rattle.kl_session.proofs.Moments.{and_on}
use Rattle.kl_session.proofs.GoingOn.{does_on, follows_on, dry_on, does_grow, follows_grow, lacked_before}
use Rattle.kl_session.proofs.OneStep.{front_faultless, rest_faultless}
use Rattle.kl_session.proofs.unique.later_moments.Goals as goal

pub returns : goal.returns
returns c = record {
  does = λ o o' s command s' line h. (does_on o o' s command s' line h, does_grow o o' s command s' line h);
  follows = λ o o' s commands lines last h. (follows_on o o' s commands lines last h, follows_grow o o' s commands lines last h);
  dry = dry_on;
  both = and_on;
  front = front_faultless;
  rest = rest_faultless;
  unwanting = lacked_before;
}
