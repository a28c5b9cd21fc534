-- The entries so far are allowed, under this policy.
use Rattle.std.proofs.Common.{◌≡◌, take, All}
use Rattle.kl_policy.specs.Policy.{Allows}
use Rattle.kl_policy.proofs.policy.Policy.first_bad.Given as goal

abbrev pub invariant-loop-i : goal.invariant-loop-i
invariant-loop-i l = record {
  allowed : All (Allows l.self) (take l.i l.entries);
  same : l.judge ≡ l.self;
}
