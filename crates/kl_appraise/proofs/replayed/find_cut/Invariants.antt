-- The value is that of the entries so far, of which no beginning gives the quoted one.
use Rattle.std.proofs.Common.{◌≡◌, ◌+◌, length, map, take}
use Rattle.kl_bank.specs.Banks.{size_of}
use Rattle.kl_pcr.specs.Measured.{measured_of}
use Rattle.kl_pcr.specs.Replay.{folded}
use Rattle.kl_policy.specs.Policy.{IsFirstBad}
use Rattle.kl_appraise.specs.Inner.Listed.{NoneGives}
use Rattle.kl_appraise.proofs.replayed.find_cut.Given as goal

abbrev pub invariant-loop-i : goal.invariant-loop-i
invariant-loop-i g l = record {
  value : l.held ≡ folded l.bank l.base.pcr (map (measured_of l.bank) (take l.i l.entries));
  sized : length l.held ≡ size_of l.bank;
  none : NoneGives l.bank l.base l.entries l.quoted l.i;
  bad : IsFirstBad l.policy (take l.i l.entries) l.bad;
  same : l.judge ≡ l.policy;
  cost : l.steps ≡ l.initial.steps + l.i;
}
