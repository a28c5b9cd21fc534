use Rattle.std.proofs.Common.{◌≡◌, length, take}
use Rattle.kl_bank.specs.Banks.{size_of}
use Rattle.kl_pcr.specs.Replay.{folded}
use Rattle.kl_pcr.proofs.extending.replay.Given as goal

abbrev pub invariant-loop-digest : goal.invariant-loop-digest
invariant-loop-digest l = record {
  sized : length l.held ≡ size_of l.bank;
  value : l.held ≡ folded l.bank l.start (take l.digest-index l.with);
}
