-- The lines so far are read, and the others are left.
use Rattle.std.proofs.Common.{◌≡◌, ◌++◌, length, map}
use Rattle.kl_entry.specs.Lines.{lines_of}
use Rattle.kl_policy.specs.Flat.{LinesCollect}
use Rattle.kl_policy.proofs.flat.collect.Given as goal

abbrev pub invariant-loop-line : goal.invariant-loop-line
invariant-loop-line l = record {
  collected : LinesCollect (map (λ line. line.now) l.yielded) l.digests;
  counted : l.number ≡ length l.yielded;
  cut : map (λ line. line.now) l.yielded ++ lines_of l.line-iterator ≡ lines_of l.text;
}
