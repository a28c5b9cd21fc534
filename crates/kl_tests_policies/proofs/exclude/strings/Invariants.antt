use Rattle.std.proofs.Common.{◌≤◌, All, length, string_bytes}
use Rattle.kl_tests_policies.proofs.exclude.strings.Given as goal

abbrev pub invariant-loop-text : goal.invariant-loop-text
invariant-loop-text l = All (λ text. length (string_bytes text) ≤ 512) l.all.items
