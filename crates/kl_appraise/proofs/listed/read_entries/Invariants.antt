-- The lines so far spell the entries, and the others are left.
use Rattle.std.proofs.Common.{◌≡◌, ℕ, List, ◌++◌}
use Rattle.std.specs.List.{AllZip}
use Rattle.kl_entry.specs.Lines.{lines_of, Spells}
use Rattle.kl_appraise.proofs.listed.read_entries.Given as goal

abbrev pub invariant-loop-line : goal.invariant-loop-line
invariant-loop-line l = (read : List (List ℕ)) × (lines_of l.list ≡ read ++ lines_of l.line-iterator) × AllZip Spells read l.entries.items
