use Rattle.std.proofs.Common.{◌-◌, ◌+◌, length}
use Rattle.kl_console.specs.Lines.{line_limit}
use Rattle.kl_console.proofs.Gathering.{Gathered}
use Rattle.kl_console.proofs.line_reader.LineReader.gather.Given as goal

abbrev pub invariant-turns : goal.invariant-turns
invariant-turns g l = Gathered (g.S.Source.told l.fn.source) (g.S.Source.told l.source) l.fn.self l.self

abbrev pub decreases-turns : goal.decreases-turns
decreases-turns g l = line_limit + 1 - length l.self.line
