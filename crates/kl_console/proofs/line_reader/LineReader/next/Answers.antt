use Rattle.std.proofs.Common.{ap, ◌∙◌}
use Rattle.kl_console.proofs.Gathering.{reads_primed}
use Rattle.kl_console.proofs.line_reader.LineReader.next.Goals as goal

pub returns-clause-reads : goal.returns-clause-reads
returns-clause-reads g c =
    let primed = rw (ap (λ r. r.ahead) c.self.view_is) at c.prime.ensures.bytes in
    let passed = c.prime.ensures.passed ∙ ap (λ r. r.passed) c.self.view_is in
    let reads = rw (ap (λ r. r.ahead) c.self.view_is) at (c.in_ok-prime.ensures.reads c.if-not-branch.false) in
    reads_primed _ _ _ c.args.self.now c.prime.new.self _ _ primed reads passed c.gather.ensures.reads
